-- A table of what is found by its name, after one more name.
use Rattle.std.proofs.Common.{◌≡◌, ℕ, suc, ◌+◌, ◌<◌, List, [], ◌∷◌, ◌++◌, length, get_or, drop, add-one, Bool, true, false, ◌||◌, ◌&&◌, ◌==◌, if◌then◌else◌, is_some, refl, sym, ap, ◌∙◌, subst, Vec, arith}
use Rattle.std.specs.Prelude.{Option, Some, None, Result, Ok, Err, OnOk}
use Rattle.std.specs.Result.{is_err, OnErr}
use Rattle.std.specs.Cmp.Lexicographic.{nat_list_eq_equiv, bytes_decides}
use Rattle.std.specs.HashMap.{HashMap, get_by, UpdatesBy}
use Rattle.std.specs.Map.{IsKeyTest, AreApart, KeepsOthers, lookup}
use Rattle.std.specs.Str.{bytes_eq}
use Rattle.std.proofs.lemmas.Bool.{cond-false, cond-true}
use Rattle.cp_lists.proofs.Members.{drop_read}
use Rattle.cp_model.specs.Same.{same_text}
use Rattle.cp_language.specs.Words.{is_one_of}
use Rattle.cp_scope.specs.Places.{place_from, ArePlacesOf}

pub same_text-is : (xs ys : List ℕ) → same_text xs ys ≡ bytes_eq xs ys
same_text-is [] [] = refl
same_text-is [] (y ∷ ys) = refl
same_text-is (x ∷ xs) [] = refl
same_text-is (x ∷ xs) (y ∷ ys) = ap (λ rest. (x == y) && rest) (same_text-is xs ys)

-- what holds after a call that succeeded
pub on_ok : {A E : Type 0} (r : Result A E) (P : Type 0) → is_err r ≡ false → OnOk r P → P
on_ok (Ok x) P e h = h
on_ok (Err y) P e h = absurd (cc)

-- and of one that failed
pub on_err : {A E : Type 0} (r : Result A E) (P : Type 0) → is_err r ≡ true → OnErr r P → P
on_err (Ok x) P e h = absurd (cc)
on_err (Err y) P e h = h

-- ---- an entry that is found, or else another

abbrev pub otherwise : {A : Type 0} → Option A → Option A → Option A
otherwise None o = o
otherwise (Some x) o = Some x

pub otherwise-none : {A : Type 0} (o : Option A) → otherwise o None ≡ o
otherwise-none None = refl
otherwise-none (Some x) = refl

-- how many there are with n before them
abbrev pub count : {A : Type 0} → ℕ → List A → ℕ
count n [] = n
count n (x ∷ xs) = count (suc n) xs

pub count-is : {A : Type 0} (n : ℕ) (xs : List A) → count n xs ≡ n + length xs
count-is n [] = omega arith
count-is n (x ∷ xs) = let rest = count-is (suc n) xs in omega (arith, rest)

pub count-all : {A : Type 0} (xs : List A) → length xs ≡ count 0 xs
count-all xs = let all = count-is 0 xs in omega (arith, all)

pub one_more : {A : Type 0} (b : Bool) (x : A) (rest old new : Option A) → rest ≡ otherwise old new → (if b then Some x else rest) ≡ otherwise (if b then Some x else old) new
one_more true x rest old new e = refl
one_more false x rest old new e = e

-- ---- a table by names

other_keys : {K X : Type 0} (eq : K → K → Bool) (test : K → Bool) (old new : List (K × X)) → KeepsOthers eq test old new → (other : K → Bool) → IsKeyTest eq other → AreApart test other → lookup other new ≡ lookup other old
unfolding KeepsOthers
other_keys eq test old new h = h

pub apart : (bs cs ks : List ℕ) → bytes_eq bs cs ≡ false → bytes_eq bs ks ≡ true → bytes_eq cs ks ≡ false
apart bs cs ks n y = nat_list_eq_equiv.symm cs ks ∙ sym (nat_list_eq_equiv.congr bs ks cs y) ∙ n

module _ {A S X : Type 0} (name : List ℕ) (m n : HashMap (Vec ℕ A) X S) (k : Vec ℕ A) (v : X) where
  found_there : k.items ≡ name → UpdatesBy (λ x y. bytes_eq x.items y.items) (λ y. bytes_eq k.items y.items) m n (Some v) → get_by (λ y. bytes_eq name y.items) n ≡ Some v
  found_there ek u = subst (λ (bs : List ℕ). get_by (λ y. bytes_eq bs y.items) n ≡ Some v) ek u.1

  kept_elsewhere : (t : List ℕ) → bytes_eq name t ≡ false → k.items ≡ name → UpdatesBy (λ x y. bytes_eq x.items y.items) (λ y. bytes_eq k.items y.items) m n (Some v)
      → get_by (λ y. bytes_eq t y.items) n ≡ get_by (λ y. bytes_eq t y.items) m
  kept_elsewhere t e ek u =
      let apart_here : bytes_eq k.items t ≡ false = ap (λ (bs : List ℕ). bytes_eq bs t) ek ∙ e in
      other_keys (λ x y. bytes_eq x.items y.items) (λ y. bytes_eq k.items y.items) m.entries n.entries u.3 (λ y. bytes_eq t y.items) (λ x y. nat_list_eq_equiv.congr t x.items y.items) (λ y. apart k.items t y.items apart_here)

pub none_is : {A : Type 0} (o : Option A) → is_some o ≡ false → o ≡ None
none_is None e = refl
none_is (Some x) e = absurd (cc)

pub some_otherwise : {A : Type 0} (o p : Option A) → is_some o ≡ true → otherwise o p ≡ o
some_otherwise None p e = absurd (cc)
some_otherwise (Some x) p e = refl

-- Where the name is a new one.
module _ {A S X : Type 0} (name : List ℕ) (m n : HashMap (Vec ℕ A) X S) (k : Vec ℕ A) (v : X) (old : List ℕ → Option X) (test : List ℕ → Bool) (y : X)
    (same : (t : List ℕ) → test t ≡ bytes_eq name t) (is : v ≡ y) where
  pub entry-pushed : ((t : List ℕ) → get_by (λ y. bytes_eq t y.items) m ≡ old t) → old name ≡ None → k.items ≡ name
      → UpdatesBy (λ x y. bytes_eq x.items y.items) (λ y. bytes_eq k.items y.items) m n (Some v)
      → (t : List ℕ) → get_by (λ y. bytes_eq t y.items) n ≡ otherwise (old t) (if test t then Some y else None)
  entry-pushed h none ek u t = by_text (bytes_eq name t) refl
    where
      by_text : (b : Bool) → bytes_eq name t ≡ b → get_by (λ y. bytes_eq t y.items) n ≡ otherwise (old t) (if test t then Some y else None)
      by_text true e =
          let this : name ≡ t = (bytes_decides name t).0 e in
          let missing : old t ≡ None = ap old (sym this) ∙ none in
          ap (λ (bs : List ℕ). get_by (λ y. bytes_eq bs y.items) n) (sym this) ∙ found_there name m n k v ek u ∙ ap Some is
          ∙ sym (ap (λ o. otherwise o (if test t then Some y else None)) missing ∙ cond-true (test t) (Some y) None (same t ∙ e))
      by_text false e =
          kept_elsewhere name m n k v t e ek u ∙ h t ∙ sym (ap (otherwise (old t)) (cond-false (test t) (Some y) None (same t ∙ e)) ∙ otherwise-none (old t))

-- Where the name stands in the table.
module _ {Y : Type 0} (name : List ℕ) (old : List ℕ → Option Y) (test : List ℕ → Bool) (y : Y) (same : (t : List ℕ) → test t ≡ bytes_eq name t) where
  pub entry-again : is_some (old name) ≡ true → (t : List ℕ) → old t ≡ otherwise (old t) (if test t then Some y else None)
  entry-again some t = by_text (bytes_eq name t) refl
    where
      by_text : (b : Bool) → bytes_eq name t ≡ b → old t ≡ otherwise (old t) (if test t then Some y else None)
      by_text true e = sym (some_otherwise (old t) (if test t then Some y else None) (ap (λ s. is_some (old s)) (sym ((bytes_decides name t).0 e)) ∙ some))
      by_text false e = sym (ap (otherwise (old t)) (cond-false (test t) (Some y) None (same t ∙ e)) ∙ otherwise-none (old t))

-- ---- names that are found by their places

place-append : (n : ℕ) (xs : List (List ℕ)) (x t : List ℕ) → place_from n (xs ++ x ∷ []) t ≡ otherwise (place_from n xs t) (if same_text t x then Some (count n xs) else None)
place-append n [] x t = refl
place-append n (y ∷ ys) x t = one_more (same_text t y) n _ _ _ (place-append (suc n) ys x t)

module _ (names : List (List ℕ)) (i : ℕ) (x t : List ℕ) (lt : i < length names) (is : x ≡ get_or names i x) where
  place_at : place_from i (drop i names) t ≡ (if same_text t x then Some i else place_from (suc i) (drop (i + 1) names) t)
  place_at = ap (λ (xs : List (List ℕ)). place_from i xs t) (drop_read names i x lt is)

  -- it stands at this place
  pub place_here : bytes_eq t x ≡ true → place_from i (drop i names) t ≡ Some i
  place_here e = place_at ∙ cond-true (same_text t x) (Some i) (place_from (suc i) (drop (i + 1) names) t) (same_text-is t x ∙ e)

  -- or only behind it
  pub place_behind : bytes_eq t x ≡ false → place_from (i + 1) (drop (i + 1) names) t ≡ place_from i (drop i names) t
  place_behind e =
      ap (λ k. place_from k (drop (i + 1) names) t) (add-one i)
      ∙ sym (place_at ∙ cond-false (same_text t x) (Some i) (place_from (suc i) (drop (i + 1) names) t) (same_text-is t x ∙ e))

pub has-place : (n : ℕ) (xs : List (List ℕ)) (t : List ℕ) → is_some (place_from n xs t) ≡ is_one_of t xs
has-place n [] t = refl
has-place n (x ∷ xs) t = by_test (same_text t x) (has-place (suc n) xs t)
  where
    by_test : (b : Bool) → is_some (place_from (suc n) xs t) ≡ is_one_of t xs → is_some (if b then Some n else place_from (suc n) xs t) ≡ (b || is_one_of t xs)
    by_test true e = refl
    by_test false e = e

module _ {A S : Type 0} (names : List (List ℕ)) (name : List ℕ) (m n : HashMap (Vec ℕ A) ℕ S) (k : Vec ℕ A) where
  pub places-pushed : (place : ℕ) → place ≡ length names → ArePlacesOf names m → is_some (get_by (λ y. bytes_eq name y.items) m) ≡ false → k.items ≡ name
      → UpdatesBy (λ x y. bytes_eq x.items y.items) (λ y. bytes_eq k.items y.items) m n (Some place) → ArePlacesOf (names ++ name ∷ []) n
  places-pushed place e h none ek u t =
      entry-pushed name m n k place (place_from 0 names) (λ s. same_text s name) (count 0 names) (λ s. same_text-is s name ∙ nat_list_eq_equiv.symm s name) (e ∙ count-all names)
      h (sym (h name) ∙ none_is _ none) ek u t
      ∙ sym (place-append 0 names name t)

  pub places-again : ArePlacesOf names m → is_some (get_by (λ y. bytes_eq name y.items) m) ≡ true → ArePlacesOf (names ++ name ∷ []) m
  places-again h some t =
      h t ∙ entry-again name (place_from 0 names) (λ s. same_text s name) (count 0 names) (λ s. same_text-is s name ∙ nat_list_eq_equiv.symm s name) (ap is_some (sym (h name)) ∙ some) t
      ∙ sym (place-append 0 names name t)
