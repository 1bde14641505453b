-- Lists whose items already stand in the order in which a report lists them.
use Rattle.std.proofs.Common.{◌≡◌, ℕ, suc, ◌+◌, ◌<◌, ◌≤◌, List, [], ◌∷◌, ◌++◌, length, get_or, map, take, drop, refl, sym, ap, ◌∙◌, subst, arith, Bool, true, false, if◌then◌else◌, ⊎_elim, append_assoc, Option, Some, None}
use Rattle.std.specs.Prelude.{IfSome}
use Rattle.std.specs.List.{filter}
use Rattle.std.proofs.lemmas.List.{map-append, take-append-drop, take_all, length-take-le}
use Rattle.std.proofs.lemmas.List.Elements.{filter-append}
use Rattle.cp_lists.specs.Lists.{IsIn, here, there}
use Rattle.cp_lists.proofs.Fronts.{take_next}
use Rattle.cp_lists.proofs.Items.{item_of_read}
use Rattle.cp_lists.proofs.Members.{drop_read, only_item, not_in_none, item_is_in, in_append, in_append_right}
use Rattle.cp_model.specs.Skeleton.{SkeletonStrand, instance, listener, Assumptions, Skeleton}
use Rattle.cp_model.specs.Given.{has_atom, atoms_onto, has_unique, uniques_onto, applying, applying_uniques, given_non, given_penetrator_non, given_uniques, listed}
use Rattle.cp_model.specs.GivenAssumptions.{IsEachOnce}
use Rattle.cp_model.proofs.Gathered.{IsGathering, onto-append, atoms, uniques}
use Rattle.cp_strand.specs.declared.given.IndexedUnique.{IndexedUnique}
use Rattle.cp_strand.specs.declared.given.Given.{Given}
use Rattle.cp_strand.specs.Givens.{unique_on, IsGivenBy}
use Rattle.cp_skel.specs.declared.already_listed.Counts.{Counts}
use Rattle.cp_skel.specs.InOrder.{ListsTo, AreCountsWithin, none_listed, these, given_from, ListEach}
use Rattle.cp_skel.proofs.EachOnce.{onto-known, onto-new, is-new}

pub one-more : {A : Type 0} (xs : List A) (i : ℕ) (x : A) → i < length xs → x ≡ get_or xs i x → take (i + 1) xs ≡ take i xs ++ x ∷ []
one-more xs i x lt is = sym (take_next xs i x (item_of_read xs i x lt is))

pub none-first : {A : Type 0} (xs : List A) → take 0 xs ≡ []
none-first [] = refl
none-first (x ∷ xs) = refl

-- Where each item stands once, none of the first ones stands behind them.
once-apart : {A : Type 0} (xs ys : List A) → IsEachOnce (xs ++ ys) → (v : A) → IsIn v xs → IsIn v ys → ⊥
once-apart [] ys once v i j = not_in_none i
once-apart (x ∷ xs) ys once v here j = once.0 (in_append_right xs j)
once-apart (x ∷ xs) ys once v (there i) j = once-apart xs ys once.1 v i j

once-behind : {A : Type 0} (xs ys : List A) → IsEachOnce (xs ++ ys) → IsEachOnce ys
once-behind [] ys once = once
once-behind (x ∷ xs) ys once = once-behind xs ys once.1

not_before : {A : Type 0} (xs : List A) (n : ℕ) (v : A) → IsEachOnce xs → n < length xs → v ≡ get_or xs n v → IsIn v (take n xs) → ⊥
not_before xs n v once lt is i =
    once-apart (take n xs) (drop n xs) (subst IsEachOnce (sym (take-append-drop n xs)) once) v i (subst (IsIn v) (sym (drop_read xs n v lt is)) here)

module _ {A : Type 0} {has : List A → A → Bool} {onto : List A → List A → List A} (g : IsGathering has onto) (old : List A) where
  pub lists-none : (m : ℕ) → m ≤ length old → ListsTo has onto old m [] m
  lists-none m le = (le, λ once. g.ends (take m old))

  pub lists-then : (xs ys : List A) (m n k : ℕ) → ListsTo has onto old m xs n → ListsTo has onto old n ys k → ListsTo has onto old m (xs ++ ys) k
  lists-then xs ys m n k p q = (
    q.0,
    λ once. ap (onto (take m old)) (filter-append (has old) xs ys) ∙ onto-append g (take m old) (filter (has old) xs) (filter (has old) ys)
        ∙ ap (λ zs. onto zs (filter (has old) ys)) (p.1 once) ∙ q.1 once,
  )

  -- ---- one item

  known-one : (m : ℕ) (v : A) (b : Bool) → IsIn v (take m old) → onto (take m old) (if b then v ∷ [] else []) ≡ take m old
  known-one m v true i = onto-known g (take m old) (v ∷ []) (λ w j. subst (λ y. IsIn y (take m old)) (sym (only_item j)) i)
  known-one m v false i = g.ends (take m old)

  pub lists-known : (m : ℕ) (v : A) → m ≤ length old → IsIn v (take m old) → ListsTo has onto old m (v ∷ []) m
  lists-known m v le i = (le, λ once. known-one m v (has old v) i)

  filtered : (m : ℕ) (v : A) (b : Bool) → has old v ≡ b → onto (take m old) (filter (has old) (v ∷ [])) ≡ onto (take m old) (if b then v ∷ [] else [])
  filtered m v b e = ap (λ c. onto (take m old) (if c then v ∷ [] else [])) e

  pub lists-next : (m : ℕ) (v : A) → m < length old → v ≡ get_or old m v → ListsTo has onto old m (v ∷ []) (m + 1)
  lists-next m v lt is = (
    omega (arith, lt),
    λ once. filtered m v true (g.finds old v (item_is_in old m v lt is))
        ∙ onto-new g (take m old) (v ∷ []) ((λ i. not_in_none i), tt) (λ w i j. not_before old m v once lt is (subst (λ y. IsIn y (take m old)) (only_item i) j))
        ∙ sym (one-more old m v lt is),
  )

  pub lists-other : (m : ℕ) (v : A) → m ≤ length old → (IsIn v (take m old) → ⊥) → (IsIn v (drop m old) → ⊥) → ListsTo has onto old m (v ∷ []) m
  lists-other m v le before behind = (
    le,
    λ once. filtered m v false (is-new g old v (λ i. ⊎_elim before behind (in_append (take m old) (drop m old) (subst (IsIn v) (sym (take-append-drop m old)) i))))
        ∙ g.ends (take m old),
  )

  -- ---- item by item

  pub lists-more : (xs : List A) (m n k i : ℕ) (v : A) → i < length xs → v ≡ get_or xs i v → ListsTo has onto old m (take i xs) n → ListsTo has onto old n (v ∷ []) k
      → ListsTo has onto old m (take (i + 1) xs) k
  lists-more xs m n k i v lt is p q =
      subst (λ ys. ListsTo has onto old m ys k) (sym (one-more xs i v lt is)) (lists-then (take i xs) (v ∷ []) m n k p q)

  pub lists-start : {B : Type 0} (f : List B → List A) (xs : List B) (m : ℕ) → f [] ≡ [] → m ≤ length old → ListsTo has onto old m (f (take 0 xs)) m
  lists-start f xs m e le = subst (λ ys. ListsTo has onto old m ys m) (sym (ap f (none-first xs) ∙ e)) (lists-none m le)

  pub lists-all : {B : Type 0} (f : List B → List A) (xs : List B) (m n i : ℕ) → length xs ≤ i → ListsTo has onto old m (f (take i xs)) n → ListsTo has onto old m (f xs) n
  lists-all f xs m n i le p = subst (λ ys. ListsTo has onto old m (f ys) n) (take_all i xs le) p

  -- A loop over what gives items, of which each gives some behind those of the earlier ones.
  pub lists-given : {B : Type 0} (f : List B → List A) (bs : List B) (ys zs : List A) (m n k i : ℕ) (b : B) → i < length bs → b ≡ get_or bs i b
      → f (take i bs ++ b ∷ []) ≡ f (take i bs) ++ zs → ys ≡ zs → ListsTo has onto old m (f (take i bs)) n → ListsTo has onto old n ys k
      → ListsTo has onto old m (f (take (i + 1) bs)) k
  lists-given f bs ys zs m n k i b lt is joined same p q =
      subst (λ us. ListsTo has onto old m us k) (sym (ap f (one-more bs i b lt is) ∙ joined ∙ ap (λ us. f (take i bs) ++ us) (sym same))) (lists-then (f (take i bs)) ys m n k p q)

  -- ---- items each of which stands once

  pub put-again : (n : ℕ) → IsEachOnce old → onto (take n old) old ≡ old
  put-again n once =
      ap (onto (take n old)) (sym (take-append-drop n old)) ∙ onto-append g (take n old) (take n old) (drop n old)
      ∙ ap (λ b. onto b (drop n old)) (onto-known g (take n old) (take n old) (λ v j. j))
      ∙ onto-new g (take n old) (drop n old) (once-behind (take n old) (drop n old) (split-once n once)) (λ v i j. once-apart (take n old) (drop n old) (split-once n once) v j i)
      ∙ take-append-drop n old
    where
      split-once : (n : ℕ) → IsEachOnce old → IsEachOnce (take n old ++ drop n old)
      split-once n once = subst IsEachOnce (sym (take-append-drop n old)) once

  -- ---- the whole list

  pub listed-already : (own given : List A) (m n : ℕ) → ListsTo has onto old 0 own m → ListsTo has onto old m given n → IsEachOnce old
      → onto [] (filter (has old) (own ++ given) ++ old) ≡ old
  listed-already own given m n p q once =
      let both = lists-then own given 0 m n p q in
      onto-append g [] (filter (has old) (own ++ given)) old
      ∙ ap (λ zs. onto zs old) (ap (λ zs. onto zs (filter (has old) (own ++ given))) (sym (none-first old)) ∙ both.1 once) ∙ put-again n once

-- ---- what strands give

pub joined_non : (xs ys : List SkeletonStrand) → given_non (xs ++ ys) ≡ given_non xs ++ given_non ys
joined_non [] ys = refl
joined_non (listener t ∷ xs) ys = joined_non xs ys
joined_non (instance role height terms ∷ xs) ys =
    ap (λ zs. applying role height terms role.non_originating ++ zs) (joined_non xs ys) ∙ sym (append_assoc (applying role height terms role.non_originating) (given_non xs) (given_non ys))

pub joined_penetrator_non : (xs ys : List SkeletonStrand) → given_penetrator_non (xs ++ ys) ≡ given_penetrator_non xs ++ given_penetrator_non ys
joined_penetrator_non [] ys = refl
joined_penetrator_non (listener t ∷ xs) ys = joined_penetrator_non xs ys
joined_penetrator_non (instance role height terms ∷ xs) ys =
    ap (λ zs. applying role height terms role.penetrator_non_originating ++ zs) (joined_penetrator_non xs ys)
    ∙ sym (append_assoc (applying role height terms role.penetrator_non_originating) (given_penetrator_non xs) (given_penetrator_non ys))

pub joined_uniques : (s n : ℕ) (xs ys : List SkeletonStrand) → s + length xs ≡ n → given_uniques s (xs ++ ys) ≡ given_uniques s xs ++ given_uniques n ys
joined_uniques s n [] ys e = ap (λ m. given_uniques m ys) (omega (arith, e))
joined_uniques s n (listener t ∷ xs) ys e = joined_uniques (suc s) n xs ys (omega (arith, e))
joined_uniques s n (instance role height terms ∷ xs) ys e =
    ap (λ zs. applying_uniques role height terms s role.uniquely_originating ++ zs) (joined_uniques (suc s) n xs ys (omega (arith, e)))
    ∙ sym (append_assoc (applying_uniques role height terms s role.uniquely_originating) (given_uniques (suc s) xs) (given_uniques n ys))

pub uniques_more : (ks : List SkeletonStrand) (i : ℕ) (k : SkeletonStrand) → i < length ks → given_uniques 0 (take i ks ++ k ∷ []) ≡ given_uniques 0 (take i ks) ++ given_uniques i (k ∷ [])
uniques_more ks i k lt =
    let n : length (take i ks) ≡ i = length-take-le i ks (omega (arith, lt)) in
    joined_uniques 0 i (take i ks) (k ∷ []) (omega (arith, n))

pub indexed_more : (s : ℕ) (us : List IndexedUnique) (i : ℕ) (u : IndexedUnique) → map (unique_on s) (take i us ++ u ∷ []) ≡ map (unique_on s) (take i us) ++ unique_on s u ∷ []
indexed_more s us i u = map-append (unique_on s) (take i us) (u ∷ [])

-- ---- all three kinds

pub each_given : (old : Assumptions) (m n : Counts) (s : ℕ) (g : Given) (k : SkeletonStrand) → IsGivenBy k g → ListEach old m (these s g) n → ListEach old m (given_from s (k ∷ [])) n
each_given old m n s g k given e = record {
  non = subst (λ vs. ListsTo has_atom atoms_onto old.non_originating m.non_originating vs n.non_originating) given.non e.non;
  penetrator_non = subst (λ vs. ListsTo has_atom atoms_onto old.penetrator_non_originating m.penetrator_non_originating vs n.penetrator_non_originating) given.penetrator_non e.penetrator_non;
  unique = subst (λ us. ListsTo has_unique uniques_onto old.uniquely_originating m.uniquely_originating us n.uniquely_originating) (given.unique s) e.unique;
}

pub each_within : (old stated : Assumptions) (m n : Counts) → ListEach old m stated n → AreCountsWithin old n
each_within old stated m n e = record { non = e.non.0; penetrator_non = e.penetrator_non.0; unique = e.unique.0 }

pub each_start : (old : Assumptions) (m : Counts) (ks : List SkeletonStrand) → AreCountsWithin old m → ListEach old m (given_from 0 (take 0 ks)) m
each_start old m ks w = record {
  non = lists-start atoms old.non_originating given_non ks m.non_originating refl w.non;
  penetrator_non = lists-start atoms old.penetrator_non_originating given_penetrator_non ks m.penetrator_non_originating refl w.penetrator_non;
  unique = lists-start uniques old.uniquely_originating (given_uniques 0) ks m.uniquely_originating refl w.unique;
}

pub each_more : (old : Assumptions) (m n l : Counts) (ks : List SkeletonStrand) (i : ℕ) (k : SkeletonStrand) → i < length ks → k ≡ get_or ks i k
    → ListEach old m (given_from 0 (take i ks)) n → ListEach old n (given_from i (k ∷ [])) l → ListEach old m (given_from 0 (take (i + 1) ks)) l
each_more old m n l ks i k lt is p q = record {
  non = lists-given atoms old.non_originating given_non ks _ _ m.non_originating n.non_originating l.non_originating i k lt is (joined_non (take i ks) (k ∷ [])) refl p.non q.non;
  penetrator_non = lists-given atoms old.penetrator_non_originating given_penetrator_non ks _ _ m.penetrator_non_originating n.penetrator_non_originating l.penetrator_non_originating i k lt is
      (joined_penetrator_non (take i ks) (k ∷ [])) refl p.penetrator_non q.penetrator_non;
  unique = lists-given uniques old.uniquely_originating (given_uniques 0) ks _ _ m.uniquely_originating n.uniquely_originating l.uniquely_originating i k lt is
      (uniques_more ks i k lt) refl p.unique q.unique;
}

pub each_all : (old : Assumptions) (m n : Counts) (ks : List SkeletonStrand) (i : ℕ) → length ks ≤ i → ListEach old m (given_from 0 (take i ks)) n → ListEach old m (given_from 0 ks) n
each_all old m n ks i le p = subst (λ js. ListEach old m (given_from 0 js) n) (take_all i ks le) p

pub each_listed : (k : Skeleton) (m n : Counts) → ListEach k.assumptions none_listed k.from_problem.assumptions m → ListEach k.assumptions m (given_from 0 k.strands) n
    → IsEachOnce k.assumptions.non_originating → IsEachOnce k.assumptions.penetrator_non_originating → IsEachOnce k.assumptions.uniquely_originating
    → listed k ≡ k.assumptions
each_listed k m n p q a b c =
    let own = k.from_problem.assumptions in
    λ i. record {
      non_originating = listed-already atoms k.assumptions.non_originating own.non_originating (given_non k.strands) m.non_originating n.non_originating p.non q.non a i;
      penetrator_non_originating = listed-already atoms k.assumptions.penetrator_non_originating own.penetrator_non_originating (given_penetrator_non k.strands)
          m.penetrator_non_originating n.penetrator_non_originating p.penetrator_non q.penetrator_non b i;
      uniquely_originating = listed-already uniques k.assumptions.uniquely_originating own.uniquely_originating (given_uniques 0 k.strands)
          m.uniquely_originating n.uniquely_originating p.unique q.unique c i;
    }

pub list_moved : {A : Type 0} (has : List A → A → Bool) (onto : List A → List A → List A) (read old stated own : List A) (m n : ℕ) → read ≡ old → stated ≡ own → ListsTo has onto read m stated n → ListsTo has onto old m own n
list_moved has onto read old stated own m n e f l = subst (λ xs. ListsTo has onto old m xs n) f (subst (λ ys. ListsTo has onto ys m stated n) e l)

pub some_given : (r : Option Counts) (old : Assumptions) (m : Counts) (s : ℕ) (g : Given) (k : SkeletonStrand) → IsGivenBy k g → IfSome r (λ n. ListEach old m (these s g) n)
    → IfSome r (λ n. ListEach old m (given_from s (k ∷ [])) n)
some_given None old m s g k given h = tt
some_given (Some n) old m s g k given h = each_given old m n s g k given h

pub listed_of : (k : Skeleton) (old own : Assumptions) (ks : List SkeletonStrand) (m n : Counts) → old ≡ k.assumptions → own ≡ k.from_problem.assumptions → ks ≡ k.strands
    → ListEach old none_listed own m → ListEach old m (given_from 0 ks) n
    → IsEachOnce k.assumptions.non_originating → IsEachOnce k.assumptions.penetrator_non_originating → IsEachOnce k.assumptions.uniquely_originating
    → listed k ≡ k.assumptions
listed_of k old own ks m n e f s p q a b c =
    each_listed k m n
    (subst (λ o. ListEach o none_listed k.from_problem.assumptions m) e (subst (λ w. ListEach old none_listed w m) f p))
    (subst (λ o. ListEach o m (given_from 0 k.strands) n) e (subst (λ js. ListEach old m (given_from 0 js) n) s q))
    a b c

pub some_listed : {A : Type 0} (has : List A → A → Bool) (onto : List A → List A → List A) (r : Option ℕ) (old : List A) (m : ℕ) {u v : A} → u ≡ v
    → IfSome r (λ n. ListsTo has onto old m (u ∷ []) n) → IfSome r (λ n. ListsTo has onto old m (v ∷ []) n)
some_listed has onto r old m e h = subst (λ w. IfSome r (λ n. ListsTo has onto old m (w ∷ []) n)) e h
