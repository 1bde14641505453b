-- The names of a label's variables are different: a name that is given is none of those that are taken.
use Rattle.std.proofs.Common.{◌≡◌, ◌⊎◌, inl, inr, ℕ, zero, suc, ◌+◌, ◌-◌, ◌<◌, ◌≤◌, ◌^◌, List, [], ◌∷◌, ◌++◌, length, Bool, true, false, refl, sym, ap, ◌∙◌, subst, arith, if◌then◌else◌, codes, decimal}
use Rattle.std.specs.Prelude.{Some}
use Rattle.std.proofs.lemmas.Bool.{both_ways, cases_lt}
use Rattle.std.proofs.lemmas.Fmt.{decimal_injective}
use Rattle.std.proofs.lemmas.List.{length-append, append_cancel_left}
use Rattle.std.proofs.Math.Nat.{suc_inj}
use Rattle.cp_lists.specs.Lists.{item_at, IsIn, here, there}
use Rattle.cp_lists.proofs.Items.{at_place, item_in_front, place_of as place_in, item_behind, some_same}
use Rattle.cp_lists.proofs.Members.{in_append, in_append_left, in_last}
use Rattle.cp_lists.proofs.Without.{too_many}
use Rattle.cp_model.specs.declared.variable.Variable.{Variable}
use Rattle.cp_model.specs.declared.variable.Declaration.{Declaration}
use Rattle.cp_language.specs.Words.{is_one_of}
use Rattle.cp_language.specs.Names.{numbered_name, first_numbered, free_name, identifiers_in, names_onto, first_of, behind, problem_names, has_number, later_names, label_names}
use Rattle.cp_language.proofs.ValidTests.{one_of, is_one}

-- ---- numbered names

numbered_differ : (x : List ℕ) (m n : ℕ) → m < 2 ^ 64 → n < 2 ^ 64 → numbered_name x m ≡ numbered_name x n → m ≡ n
numbered_differ x m n p q e = decimal_injective m n p q (append_cancel_left (x ++ codes "-") (decimal m) (decimal n) e)

-- Where the name that is found is taken, all that were tried are.
tried : (fuel : ℕ) (taken : List (List ℕ)) (x : List ℕ) (n k : ℕ) → IsIn (first_numbered fuel taken x n) taken → n ≤ k → k ≤ n + fuel → IsIn (numbered_name x k) taken
tried zero taken x n k m p q = let e : n ≡ k = omega arith in subst (λ (j : ℕ). IsIn (numbered_name x j) taken) e m
tried (suc fuel) taken x n k m p q = by (is_one_of (numbered_name x n) taken) refl m (tried fuel taken x (suc n) k)
  where
    further : (n < k) ⊎ (n ≡ k) → IsIn (numbered_name x n) taken → (suc n ≤ k → k ≤ suc n + fuel → IsIn (numbered_name x k) taken) → IsIn (numbered_name x k) taken
    further (inl l) i rest = rest (omega arith) (omega arith)
    further (inr e) i rest = subst (λ (j : ℕ). IsIn (numbered_name x j) taken) e i

    less_or_same : (n < k) ⊎ (k ≤ n) → (n < k) ⊎ (n ≡ k)
    less_or_same (inl l) = inl l
    less_or_same (inr l) = inr (omega arith)

    by : (b : Bool) → is_one_of (numbered_name x n) taken ≡ b → IsIn (if b then first_numbered fuel taken x (suc n) else numbered_name x n) taken
        → (IsIn (first_numbered fuel taken x (suc n)) taken → suc n ≤ k → k ≤ suc n + fuel → IsIn (numbered_name x k) taken) → IsIn (numbered_name x k) taken
    by true e i rest = further (less_or_same (cases_lt n k)) (one_of (numbered_name x n) taken e) (rest i)
    by false e i rest = absurd (both_ways (is_one_of (numbered_name x n) taken) e (is_one (numbered_name x n) taken i))

numbered_free : (taken : List (List ℕ)) (x : List ℕ) → length taken < 2 ^ 64 → IsIn (first_numbered (length taken) taken x 0) taken → ⊥
numbered_free taken x small m =
    too_many (length taken) (numbered_name x) (λ i j p q e. numbered_differ x i j (omega arith) (omega arith) e) taken refl (λ i p. tried (length taken) taken x 0 i m (omega arith) (omega arith))

-- A name that is given is not taken.
pub name_is_free : (taken : List (List ℕ)) (x : List ℕ) → length taken < 2 ^ 64 → IsIn (free_name taken x) taken → ⊥
name_is_free taken x small m = by (is_one_of x taken) refl m
  where
    by : (b : Bool) → is_one_of x taken ≡ b → IsIn (if b then first_numbered (length taken) taken x 0 else x) taken → ⊥
    by true e i = numbered_free taken x small i
    by false e i = both_ways (is_one_of x taken) e (is_one x taken i)

-- ---- lists of names

-- Two places with one name are one.
abbrev pub AreDifferent : List (List ℕ) → Type 0
AreDifferent names = (i j : ℕ) (t : List ℕ) → item_at names i ≡ Some t → item_at names j ≡ Some t → i ≡ j

-- names that are given one by one are new, and different
onto_new : (taken : List (List ℕ)) (ds : List Declaration) → length taken + length ds < 2 ^ 64 → (i : ℕ) (t : List ℕ) → item_at (names_onto taken ds) i ≡ Some t → IsIn t taken → ⊥
onto_new taken [] small i t e m = absurd (cc)
onto_new taken (d ∷ ds) small zero t e m =
    name_is_free taken d.identifier (omega arith) (subst (λ (u : List ℕ). IsIn u taken) (sym (some_same e)) m)
onto_new taken (d ∷ ds) small (suc i) t e m =
    let x : List ℕ = free_name taken d.identifier in
    let more : length (taken ++ x ∷ []) ≡ length taken + 1 = length-append taken (x ∷ []) in
    onto_new (taken ++ x ∷ []) ds (omega arith) i t e (in_append_left (x ∷ []) m)

pub onto_different : (taken : List (List ℕ)) (ds : List Declaration) → length taken + length ds < 2 ^ 64 → AreDifferent (names_onto taken ds)
onto_different taken [] small i j t e f = absurd (cc)
onto_different taken (d ∷ ds) small zero zero t e f = refl
onto_different taken (d ∷ ds) small zero (suc j) t e f =
    let x : List ℕ = free_name taken d.identifier in
    let more : length (taken ++ x ∷ []) ≡ length taken + 1 = length-append taken (x ∷ []) in
    absurd (onto_new (taken ++ x ∷ []) ds (omega arith) j t f (subst (λ (u : List ℕ). IsIn u (taken ++ x ∷ [])) (some_same e) (in_last taken x)))
onto_different taken (d ∷ ds) small (suc i) zero t e f =
    let x : List ℕ = free_name taken d.identifier in
    let more : length (taken ++ x ∷ []) ≡ length taken + 1 = length-append taken (x ∷ []) in
    absurd (onto_new (taken ++ x ∷ []) ds (omega arith) i t e (subst (λ (u : List ℕ). IsIn u (taken ++ x ∷ [])) (some_same f) (in_last taken x)))
onto_different taken (d ∷ ds) small (suc i) (suc j) t e f =
    let x : List ℕ = free_name taken d.identifier in
    let more : length (taken ++ x ∷ []) ≡ length taken + 1 = length-append taken (x ∷ []) in
    ap suc (onto_different (taken ++ x ∷ []) ds (omega arith) i j t e f)

-- the first of such names stands at no later place
first_once : (x : List ℕ) (xs ys : List (List ℕ)) → AreDifferent (x ∷ xs) → ((i : ℕ) (t : List ℕ) → item_at ys i ≡ Some t → IsIn t (x ∷ xs) → ⊥) → (t : List ℕ) → Some x ≡ Some t → IsIn t xs ⊎ IsIn t ys → ⊥
first_once x xs ys p new t e (inl m) = let r = place_in m in let z : 0 ≡ suc r.0 = p 0 (suc r.0) t e r.1 in absurd (omega arith)
first_once x xs ys p new t e (inr m) = let r = place_in m in new r.0 t r.1 (subst (λ (u : List ℕ). IsIn u (x ∷ xs)) (some_same e) here)

-- a list of different names, and different ones that are none of them
both_different : (xs ys : List (List ℕ)) → AreDifferent xs → AreDifferent ys → ((i : ℕ) (t : List ℕ) → item_at ys i ≡ Some t → IsIn t xs → ⊥) → AreDifferent (xs ++ ys)
both_different [] ys p q new i j t e f = q i j t e f
both_different (x ∷ xs) ys p q new zero zero t e f = refl
both_different (x ∷ xs) ys p q new zero (suc j) t e f = absurd (first_once x xs ys p new t e (in_append xs ys (at_place (xs ++ ys) j t f)))
both_different (x ∷ xs) ys p q new (suc i) zero t e f = absurd (first_once x xs ys p new t f (in_append xs ys (at_place (xs ++ ys) i t e)))
both_different (x ∷ xs) ys p q new (suc i) (suc j) t e f =
    ap suc (both_different xs ys (λ a b u g h. suc_inj (p (suc a) (suc b) u g h)) q (λ k u g m. new k u g (there m)) i j t e f)

-- ---- the names of a problem

length_split : (n : ℕ) (ds : List Declaration) → length (identifiers_in (first_of n ds)) + length (behind n ds) ≡ length ds
length_split zero ds = omega arith
length_split (suc n) [] = refl
length_split (suc n) (d ∷ ds) = let h : length (identifiers_in (first_of n ds)) + length (behind n ds) ≡ length ds = length_split n ds in omega arith

onto_as_many : (taken : List (List ℕ)) (ds : List Declaration) → length (names_onto taken ds) ≡ length ds
onto_as_many taken [] = refl
onto_as_many taken (d ∷ ds) = ap suc (onto_as_many (taken ++ free_name taken d.identifier ∷ []) ds)

pub as_many_names : (declared : ℕ) (ds : List Declaration) → length (problem_names declared ds) ≡ length ds
as_many_names declared ds =
    let first : List (List ℕ) = identifiers_in (first_of declared ds) in
    length-append first (names_onto first (behind declared ds)) ∙ ap (λ (n : ℕ). length first + n) (onto_as_many first (behind declared ds)) ∙ length_split declared ds

-- The names of a problem's variables are different where its declared identifiers are.
pub problem_different : (declared : ℕ) (ds : List Declaration) → length ds < 2 ^ 64 → AreDifferent (identifiers_in (first_of declared ds)) → AreDifferent (problem_names declared ds)
problem_different declared ds small apart =
    let first : List (List ℕ) = identifiers_in (first_of declared ds) in
    let enough : length first + length (behind declared ds) < 2 ^ 64 = omega (arith, length_split declared ds) in
    both_different first (names_onto first (behind declared ds)) apart (onto_different first (behind declared ds) enough) (onto_new first (behind declared ds) enough)

-- ---- the names of a label

-- Two variables that occur and have one name are one.
abbrev pub DifferWhereOccurring : List Variable → List (List ℕ) → Type 0
DifferWhereOccurring occurs names = (i j : ℕ) (t : List ℕ) → has_number occurs i ≡ true → has_number occurs j ≡ true → item_at names i ≡ Some t → item_at names j ≡ Some t → i ≡ j

module _ (occurs : List Variable) where
  one_on : (n j : ℕ) → has_number occurs (n + suc j) ≡ true → has_number occurs (suc n + j) ≡ true
  one_on n j h = let e : n + suc j ≡ suc n + j = omega arith in subst (λ (k : ℕ). has_number occurs k ≡ true) e h

  itself_on : (n : ℕ) → has_number occurs (n + 0) ≡ true → has_number occurs n ≡ true
  itself_on n h = let e : n + 0 ≡ n = omega arith in subst (λ (k : ℕ). has_number occurs k ≡ true) e h

  later_new : (taken : List (List ℕ)) (n : ℕ) (ds : List Declaration) → length taken + length ds < 2 ^ 64 → (j : ℕ) (t : List ℕ) → has_number occurs (n + j) ≡ true →
      item_at (later_names taken occurs n ds) j ≡ Some t → IsIn t taken → ⊥
  later_new taken n [] small j t h e m = absurd (cc)
  later_new taken n (d ∷ ds) small j t h e m = by (has_number occurs n) refl j h e (later_new (taken ++ x ∷ []) (suc n) ds (omega (arith, more))) (later_new taken (suc n) ds (omega arith))
    where
      x : List ℕ
      x = free_name taken d.identifier

      more : length (taken ++ x ∷ []) ≡ length taken + 1
      more = length-append taken (x ∷ [])

      by : (b : Bool) → has_number occurs n ≡ b → (j : ℕ) → has_number occurs (n + j) ≡ true
          → item_at (if b then x ∷ later_names (taken ++ x ∷ []) occurs (suc n) ds else [] ∷ later_names taken occurs (suc n) ds) j ≡ Some t
          → ((k : ℕ) (u : List ℕ) → has_number occurs (suc n + k) ≡ true → item_at (later_names (taken ++ x ∷ []) occurs (suc n) ds) k ≡ Some u → IsIn u (taken ++ x ∷ []) → ⊥)
          → ((k : ℕ) (u : List ℕ) → has_number occurs (suc n + k) ≡ true → item_at (later_names taken occurs (suc n) ds) k ≡ Some u → IsIn u taken → ⊥) → ⊥
      by true p zero g f with_x without_x = name_is_free taken d.identifier (omega arith) (subst (λ (u : List ℕ). IsIn u taken) (sym (some_same f)) m)
      by true p (suc k) g f with_x without_x = with_x k t (one_on n k g) f (in_append_left (x ∷ []) m)
      by false p zero g f with_x without_x = both_ways (has_number occurs n) p (itself_on n g)
      by false p (suc k) g f with_x without_x = without_x k t (one_on n k g) f m

  abbrev DifferFrom : ℕ → List (List ℕ) → Type 0
  DifferFrom n names = (i j : ℕ) (t : List ℕ) → has_number occurs (n + i) ≡ true → has_number occurs (n + j) ≡ true → item_at names i ≡ Some t → item_at names j ≡ Some t → i ≡ j

  later_different : (taken : List (List ℕ)) (n : ℕ) (ds : List Declaration) → length taken + length ds < 2 ^ 64 → DifferFrom n (later_names taken occurs n ds)
  later_different taken n [] small = none_there
    where
      none_there : DifferFrom n []
      none_there i j t g h e f = absurd (cc)
  later_different taken n (d ∷ ds) small = by (has_number occurs n) refl (later_different (taken ++ x ∷ []) (suc n) ds (omega (arith, more))) (later_different taken (suc n) ds (omega arith))
    where
      x : List ℕ
      x = free_name taken d.identifier

      more : length (taken ++ x ∷ []) ≡ length taken + 1
      more = length-append taken (x ∷ [])

      never : (k : ℕ) (t : List ℕ) → has_number occurs (n + suc k) ≡ true → item_at (later_names (taken ++ x ∷ []) occurs (suc n) ds) k ≡ Some t → x ≡ t → ⊥
      never k t h f same = later_new (taken ++ x ∷ []) (suc n) ds (omega (arith, more)) k t (one_on n k h) f (subst (λ (u : List ℕ). IsIn u (taken ++ x ∷ [])) same (in_last taken x))

      by : (b : Bool) → has_number occurs n ≡ b → DifferFrom (suc n) (later_names (taken ++ x ∷ []) occurs (suc n) ds) → DifferFrom (suc n) (later_names taken occurs (suc n) ds)
          → DifferFrom n (if b then x ∷ later_names (taken ++ x ∷ []) occurs (suc n) ds else [] ∷ later_names taken occurs (suc n) ds)
      by true p with_x without_x zero zero t g h e f = refl
      by true p with_x without_x zero (suc j) t g h e f = absurd (never j t h f (some_same e))
      by true p with_x without_x (suc i) zero t g h e f = absurd (never i t g e (some_same f))
      by true p with_x without_x (suc i) (suc j) t g h e f = ap suc (with_x i j t (one_on n i g) (one_on n j h) e f)
      by false p with_x without_x zero j t g h e f = absurd (both_ways (has_number occurs n) p (itself_on n g))
      by false p with_x without_x (suc i) zero t g h e f = absurd (both_ways (has_number occurs n) p (itself_on n h))
      by false p with_x without_x (suc i) (suc j) t g h e f = ap suc (without_x i j t (one_on n i g) (one_on n j h) e f)

  -- a name before those that are given, or one of them
  abbrev FrontOrBehind : List (List ℕ) → List (List ℕ) → ℕ → List ℕ → Type 0
  FrontOrBehind xs ys i t = ((i < length xs) × (item_at xs i ≡ Some t)) ⊎ ((k : ℕ) × (i ≡ length xs + k) × (item_at ys k ≡ Some t))

  front_or_behind : (xs ys : List (List ℕ)) (i : ℕ) (t : List ℕ) → item_at (xs ++ ys) i ≡ Some t → FrontOrBehind xs ys i t
  front_or_behind xs ys i t e = by (cases_lt i (length xs))
    where
      by : (i < length xs) ⊎ (length xs ≤ i) → FrontOrBehind xs ys i t
      by (inl l) = inl (l, sym (item_in_front xs ys i l) ∙ e)
      by (inr l) =
          let k : ℕ = i - length xs in
          let at : i ≡ length xs + k = omega arith in
          inr (k, at, sym (item_behind xs ys k) ∙ sym (ap (item_at (xs ++ ys)) at) ∙ e)

  -- The names of a label's variables that occur are different where those of the problem's are.
  pub names_different : (of_problem : List (List ℕ)) (variables : List Declaration) → length of_problem + length (behind (length of_problem) variables) < 2 ^ 64 → AreDifferent of_problem
      → DifferWhereOccurring occurs (label_names of_problem occurs variables)
  names_different of_problem variables small apart i j t g h e f = by (front_or_behind of_problem later i t e) (front_or_behind of_problem later j t f)
    where
      later : List (List ℕ)
      later = later_names of_problem occurs (length of_problem) (behind (length of_problem) variables)

      at_later : (k l : ℕ) → l ≡ length of_problem + k → has_number occurs l ≡ true → has_number occurs (length of_problem + k) ≡ true
      at_later k l p q = subst (λ (n : ℕ). has_number occurs n ≡ true) p q

      apart_from : (a b k : ℕ) → item_at of_problem a ≡ Some t → b ≡ length of_problem + k → has_number occurs b ≡ true → item_at later k ≡ Some t → ⊥
      apart_from a b k p q r s =
          later_new of_problem (length of_problem) (behind (length of_problem) variables) small k t (at_later k b q r) s (at_place of_problem a t p)

      by : FrontOrBehind of_problem later i t → FrontOrBehind of_problem later j t → i ≡ j
      by (inl a) (inl b) = apart i j t a.1 b.1
      by (inl a) (inr b) = absurd (apart_from i j b.0 a.1 b.1 h b.2)
      by (inr a) (inl b) = absurd (apart_from j i a.0 b.1 a.1 g a.2)
      by (inr a) (inr b) =
          let same : a.0 ≡ b.0 = later_different of_problem (length of_problem) (behind (length of_problem) variables) small a.0 b.0 t (at_later a.0 i a.1 g) (at_later b.0 j b.1 h) a.2 b.2 in
          a.1 ∙ ap (λ (k : ℕ). length of_problem + k) same ∙ sym b.1
