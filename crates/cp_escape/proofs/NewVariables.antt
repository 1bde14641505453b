-- Variables that are put in order among others, and the new variables of an encryption.
use Rattle.std.proofs.Common.{◌≡◌, ◌⊎◌, inl, inr, ⊎_elim, ℕ, zero, suc, ◌<◌, ◌≤◌, ◌==◌, ◌&&◌, ◌||◌, ◌↔◌, Bool, true, false, List, [], ◌∷◌, ◌++◌, length, get_or, take, drop, refl, sym, ap, ap₂, ◌∙◌, subst, arith, eqb-true, eq-eqb}
use Rattle.std.specs.Prelude.{nat_lt}
use Rattle.std.specs.List.Sorted.{IsPartitionedBy, IsPartitionPoint}
use Rattle.std.proofs.lemmas.Bool.{and_parts, and_from, or_cases, or_left, or_right}
use Rattle.std.proofs.lemmas.Bool.Decides.{nat_tests}
use Rattle.std.proofs.lemmas.List.{take-append-drop}
use Rattle.cp_lists.specs.Lists.{IsIn, here, there}
use Rattle.cp_lists.proofs.Members.{head_or_behind, only_item, not_in_none, in_append, in_append_left, in_append_right, item_in}
use Rattle.cp_model.proofs.CarriedParts.{not_both}
use Rattle.cp_model.proofs.SameTests.{variable_in, in_has_variable}
use Rattle.cp_model.specs.Same.{has_variable}
use Rattle.cp_model.specs.Skeleton.{Skeleton}
use Rattle.cp_model.specs.SortNumbers.{sort_number, sort_from, sort_back}
use Rattle.cp_model.specs.Term.{KeyTerm, Term, pair_term, enc_term, variables_of, variables_of_key}
use Rattle.cp_model.specs.declared.sort.Sort.{Sort}
use Rattle.cp_model.specs.declared.sort.Sort.TheVariants.{Text as text_sort, Datum as datum_sort, Name as name_sort, Skey as skey_sort, Akey as akey_sort}
use Rattle.cp_model.specs.declared.variable.Variable.{Variable}
use Rattle.cp_term.specs.Keys.{key_as_term}
use Rattle.cp_term.specs.Variables.{variable_of_sort}
use Rattle.cp_theory.specs.Critical.{used_variables}
use Rattle.cp_escape.specs.UsedVariables.{variable_before, PutsNew}
use Rattle.cp_escape.specs.WidenedPattern.{StandsBefore, AreRisingVariables, AreNewVariables}

-- ---- which of two variables stands before the other

less : (m n : ℕ) → nat_lt m n ≡ true → m < n
less m n e = grind (arith, nat_tests)

is_less : (m n : ℕ) → m < n → nat_lt m n ≡ true
is_less m n l = grind (arith, nat_tests)

stands : (x y : Variable) → variable_before x y ≡ true → StandsBefore x y
stands x y e =
    ⊎_elim (λ h. inl (less x.number y.number h))
    (λ h. let p = and_parts (x.number == y.number) (nat_lt (sort_number x.sort) (sort_number y.sort)) h in inr (eqb-true x.number y.number p.0, less (sort_number x.sort) (sort_number y.sort) p.1))
    (or_cases (nat_lt x.number y.number) ((x.number == y.number) && nat_lt (sort_number x.sort) (sort_number y.sort)) e)

before : (x y : Variable) → StandsBefore x y → variable_before x y ≡ true
before x y (inl l) = or_left (nat_lt x.number y.number) ((x.number == y.number) && nat_lt (sort_number x.sort) (sort_number y.sort)) (is_less x.number y.number l)
before x y (inr p) =
    or_right (nat_lt x.number y.number) ((x.number == y.number) && nat_lt (sort_number x.sort) (sort_number y.sort))
    (and_from (x.number == y.number) (nat_lt (sort_number x.sort) (sort_number y.sort)) (eq-eqb x.number y.number p.0) (is_less (sort_number x.sort) (sort_number y.sort) p.1))

stands_further : (x y z : Variable) → StandsBefore x y → StandsBefore y z → StandsBefore x z
stands_further x y z (inl l) (inl m) = inl (omega (arith, l, m))
stands_further x y z (inl l) (inr q) = let e = q.0 in inl (omega (arith, l, e))
stands_further x y z (inr p) (inl m) = let e = p.0 in inl (omega (arith, e, m))
stands_further x y z (inr p) (inr q) = let l = p.1 in let m = q.1 in inr (p.0 ∙ q.0, omega (arith, l, m))

same_number : (m n a b : ℕ) → (nat_lt m n || ((m == n) && nat_lt a b)) ≡ false → nat_lt n m ≡ false → n ≡ m
same_number m n a b e f = grind (arith, nat_tests)

same_place : (m n a b : ℕ) → (nat_lt m n || ((m == n) && nat_lt a b)) ≡ false → nat_lt n m ≡ false → nat_lt b a ≡ false → a ≡ b
same_place m n a b e f g = grind (arith, nat_tests)

-- Of two different variables one stands before the other.
stands_behind : (x y : Variable) → variable_before x y ≡ false → (x ≡ y → ⊥) → StandsBefore y x
stands_behind x y e apart = by_number (nat_lt y.number x.number) refl
  where
    by_sort : nat_lt y.number x.number ≡ false → (b : Bool) → nat_lt (sort_number y.sort) (sort_number x.sort) ≡ b → StandsBefore y x
    by_sort f true g = inr (same_number x.number y.number (sort_number x.sort) (sort_number y.sort) e f, less (sort_number y.sort) (sort_number x.sort) g)
    by_sort f false g =
        let number = same_number x.number y.number (sort_number x.sort) (sort_number y.sort) e f in
        let sort : x.sort ≡ y.sort = sym (sort_back x.sort) ∙ ap sort_from (same_place x.number y.number (sort_number x.sort) (sort_number y.sort) e f g) ∙ sort_back y.sort in
        absurd (apart (ap₂ (λ (s : Sort) (n : ℕ). record { sort = s; number = n }) sort (sym number)))

    by_number : (b : Bool) → nat_lt y.number x.number ≡ b → StandsBefore y x
    by_number true f = inl (less y.number x.number f)
    by_number false f = by_sort f (nat_lt (sort_number y.sort) (sort_number x.sort)) refl

-- ---- a variable that is put in its place

module _ (v : Variable) where
  pub partitioned : (xs : List Variable) → AreRisingVariables xs → IsPartitionedBy (λ x. variable_before x v) xs
  partitioned [] r i j d le lt h = absurd (omega (arith, lt))
  partitioned (x ∷ xs) r zero zero d le lt h = h
  partitioned (x ∷ xs) r zero (suc j) d le lt h =
      before x v (stands_further x (get_or xs j d) v (r.0 (get_or xs j d) (item_in xs j d (omega (arith, lt)))) (stands (get_or xs j d) v h))
  partitioned (x ∷ xs) r (suc i) zero d le lt h = absurd (omega (arith, le))
  partitioned (x ∷ xs) r (suc i) (suc j) d le lt h = partitioned xs r.1 i j d (omega (arith, le)) (omega (arith, lt)) h

  from_put : (xs : List Variable) (k : ℕ) (x : Variable) → IsIn x (take k xs ++ v ∷ drop k xs) → IsIn x xs ⊎ (x ≡ v)
  from_put xs k x i =
      ⊎_elim (λ j. inl (subst (IsIn x) (take-append-drop k xs) (in_append_left (drop k xs) j)))
      (λ j. ⊎_elim inr (λ l. inl (subst (IsIn x) (take-append-drop k xs) (in_append_right (take k xs) l))) (head_or_behind j))
      (in_append (take k xs) (v ∷ drop k xs) i)

  into_put : (xs : List Variable) (k : ℕ) (x : Variable) → IsIn x xs → IsIn x (take k xs ++ v ∷ drop k xs)
  into_put xs k x i =
      ⊎_elim (λ j. in_append_left (v ∷ drop k xs) j) (λ j. in_append_right (take k xs) (there j))
      (in_append (take k xs) (drop k xs) (subst (IsIn x) (sym (take-append-drop k xs)) i))

  stays_rising : (xs : List Variable) (k : ℕ) → k ≤ length xs → ((i : ℕ) (d : Variable) → i < k → variable_before (get_or xs i d) v ≡ true) → ((i : ℕ) (d : Variable) → k ≤ i → i < length xs → variable_before (get_or xs i d) v ≡ false) →
      (IsIn v xs → ⊥) → AreRisingVariables xs → AreRisingVariables (take k xs ++ v ∷ drop k xs)
  stays_rising [] zero l f g none r = (λ y i. absurd (not_in_none i), tt)
  stays_rising [] (suc k) l f g none r = absurd (omega (arith, l))
  stays_rising (x ∷ xs) zero l f g none r =
      let first : StandsBefore v x = stands_behind x v (g 0 x (omega arith) (omega arith)) (λ e. none (subst (λ (y : Variable). IsIn y (x ∷ xs)) e here)) in (
        λ y i. ⊎_elim (λ (e : y ≡ x). subst (StandsBefore v) (sym e) first) (λ j. stands_further v x y first (r.0 y j)) (head_or_behind i),
        r,
      )
  stays_rising (x ∷ xs) (suc k) l f g none r = (
    λ y i. ⊎_elim (λ j. r.0 y j) (λ (e : y ≡ v). subst (StandsBefore x) (sym e) (stands x v (f 0 x (omega arith)))) (from_put xs k y i),
    stays_rising xs k (omega (arith, l)) (λ i d a. f (suc i) d (omega (arith, a))) (λ i d a b. g (suc i) d (omega (arith, a)) (omega (arith, b))) (λ j. none (there j)) r.1,
  )

  module _ (used old : List Variable) where
    pub put_in_place : (k : ℕ) → k ≤ length old → (AreRisingVariables old → ((i : ℕ) (d : Variable) → i < k → variable_before (get_or old i d) v ≡ true) × ((i : ℕ) (d : Variable) → k ≤ i → i < length old → variable_before (get_or old i d) v ≡ false)) →
        (IsIn v old → ⊥) → (IsIn v used → ⊥) → (new : List Variable) → new ≡ take k old ++ v ∷ drop k old → PutsNew used (v ∷ []) old new
    put_in_place k l place none unused new is = subst (PutsNew used (v ∷ []) old) (sym is) (record {
      exactly = λ x. (
        λ i. ⊎_elim inl (λ (e : x ≡ v). inr (subst (λ (y : Variable). IsIn y (v ∷ [])) (sym e) here, λ u. unused (subst (λ (y : Variable). IsIn y used) e u))) (from_put old k x i),
        λ h. ⊎_elim (into_put old k x) (λ p. subst (λ (y : Variable). IsIn y (take k old ++ v ∷ drop k old)) (sym (only_item p.0)) (in_append_right (take k old) here)) h,
      );
      rising = λ r. let h = place r in stays_rising old k l h.0 h.1 none r;
    })

    pub there_already : IsIn v old → PutsNew used (v ∷ []) old old
    there_already i = record { exactly = λ x. (inl, λ h. ⊎_elim (λ j. j) (λ p. subst (λ (y : Variable). IsIn y old) (sym (only_item p.0)) i) h); rising = λ r. r }

    pub is_used : IsIn v used → PutsNew used (v ∷ []) old old
    is_used i = record { exactly = λ x. (inl, λ h. ⊎_elim (λ j. j) (λ p. absurd (p.1 (subst (λ (y : Variable). IsIn y used) (sym (only_item p.0)) i))) h); rising = λ r. r }

-- As the code finds them.
abbrev at : Sort → ℕ → Variable
at s n = record { sort = s; number = n }

module _ (used old items : List Variable) (s : Sort) (n m : ℕ) (same : m ≡ n) (is_items : items ≡ old) (there_is : Bool) (tests : there_is ≡ has_variable items (at s m)) where
  pub found_there : there_is ≡ true → PutsNew used (at s n ∷ []) old old
  found_there e = there_already (at s n) used old (subst (IsIn (at s n)) is_items (variable_in items (at s n) (ap (λ (k : ℕ). has_variable items (at s k)) (sym same) ∙ sym tests ∙ e)))

  module _ (is_in_use : Bool) (asks : is_in_use ≡ has_variable used (at s n)) where
    pub found_used : is_in_use ≡ true → PutsNew used (at s n ∷ []) old old
    found_used e = is_used (at s n) used old (variable_in used (at s n) (sym asks ∙ e))

    pub put_now : there_is ≡ false → is_in_use ≡ false → (row : List Variable) → row ≡ old → (k : ℕ) → k ≤ length row →
        (AreRisingVariables row → IsPartitionPoint (λ y. variable_before y (at s m) ≡ true) (λ y. variable_before y (at s m) ≡ false) row k) → (new : List Variable) → new ≡ take k old ++ at s m ∷ drop k old → PutsNew used (at s n ∷ []) old new
    put_now none unused row is_row k l place new put =
        let not_there : IsIn (at s m) old → ⊥ = λ i. not_both (sym tests ∙ none) (in_has_variable items (at s m) (subst (IsIn (at s m)) (sym is_items) i)) in
        let not_used : IsIn (at s m) used → ⊥ = λ i. not_both (sym asks ∙ unused) (in_has_variable used (at s n) (subst (λ (j : ℕ). IsIn (at s j) used) same i)) in
        let h : PutsNew used (at s m ∷ []) old new =
        put_in_place (at s m) used old k (subst (λ (xs : List Variable). k ≤ length xs) is_row l)
        (λ r. let p = place (subst AreRisingVariables (sym is_row) r) in
        subst (λ (xs : List Variable). ((i : ℕ) (d : Variable) → i < k → variable_before (get_or xs i d) (at s m) ≡ true) × ((i : ℕ) (d : Variable) → k ≤ i → i < length xs → variable_before (get_or xs i d) (at s m) ≡ false)) is_row
        ((λ i d below. p.0 i d (omega arith) below), (λ i d from below. p.1 i d from below)))
        not_there not_used new put in
        subst (λ (j : ℕ). PutsNew used (at s j ∷ []) old new) same h

-- ---- the variables of a term

module _ (used : List Variable) where
  none_put : (old : List Variable) → PutsNew used [] old old
  none_put old = record { exactly = λ x. (inl, λ h. ⊎_elim (λ j. j) (λ p. absurd (not_in_none p.0)) h); rising = λ r. r }

  -- What is put in two steps is put.
  then_put : (xs ys zs old mid new : List Variable) → ((x : Variable) → IsIn x zs ↔ (IsIn x xs ⊎ IsIn x ys)) → PutsNew used xs old mid → PutsNew used ys mid new → PutsNew used zs old new
  then_put xs ys zs old mid new all p q = record {
    exactly = λ x. (
      λ i. ⊎_elim (λ j. ⊎_elim inl (λ h. inr ((all x).1 (inl h.0), h.1)) ((p.exactly x).0 j)) (λ h. inr ((all x).1 (inr h.0), h.1)) ((q.exactly x).0 i),
      λ h. (q.exactly x).1 (⊎_elim (λ j. inl ((p.exactly x).1 (inl j)))
          (λ n. ⊎_elim (λ a. inl ((p.exactly x).1 (inr (a, n.1)))) (λ b. inr (b, n.1)) ((all x).0 n.0)) h),
    );
    rising = λ r. q.rising (p.rising r);
  }

  pub two_put : (x y : Variable) (old mid new : List Variable) → PutsNew used (x ∷ []) old mid → PutsNew used (y ∷ []) mid new → PutsNew used (x ∷ y ∷ []) old new
  two_put x y old mid new = then_put (x ∷ []) (y ∷ []) (x ∷ y ∷ []) old mid new (λ z. (in_append (x ∷ []) (y ∷ []), ⊎_elim (in_append_left (y ∷ [])) (in_append_right (x ∷ []))))

  -- Where those of the rest are put too, all are.
  abbrev pub PutsRest : List Variable → List Variable → List Variable → List Variable → Type 0
  PutsRest whole old rest mid = (new : List Variable) → PutsNew used rest mid new → PutsNew used whole old new

  module _ (whole old mid : List Variable) (term : Term) (so_far : PutsRest whole old (variables_of term) mid) where
    pub all_put : (xs new : List Variable) → variables_of term ≡ xs → PutsNew used xs mid new → PutsNew used whole old new
    all_put xs new is p = so_far new (subst (λ (ys : List Variable). PutsNew used ys mid new) (sym is) p)

    pub nothing_to_put : variables_of term ≡ [] → PutsNew used whole old mid
    nothing_to_put is = all_put [] mid is (none_put mid)

    pub left_put : (l r : Term) → term ≡ pair_term l r → (next : List Variable) → PutsNew used (variables_of l) mid next → PutsRest whole old (variables_of r) next
    left_put l r is next p new q = all_put (variables_of l ++ variables_of r) new (ap variables_of is)
        (then_put (variables_of l) (variables_of r) (variables_of l ++ variables_of r) mid next new (λ z. (in_append (variables_of l) (variables_of r), ⊎_elim (in_append_left (variables_of r)) (in_append_right (variables_of l)))) p q)

    pub key_put : (body key : Term) → ((k : KeyTerm) × (key ≡ key_as_term k) × (term ≡ enc_term body k)) → (next : List Variable) → PutsNew used (variables_of key) mid next → PutsRest whole old (variables_of body) next
    key_put body key w next p new q =
        let ks : List Variable = variables_of_key w.0 in
        let in_key : PutsNew used ks mid next = subst (λ (ys : List Variable). PutsNew used ys mid next) (ap variables_of w.1) p in
        all_put (variables_of body ++ ks) new (ap variables_of w.2)
        (then_put ks (variables_of body) (variables_of body ++ ks) mid next new
        (λ z. (λ i. ⊎_elim inr inl (in_append (variables_of body) ks i), ⊎_elim (in_append_right (variables_of body)) (in_append_left ks))) in_key q)

pub variables_of_itself : (s : Sort) (n : ℕ) → variables_of (variable_of_sort s n) ≡ at s n ∷ []
variables_of_itself text_sort n = refl
variables_of_itself datum_sort n = refl
variables_of_itself name_sort n = refl
variables_of_itself skey_sort n = refl
variables_of_itself akey_sort n = refl

pub are_new : (k : Skeleton) (e : Term) (used new locals : List Variable) → used ≡ used_variables k → locals ≡ new → PutsNew used (variables_of e) [] new → AreNewVariables k e locals
are_new k e used new locals same is p0 =
    let p1 : PutsNew (used_variables k) (variables_of e) [] new = subst (λ (us : List Variable). PutsNew us (variables_of e) [] new) same p0 in
    let p : PutsNew (used_variables k) (variables_of e) [] locals = subst (PutsNew (used_variables k) (variables_of e) []) (sym is) p1 in
    record { exactly = λ x. (λ i. ⊎_elim (λ none. absurd (not_in_none none)) (λ h. h) ((p.exactly x).0 i), λ h. (p.exactly x).1 (inr h)); rising = p.rising tt }
