-- Lists that are gathered so that each item stands once.
use Rattle.std.proofs.Common.{◌≡◌, List, [], ◌∷◌, ◌++◌, Bool, true, false, ◌&&◌, if◌then◌else◌, refl, sym, ap, ◌∙◌, subst, ◌⊎◌, inl, inr, ⊎_elim}
use Rattle.std.proofs.lemmas.Bool.{and_parts, and_from, or_cases, or_left, or_right}
use Rattle.cp_lists.specs.Lists.{IsIn, here, there}
use Rattle.cp_lists.proofs.Members.{only_item, in_append, in_append_left, in_append_right}
use Rattle.cp_model.specs.Term.{AtomTerm}
use Rattle.cp_model.specs.Skeleton.{UniqueAt}
use Rattle.cp_model.specs.Same.{same_atom, same_node}
use Rattle.cp_model.specs.Given.{has_atom, atoms_onto, has_unique, uniques_onto}
use Rattle.cp_model.proofs.SameTests.{atom_is, same_atom_itself, node_is, is_node}

-- The one tells whether an item is in a list, and the other puts items behind a list, each that is not there yet.
pub record IsGathering {A : Type 0} (has : List A → A → Bool) (onto : List A → List A → List A) : Type 0 where
  pub found : (xs : List A) (v : A) → has xs v ≡ true → IsIn v xs
  pub finds : (xs : List A) (v : A) → IsIn v xs → has xs v ≡ true
  pub ends : (before : List A) → onto before [] ≡ before
  pub goes : (before : List A) (v : A) (vs : List A) → onto before (v ∷ vs) ≡ onto (if has before v then before else before ++ v ∷ []) vs

module _ {A : Type 0} {has : List A → A → Bool} {onto : List A → List A → List A} (g : IsGathering has onto) where
  pub onto-append : (before xs ys : List A) → onto before (xs ++ ys) ≡ onto (onto before xs) ys
  onto-append before [] ys = ap (λ b. onto b ys) (sym (g.ends before))
  onto-append before (x ∷ xs) ys =
      g.goes before x (xs ++ ys) ∙ onto-append (if has before x then before else before ++ x ∷ []) xs ys ∙ ap (λ b. onto b ys) (sym (g.goes before x xs))

  step-keeps : (before : List A) (x v : A) (b : Bool) → IsIn v before → IsIn v (if b then before else before ++ x ∷ [])
  step-keeps before x v true i = i
  step-keeps before x v false i = in_append_left (x ∷ []) i

  pub onto-keeps : (before xs : List A) (v : A) → IsIn v before → IsIn v (onto before xs)
  onto-keeps before [] v i = subst (IsIn v) (sym (g.ends before)) i
  onto-keeps before (x ∷ xs) v i = subst (IsIn v) (sym (g.goes before x xs)) (onto-keeps (if has before x then before else before ++ x ∷ []) xs v (step-keeps before x v (has before x) i))

  step-takes : (before : List A) (x : A) (b : Bool) → has before x ≡ b → IsIn x (if b then before else before ++ x ∷ [])
  step-takes before x true e = g.found before x e
  step-takes before x false e = in_append_right before here

  pub onto-takes : (before xs : List A) (v : A) → IsIn v xs → IsIn v (onto before xs)
  onto-takes before [] v i = elim i [ ]
  onto-takes before (x ∷ xs) v here = subst (IsIn x) (sym (g.goes before x xs)) (onto-keeps (if has before x then before else before ++ x ∷ []) xs x (step-takes before x (has before x) refl))
  onto-takes before (x ∷ xs) v (there i) = subst (IsIn v) (sym (g.goes before x xs)) (onto-takes (if has before x then before else before ++ x ∷ []) xs v i)

  step-only : (before xs : List A) (x v : A) (b : Bool) → IsIn v (if b then before else before ++ x ∷ []) ⊎ IsIn v xs → IsIn v before ⊎ IsIn v (x ∷ xs)
  step-only before xs x v true (inl i) = inl i
  step-only before xs x v false (inl i) = ⊎_elim (λ j. inl j) (λ j. inr (subst (λ y. IsIn y (x ∷ xs)) (sym (only_item j)) here)) (in_append before (x ∷ []) i)
  step-only before xs x v b (inr i) = inr (there i)

  pub onto-only : (before xs : List A) (v : A) → IsIn v (onto before xs) → IsIn v before ⊎ IsIn v xs
  onto-only before [] v i = inl (subst (IsIn v) (g.ends before) i)
  onto-only before (x ∷ xs) v i =
      step-only before xs x v (has before x) (onto-only (if has before x then before else before ++ x ∷ []) xs v (subst (IsIn v) (g.goes before x xs) i))

-- ---- values, and unique values with their origins

atom-found : (xs : List AtomTerm) (v : AtomTerm) → has_atom xs v ≡ true → IsIn v xs
atom-found [] v e = absurd (cc)
atom-found (x ∷ xs) v e =
    ⊎_elim (λ h. subst (λ y. IsIn y (x ∷ xs)) (atom_is x v h) here) (λ h. there (atom-found xs v h)) (or_cases (same_atom x v) (has_atom xs v) e)

finds-atom : (xs : List AtomTerm) (v : AtomTerm) → IsIn v xs → has_atom xs v ≡ true
finds-atom [] v i = elim i [ ]
finds-atom (x ∷ xs) v here = or_left (same_atom v v) (has_atom xs v) (same_atom_itself v)
finds-atom (x ∷ xs) v (there i) = or_right (same_atom x v) (has_atom xs v) (finds-atom xs v i)

pub atoms : IsGathering has_atom atoms_onto
atoms = record { found = atom-found; finds = finds-atom; ends = λ before. refl; goes = λ before v vs. refl }

unique-is : (u w : UniqueAt) → (same_atom u.value w.value && same_node u.origin w.origin) ≡ true → u ≡ w
unique-is u w e =
    let h = and_parts (same_atom u.value w.value) (same_node u.origin w.origin) e in
    let v : u.value ≡ w.value = atom_is u.value w.value h.0 in
    let o : u.origin ≡ w.origin = node_is u.origin w.origin h.1 in
    λ i. record { value = v i; origin = o i }

unique-itself : (u : UniqueAt) → (same_atom u.value u.value && same_node u.origin u.origin) ≡ true
unique-itself u = and_from (same_atom u.value u.value) (same_node u.origin u.origin) (same_atom_itself u.value) (is_node u.origin u.origin refl)

unique-found : (us : List UniqueAt) (u : UniqueAt) → has_unique us u ≡ true → IsIn u us
unique-found [] u e = absurd (cc)
unique-found (w ∷ us) u e =
    ⊎_elim (λ h. subst (λ y. IsIn y (w ∷ us)) (unique-is w u h) here) (λ h. there (unique-found us u h))
    (or_cases (same_atom w.value u.value && same_node w.origin u.origin) (has_unique us u) e)

finds-unique : (us : List UniqueAt) (u : UniqueAt) → IsIn u us → has_unique us u ≡ true
finds-unique [] u i = elim i [ ]
finds-unique (w ∷ us) u here = or_left (same_atom u.value u.value && same_node u.origin u.origin) (has_unique us u) (unique-itself u)
finds-unique (w ∷ us) u (there i) = or_right (same_atom w.value u.value && same_node w.origin u.origin) (has_unique us u) (finds-unique us u i)

pub uniques : IsGathering has_unique uniques_onto
uniques = record { found = unique-found; finds = finds-unique; ends = λ before. refl; goes = λ before u us. refl }
