-- Patterns whose locals are new variables: what these become, their variables, and values that make them what they match.
use Rattle.std.proofs.Common.{◌≡◌, ℕ, suc, ◌+◌, List, [], ◌∷◌, ◌++◌, length, Some, refl, sym, ap, ◌∙◌, subst, ◌⊎◌, inl, inr, ⊎_elim, arith}
use Rattle.cp_lists.specs.Lists.{item_at, IsIn}
use Rattle.cp_lists.proofs.Items.{map_of_item, item_behind}
use Rattle.cp_lists.proofs.Members.{not_in_none, only_item, in_cases}
use Rattle.cp_model.specs.Term.{variables_of, Assignment, value_of, after, Substitution, variable_term, apply_to}
use Rattle.cp_model.specs.declared.sort.Sort.{Sort}
use Rattle.cp_model.specs.declared.sort.Sort.TheVariants.{Text as text_sort, Datum as datum_sort, Name as name_sort, Skey as skey_sort, Akey as akey_sort}
use Rattle.cp_model.specs.declared.variable.Variable.{Variable}
use Rattle.cp_model.specs.declared.variable.Declaration.{Declaration}
use Rattle.cp_model.specs.Problem.{declared_sort, IsDeclared}
use Rattle.cp_model.specs.Tree.{Pattern}
use Rattle.cp_model.proofs.LawTerms.{value_after}
use Rattle.cp_model.proofs.LawAgreement.{agree_value}
use Rattle.cp_model.proofs.DeclaredVariables.{still_declared}
use Rattle.cp_unify.specs.Bindings.{Binding}
use Rattle.cp_unify.proofs.VariableTests.{is_variable_tells}
use Rattle.cp_unify.proofs.VariablesUnder.{variable_has_sort, bound, other, given_term}
use Rattle.cp_theory.specs.Matches.{IsFreeIn}
use Rattle.cp_theory.specs.Fresh.{AreBelow}
use Rattle.cp_theory.proofs.NewValues.{beside, old_values, new_value_at}
use Rattle.cp_pattern.specs.Opened.{with_new, opened_pattern, declared_after, declared_as}

abbrev pub variable : Sort → ℕ → Variable
variable s n = record { sort = s; number = n }

-- ---- what each variable becomes

-- A variable that has a place in the list becomes the new one for that place; any other what s gives it.
abbrev IsNew : ℕ → List Variable → Substitution → Variable → Type 0
IsNew n xs s x = (i : ℕ) × (item_at xs i ≡ Some x) × (apply_to (with_new n xs s) (variable_term x) ≡ variable_term (variable x.sort (n + i)))

abbrev IsOld : ℕ → List Variable → Substitution → Variable → Type 0
IsOld n xs s x = (IsIn x xs → ⊥) × (apply_to (with_new n xs s) (variable_term x) ≡ apply_to s (variable_term x))

module _ (n : ℕ) (y : Variable) (ys : List Variable) (s : Substitution) (x : Variable) where
  abbrev binding : Binding
  binding = record { variable = y; term = variable_term (variable y.sort n) }

  first_is_new : x ≡ y → IsNew n (y ∷ ys) s x
  first_is_new e =
      let number : n ≡ n + 0 = omega arith in (
        0,
        ap Some (sym e),
        ap (λ (z : Variable). apply_to (with_new n (y ∷ ys) s) (variable_term z)) e
            ∙ bound binding (with_new (suc n) ys s) (variable_has_sort y.sort n)
            ∙ ap (λ (z : Variable). variable_term (variable z.sort n)) (sym e)
            ∙ ap (λ (m : ℕ). variable_term (variable x.sort m)) number,
      )

  module _ (differs : x ≡ y → ⊥) where
    as_behind : apply_to (with_new n (y ∷ ys) s) (variable_term x) ≡ apply_to (with_new (suc n) ys s) (variable_term x)
    as_behind = other binding (with_new (suc n) ys s) x differs

    still_new : IsNew (suc n) ys s x → IsNew n (y ∷ ys) s x
    still_new r =
        let number : suc n + r.0 ≡ n + suc r.0 = omega arith in
        (suc r.0, r.1, as_behind ∙ r.2 ∙ ap (λ (m : ℕ). variable_term (variable x.sort m)) number)

    not_there : (IsIn x ys → ⊥) → IsIn x (y ∷ ys) → ⊥
    not_there none i = ⊎_elim (λ e. differs (sym e)) none (in_cases i)

    still_old : IsOld (suc n) ys s x → IsOld n (y ∷ ys) s x
    still_old r = (not_there r.0, as_behind ∙ r.1)

pub new_or_old : (n : ℕ) (xs : List Variable) (s : Substitution) (x : Variable) → IsNew n xs s x ⊎ IsOld n xs s x
new_or_old n [] s x = inr (not_in_none, refl)
new_or_old n (y ∷ ys) s x =
    ⊎_elim (λ p. inl (first_is_new n y ys s x p.1))
    (λ p. ⊎_elim (λ r. inl (still_new n y ys s x p.1 r)) (λ r. inr (still_old n y ys s x p.1 r)) (new_or_old (suc n) ys s x))
    (is_variable_tells x y)

-- ---- values

-- Where the locals have values that make the pattern a message, so has the opened pattern, if new variables have them.
module _ (p : Pattern) (s : Substitution) (n : ℕ) (g filled : Assignment) (said : (x : Variable) → IsFreeIn x p → value_of filled (variable_term x) ≡ value_of (after g s) (variable_term x))
    (below : (x : Variable) → IsFreeIn x p → AreBelow n (variables_of (apply_to s (variable_term x)))) where
  abbrev values : Assignment
  values = beside n p.locals g filled

  abbrev terms : Substitution
  terms = with_new n p.locals s

  of_new : (x : Variable) → IsNew n p.locals s x → value_of (after values terms) (variable_term x) ≡ value_of filled (variable_term x)
  of_new x r = value_after values terms (variable_term x) ∙ ap (value_of values) r.2 ∙ new_value_at n p.locals g filled r.0 x r.1

  of_old : (x : Variable) → IsIn x (variables_of p.term) → IsOld n p.locals s x → value_of (after values terms) (variable_term x) ≡ value_of filled (variable_term x)
  of_old x i r =
      let free : IsFreeIn x p = record { occurs = i; no_local = r.0 } in
      let u = apply_to s (variable_term x) in
      value_after values terms (variable_term x)
      ∙ ap (value_of values) r.1
      ∙ sym (agree_value g values u (old_values n p.locals g filled (variables_of u) (below x free)))
      ∙ sym (value_after g s (variable_term x))
      ∙ sym (said x free)

  pub opened_value : value_of values (opened_pattern p s n) ≡ value_of filled p.term
  opened_value = sym (value_after values terms p.term) ∙ agree_value (after values terms) filled p.term (λ x i. ⊎_elim (of_new x) (of_old x i) (new_or_old n p.locals s x))

-- ---- declarations

alone : (s : Sort) (n : ℕ) → variables_of (variable_term (variable s n)) ≡ variable s n ∷ []
alone text_sort n = refl
alone datum_sort n = refl
alone name_sort n = refl
alone skey_sort n = refl
alone akey_sort n = refl

pub only_itself : (x y : Variable) → IsIn y (variables_of (variable_term x)) → y ≡ x
only_itself x y i = only_item (subst (IsIn y) (alone x.sort x.number) i)

module _ (ds : List Declaration) (p : Pattern) (s : Substitution) (said : (x y : Variable) → IsFreeIn x p → IsIn y (variables_of (apply_to s (variable_term x))) → IsDeclared ds y) where
  abbrev all : List Declaration
  all = ds ++ declared_as ds p.locals

  abbrev IsOne : Variable → Type 0
  IsOne = IsDeclared all

  new_declared : (x : Variable) (i : ℕ) → item_at p.locals i ≡ Some x → IsOne (variable x.sort (length ds + i))
  new_declared x i at = ap declared_sort (item_behind ds (declared_as ds p.locals) i ∙ map_of_item (declared_after ds) p.locals i x at)

  new_gives : (x y : Variable) → IsNew (length ds) p.locals s x → IsIn y (variables_of (apply_to (with_new (length ds) p.locals s) (variable_term x))) → IsOne y
  new_gives x y r j =
      let same : y ≡ variable x.sort (length ds + r.0) = only_itself (variable x.sort (length ds + r.0)) y (subst (λ z. IsIn y (variables_of z)) r.2 j) in
      subst IsOne (sym same) (new_declared x r.0 r.1)

  old_gives : (x y : Variable) → IsIn x (variables_of p.term) → IsOld (length ds) p.locals s x → IsIn y (variables_of (apply_to (with_new (length ds) p.locals s) (variable_term x))) → IsOne y
  old_gives x y i r j =
      still_declared ds (declared_as ds p.locals) y.number y.sort (said x y (record { occurs = i; no_local = r.0 }) (subst (λ z. IsIn y (variables_of z)) r.1 j))

  pub opened_declared : (y : Variable) → IsIn y (variables_of (opened_pattern p s (length ds))) → IsOne y
  opened_declared y i = given_term IsOne (with_new (length ds) p.locals s) p.term (λ x m z j. ⊎_elim (λ r. new_gives x z r j) (λ r. old_gives x z m r j) (new_or_old (length ds) p.locals s x)) y i
