-- A most general unifier of two different atoms takes one of their variables away.
use Rattle.std.proofs.Common.{◌≡◌, ◌⊎◌, inl, inr, ℕ, List, [], ◌∷◌, ◌++◌, sym, ◌∙◌, subst}
use Rattle.cp_lists.specs.Lists.{IsIn, here, there}
use Rattle.cp_model.specs.Term.{AtomTerm, Term, variables_of_atom, variables_of, Substitution, apply_to_atom, apply_to, variable_term}
use Rattle.cp_model.specs.declared.sort.Sort.{Sort}
use Rattle.cp_model.specs.declared.sort.Sort.TheVariants.{Text as text_sort, Datum as datum_sort, Name as name_sort, Skey as skey_sort, Akey as akey_sort}
use Rattle.cp_model.specs.declared.variable.Variable.{Variable}
use Rattle.cp_lists.proofs.Members.{in_append_left, in_append_right, in_cases}
use Rattle.cp_unify.proofs.VariableTests.{occurs_tells}
use Rattle.cp_unify.proofs.VariablesUnder.{Leaves, leaves_variables_of, leaves_atom}

pub own_variable : (s : Sort) (n : ℕ) → (let x : Variable = record { sort = s; number = n } in IsIn x (variables_of (variable_term x)))
own_variable text_sort n = here
own_variable datum_sort n = here
own_variable name_sort n = here
own_variable skey_sort n = here
own_variable akey_sort n = here

-- A variable of some is not left, or all are.
abbrev Taken : Substitution → List Variable → Type 0
Taken s xs = (x : Variable) × IsIn x xs × (Leaves s x → ⊥)

taken_later : (s : Substitution) (y : Variable) (xs : List Variable) → Taken s xs → Taken s (y ∷ xs)
taken_later s y xs t = (t.0, there t.1, t.2)

module _ (s : Substitution) (idempotent : (t : Term) → apply_to s (apply_to s t) ≡ apply_to s t) where
  -- What is not left occurs in no term under the substitution.
  pub gone : (x : Variable) → (Leaves s x → ⊥) → (t : Term) → IsIn x (variables_of (apply_to s t)) → ⊥
  gone x taken t i = taken (leaves_variables_of s (apply_to s t) (idempotent t) x i)

  pub left_or_taken : (x : Variable) → Leaves s x ⊎ (Leaves s x → ⊥)
  left_or_taken x = elim (occurs_tells (variables_of (apply_to s (variable_term x))) x) [
    | inl p ↦ inl (leaves_variables_of s (apply_to s (variable_term x)) (idempotent (variable_term x)) x p.1)
    | inr p ↦ inr (λ left. p.1 (subst (λ (u : AtomTerm). IsIn x (variables_of_atom u)) (sym left) (own_variable x.sort x.number)))
  ]

  all_left_at : (y : Variable) (xs : List Variable) → Leaves s y ⊎ (Leaves s y → ⊥) → ((x : Variable) → IsIn x xs → Leaves s x) ⊎ Taken s xs → ((x : Variable) → IsIn x (y ∷ xs) → Leaves s x) ⊎ Taken s (y ∷ xs)
  all_left_at y xs (inr taken) rest = inr (y, here, taken)
  all_left_at y xs (inl left) (inl all) = inl (λ x i. elim (in_cases i) [ inl e ↦ subst (Leaves s) e left | inr j ↦ all x j ])
  all_left_at y xs (inl left) (inr taken) = inr (taken_later s y xs taken)

  all_left_or_taken : (xs : List Variable) → ((x : Variable) → IsIn x xs → Leaves s x) ⊎ Taken s xs
  all_left_or_taken [] = inl (λ x i. elim i [ ])
  all_left_or_taken (y ∷ xs) = all_left_at y xs (left_or_taken y) (all_left_or_taken xs)

  pub some_taken : (a b : AtomTerm) → (a ≡ b → ⊥) → apply_to_atom s a ≡ apply_to_atom s b → Taken s (variables_of_atom a ++ variables_of_atom b)
  some_taken a b ne e = elim (all_left_or_taken (variables_of_atom a ++ variables_of_atom b)) [
    | inl all ↦ absurd (ne (
        sym (leaves_atom s a (λ x i. all x (in_append_left (variables_of_atom b) i)))
        ∙ e
        ∙ leaves_atom s b (λ x i. all x (in_append_right (variables_of_atom a) i))))
    | inr taken ↦ taken
  ]
