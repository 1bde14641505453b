-- One step through the variables of a pattern.
use Rattle.std.proofs.Common.{◌≡◌, ℕ, ◌+◌, ◌<◌, ◌≤◌, List, [], ◌∷◌, ◌++◌, length, get_or, drop, true, false, sym, ap, ◌∙◌}
use Rattle.std.proofs.lemmas.List.{append-nil, drop_all, drop_more}
use Rattle.cp_model.specs.declared.variable.Variable.{Variable}
use Rattle.cp_model.specs.Same.{has_variable}
use Rattle.cp_language.specs.Printed.{locals_in_order}
use Rattle.cp_names.proofs.LocalsInOrder.{local_found, local_again, local_not}

module _ (ls : List Variable) (variables : List Variable) (i : ℕ) (all : List Variable) (found : List Variable)
    (so_far : found ++ locals_in_order ls found (drop i variables) ≡ all) where
  module _ (d : Variable) (within : i < length variables) where
    behind : found ++ locals_in_order ls found (get_or variables i d ∷ drop (i + 1) variables) ≡ all
    behind = sym (ap (λ ys. found ++ locals_in_order ls found ys) (drop_more variables i d within)) ∙ so_far

    pub one_found : (more : List Variable) → more ≡ found ++ get_or variables i d ∷ [] → has_variable ls (get_or variables i d) ≡ true → (known : List Variable) → known ≡ found → has_variable known (get_or variables i d) ≡ false
        → more ++ locals_in_order ls more (drop (i + 1) variables) ≡ all
    one_found more pushed e known are f =
        ap (λ ms. ms ++ locals_in_order ls ms (drop (i + 1) variables)) pushed
        ∙ local_found ls found (get_or variables i d) (drop (i + 1) variables) e (ap (λ fs. has_variable fs (get_or variables i d)) (sym are) ∙ f) ∙ behind

    pub found_again : (same : List Variable) → same ≡ found → has_variable ls (get_or variables i d) ≡ true → (known : List Variable) → known ≡ found → has_variable known (get_or variables i d) ≡ true
        → same ++ locals_in_order ls same (drop (i + 1) variables) ≡ all
    found_again same is e known are f =
        ap (λ fs. fs ++ locals_in_order ls fs (drop (i + 1) variables)) is
        ∙ local_again ls found (get_or variables i d) (drop (i + 1) variables) e (ap (λ fs. has_variable fs (get_or variables i d)) (sym are) ∙ f) ∙ behind

    pub no_local : (same : List Variable) → same ≡ found → has_variable ls (get_or variables i d) ≡ false
        → same ++ locals_in_order ls same (drop (i + 1) variables) ≡ all
    no_local same is e =
        ap (λ fs. fs ++ locals_in_order ls fs (drop (i + 1) variables)) is
        ∙ local_not ls found (get_or variables i d) (drop (i + 1) variables) e ∙ behind

  pub all_found : length variables ≤ i → found ≡ all
  all_found past =
      sym (append-nil found)
      ∙ sym (ap (λ ys. found ++ locals_in_order ls found ys) (drop_all i variables past))
      ∙ so_far
