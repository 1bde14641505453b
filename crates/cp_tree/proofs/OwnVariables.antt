-- The variables of a problem are declared.
use Rattle.std.proofs.Common.{◌≡◌, ⊎_elim, ℕ, suc, ◌+◌, List, [], ◌∷◌, Some, sym, ap, subst, ◌∙◌, arith}
use Rattle.cp_lists.specs.Lists.{item_at, IsIn}
use Rattle.cp_lists.proofs.Members.{in_cases, not_in_none}
use Rattle.cp_model.specs.Term.{Term, variables_of, variable_term}
use Rattle.cp_model.specs.declared.variable.Variable.{Variable}
use Rattle.cp_model.specs.declared.variable.Declaration.{Declaration}
use Rattle.cp_model.specs.Skeleton.{Skeleton}
use Rattle.cp_model.specs.Problem.{variable_terms, declared_sort, IsDeclared}
use Rattle.cp_model.specs.PointOfView.{IsPointOfView, HasDeclaredVariables}
use Rattle.cp_cohort.proofs.OpenedPatterns.{only_itself}

term_declared : (n : ℕ) (ds all : List Declaration) → ((i : ℕ) → item_at ds i ≡ item_at all (n + i)) → (t : Term) (x : Variable) → IsIn t (variable_terms n ds) → IsIn x (variables_of t) → IsDeclared all x
term_declared n [] all same t x i j = absurd (not_in_none i)
term_declared n (d ∷ ds) all same t x i j =
    ⊎_elim
    (λ (e : variable_term (record { sort = d.sort; number = n }) ≡ t).
    let is : x ≡ record { sort = d.sort; number = n } = only_itself (record { sort = d.sort; number = n }) x (subst (λ (u : Term). IsIn x (variables_of u)) (sym e) j) in
    let none : n + 0 ≡ n = omega arith in
    let at : item_at all n ≡ Some d = ap (item_at all) (sym none) ∙ sym (same 0) in
    subst (IsDeclared all) (sym is) (ap declared_sort at))
    (λ (later : IsIn t (variable_terms (suc n) ds)). term_declared (suc n) ds all (λ k. let e : n + suc k ≡ suc n + k = omega arith in same (suc k) ∙ ap (item_at all) e) t x later j)
    (in_cases i)

pub own_declared : (variables : List Declaration) (k : Skeleton) → IsPointOfView variables k → HasDeclaredVariables variables k
own_declared variables k own = record {
  occurring = own.closed;
  mapped = λ t x i j. term_declared 0 variables variables (λ n. let e : n ≡ 0 + n = omega arith in ap (item_at variables) e) t x (subst (IsIn t) own.values i) j;
}
