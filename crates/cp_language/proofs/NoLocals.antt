-- The variables of patterns that are no locals.
use Rattle.std.proofs.Common.{◌≡◌, List, [], ◌∷◌, Bool, true, false, refl, subst, if◌then◌else◌, ⊎_elim}
use Rattle.std.proofs.lemmas.Bool.{both_ways}
use Rattle.cp_lists.specs.Lists.{IsIn, there}
use Rattle.cp_lists.proofs.Members.{head_or_behind, at_head}
use Rattle.cp_model.specs.declared.variable.Variable.{Variable}
use Rattle.cp_model.specs.Same.{has_variable}
use Rattle.cp_model.proofs.SameTests.{in_has_variable}
use Rattle.cp_language.specs.Report.{variables_but}

-- Of variables but for locals, each is one of the variables and no local.
pub from_but : (locals xs : List Variable) (x : Variable) → IsIn x (variables_but locals xs) → IsIn x xs × (IsIn x locals → ⊥)
from_but locals [] x m = elim m [ ]
from_but locals (y ∷ xs) x m = by (has_variable locals y) refl m (from_but locals xs x)
  where
    behind : IsIn x xs × (IsIn x locals → ⊥) → IsIn x (y ∷ xs) × (IsIn x locals → ⊥)
    behind r = (there r.0, r.1)

    by : (b : Bool) → has_variable locals y ≡ b → IsIn x (if b then variables_but locals xs else y ∷ variables_but locals xs) → (IsIn x (variables_but locals xs) → IsIn x xs × (IsIn x locals → ⊥)) → IsIn x (y ∷ xs) × (IsIn x locals → ⊥)
    by true e i rest = behind (rest i)
    by false e i rest =
        ⊎_elim
        (λ same. (at_head same, λ l. both_ways (has_variable locals y) e (in_has_variable locals y (subst (λ (z : Variable). IsIn z locals) same l))))
        (λ j. behind (rest j))
        (head_or_behind i)
