-- Roles of well-formed input.
use Rattle.std.specs.Prelude.{◌≡◌, ℕ, Some}
use Rattle.cp_lists.specs.Lists.{item_at, IsIn}
use Rattle.cp_model.specs.Term.{AtomTerm, atom_term}
use Rattle.cp_model.specs.declared.variable.Variable.{Variable}
use Rattle.cp_model.specs.Strand.{OriginatesInTerms, Role, variables_of_trace}
use Rattle.cp_model.specs.declared.variable.Declaration.{Declaration}
use Rattle.cp_model.specs.Problem.{variables_of_atoms, IsDeclared}
use Rattle.cp_language.specs.Terms.{variable_named}

-- A role each of whose identifiers names its own variable; whose events and assumptions have declared variables; and
-- whose unique values originate in its trace.
pub record IsWellFormedRole (r : Role) : Type 0 where
  pub identifiers : (i : ℕ) (d : Declaration) → item_at r.variables i ≡ Some d → variable_named r.variables d.identifier ≡ Some (record { sort = d.sort; number = i })
  pub trace : (x : Variable) → IsIn x (variables_of_trace r.trace) → IsDeclared r.variables x
  pub non : (x : Variable) → IsIn x (variables_of_atoms r.non_originating) → IsDeclared r.variables x
  pub penetrator_non : (x : Variable) → IsIn x (variables_of_atoms r.penetrator_non_originating) → IsDeclared r.variables x
  pub unique : (v : AtomTerm) → IsIn v r.uniquely_originating → (i : ℕ) × OriginatesInTerms r.trace (atom_term v) i
