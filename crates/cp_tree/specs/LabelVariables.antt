-- The variables of a label.
use Rattle.std.specs.Prelude.{◌≡◌, List, Some}
use Rattle.cp_lists.specs.Lists.{IsIn}
use Rattle.cp_model.specs.Term.{variables_of}
use Rattle.cp_model.specs.declared.variable.Variable.{Variable}
use Rattle.cp_model.specs.declared.variable.Declaration.{Declaration}
use Rattle.cp_model.specs.Problem.{IsDeclared}
use Rattle.cp_model.specs.PointOfView.{HasDeclaredVariables}
use Rattle.cp_model.specs.Tree.{Pattern, Test, Label}
use Rattle.cp_theory.specs.Matches.{IsFreeIn}
use Rattle.cp_cohort.specs.Way.{DeclaresMore}

-- The variables of a label begin with the problem's. Those that occur in its skeleton are among them, and so are those of its
-- critical term, and those of its patterns that are no locals.
pub record DeclaresItsOwn (variables : List Declaration) (l : Label) : Type 0 where
  pub more : DeclaresMore variables l.skeleton.variables
  pub skeleton : HasDeclaredVariables l.skeleton.variables l.skeleton
  pub test : (t : Test) (x : Variable) → l.test ≡ Some t → IsIn x (variables_of t.critical) → IsDeclared l.skeleton.variables x
  pub patterns : (p : Pattern) (x : Variable) → IsIn p l.escape → IsFreeIn x p → IsDeclared l.skeleton.variables x
