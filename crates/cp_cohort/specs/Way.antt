-- Skeletons on the way from a first one to those in which both conditions on a release hold.
use Rattle.std.specs.Prelude.{◌≡◌, List, ◌++◌}
use Rattle.cp_lists.specs.Lists.{IsIn}
use Rattle.cp_model.specs.Term.{Substitution, variable_term, apply_to, variables_of}
use Rattle.cp_model.specs.declared.variable.Variable.{Variable}
use Rattle.cp_model.specs.Strand.{Protocol}
use Rattle.cp_model.specs.declared.variable.Declaration.{Declaration}
use Rattle.cp_model.specs.Bundle.{node_at}
use Rattle.cp_model.specs.Skeleton.{Skeleton, IsSkeleton}
use Rattle.cp_model.specs.Derivable.{IsOnInstance}
use Rattle.cp_model.specs.Problem.{IsDeclared}
use Rattle.cp_model.specs.PointOfView.{HasDeclaredVariables}
use Rattle.cp_model.specs.Tree.{Pattern}
use Rattle.cp_theory.specs.Matches.{IsFreeIn}
use Rattle.cp_theory.specs.Critical.{used_variables}
use Rattle.cp_theory.specs.Trials.{ReleaseTest}
use Rattle.cp_cohort.specs.Releases.{Release, PartialSolution, came_by}

-- The test of a release from the first skeleton.
abbrev pub trial_of : Protocol → Skeleton → Release → ReleaseTest
trial_of protocol first r = record { protocol = protocol; first = first; patterns = r.patterns; critical = r.critical; strand = r.strand; index = r.index; path = r.path }

-- The variables of the patterns that are no locals are those of the first skeleton.
abbrev pub AreUsedVariables : Skeleton → Release → Type 0
AreUsedVariables first r = (p : Pattern) (x : Variable) → IsIn p r.patterns → IsFreeIn x p → IsIn x (used_variables first)

-- The substitution gives the variables of the first skeleton terms of declared variables.
abbrev pub GivesDeclared : List Declaration → Skeleton → Substitution → Type 0
GivesDeclared ds first s = (x y : Variable) → IsIn x (used_variables first) → IsIn y (variables_of (apply_to s (variable_term x))) → IsDeclared ds y

-- The partial solution is a skeleton over the protocol, with an instance on the strand of the release. Its variables are
-- declared, as are those of what its substitution gives the variables of the first skeleton.
pub record IsSoundPartial (protocol : Protocol) (first : Skeleton) (r : Release) (x : PartialSolution) : Type 0 where
  pub skeleton : IsSkeleton protocol x.skeleton
  pub on_instance : IsOnInstance x.skeleton (node_at r.strand r.index)
  pub declared : HasDeclaredVariables x.skeleton.variables x.skeleton
  pub gives_declared : GivesDeclared x.skeleton.variables first (came_by x)

-- The second declarations begin with the first.
pub record DeclaresMore (ds es : List Declaration) : Type 0 where
  pub more : List Declaration
  pub behind : es ≡ ds ++ more
