-- Children that are sound: skeletons over the protocol, with declared variables, that keep what is known of the test's skeleton.
use Rattle.std.specs.Prelude.{List}
use Rattle.cp_model.specs.Strand.{Protocol}
use Rattle.cp_model.specs.declared.variable.Declaration.{Declaration}
use Rattle.cp_model.specs.Skeleton.{Skeleton, IsSkeleton}
use Rattle.cp_model.specs.Homomorphism.{CarriesHomomorphism}
use Rattle.cp_model.specs.PointOfView.{IsPointOfView, HasDeclaredVariables}
use Rattle.cp_model.specs.Stated.{KeepsStated}
use Rattle.cp_cohort.specs.CoveringChildren.{Child}
use Rattle.cp_cohort.specs.Cohort.{GuardedTest}
use Rattle.cp_cohort.specs.Way.{DeclaresMore}

-- Where the one skeleton carries a homomorphism from a problem, the other does; and if the one then keeps what the problem
-- states, so does the other.
abbrev pub KeepsProblems : Skeleton → Skeleton → Type 0
KeepsProblems k l = (variables : List Declaration) (problem : Skeleton) → IsPointOfView variables problem → CarriesHomomorphism problem k → CarriesHomomorphism problem l × (KeepsStated problem k → KeepsStated problem l)

-- The child is a skeleton over the protocol; its variables are declared, those of the test's skeleton being the first; and it
-- carries homomorphisms, and keeps what problems state, where that skeleton does.
pub record IsSoundChild (protocol : Protocol) (q : GuardedTest) (c : Child) : Type 0 where
  pub skeleton : IsSkeleton protocol c.skeleton
  pub declared : HasDeclaredVariables c.skeleton.variables c.skeleton
  pub more : DeclaresMore q.skeleton.variables c.skeleton.variables
  pub keeps : KeepsProblems q.skeleton c.skeleton
