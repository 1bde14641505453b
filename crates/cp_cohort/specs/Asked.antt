-- Guarded tests of skeletons over a protocol.
use Rattle.cp_model.specs.Strand.{Protocol}
use Rattle.cp_model.specs.Skeleton.{IsSkeleton}
use Rattle.cp_model.specs.PointOfView.{HasDeclaredVariables}
use Rattle.cp_cohort.specs.Cohort.{GuardedTest}

-- The skeleton is one over the protocol, and its variables are declared.
pub record IsAskedOver (protocol : Protocol) (q : GuardedTest) : Type 0 where
  pub skeleton : IsSkeleton protocol q.skeleton
  pub declared : HasDeclaredVariables q.skeleton.variables q.skeleton
