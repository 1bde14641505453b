use Rattle.cp_cohort.proofs.Operations.{children_said}
use Rattle.cp_cohort.proofs.cohorts.operations_are_true.Goals as goal

pub returns : goal.returns
returns c = children_said
