use Rattle.cp_collapse.proofs.AssumptionImages.{assumptions_listed}
use Rattle.cp_collapse.proofs.collapse_laws.collapses_are_listed.Goals as goal

pub returns : goal.returns
returns c = assumptions_listed
