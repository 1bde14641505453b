use Rattle.cp_theory.proofs.Weaker.{weaker_loses_none}
use Rattle.cp_theory.proofs.steps.weaker_loses_no_standing.Goals as goal

pub returns : goal.returns
returns c = weaker_loses_none
