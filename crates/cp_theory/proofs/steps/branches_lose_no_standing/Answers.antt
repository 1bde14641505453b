use Rattle.cp_theory.proofs.NoStandingLost.{branches_lose_none}
use Rattle.cp_theory.proofs.steps.branches_lose_no_standing.Goals as goal

pub returns : goal.returns
returns c = branches_lose_none
