use Rattle.cp_theory.proofs.NoStandingLost.{pairs_lose_none}
use Rattle.cp_theory.proofs.steps.origin_pairs_lose_no_standing.Goals as goal

pub returns : goal.returns
returns c = pairs_lose_none
