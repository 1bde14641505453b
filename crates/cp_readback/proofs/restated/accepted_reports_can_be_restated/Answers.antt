use Rattle.cp_readback.proofs.RestatedTrees.{restated}
use Rattle.cp_readback.proofs.restated.accepted_reports_can_be_restated.Goals as goal

pub returns : goal.returns
returns c = restated
