use Rattle.cp_fingerprint.proofs.HeaviestChains.{is_heaviest}
use Rattle.cp_fingerprint.proofs.chains.heaviest_chains_lead.Goals as goal

pub returns : goal.returns
returns c = is_heaviest
