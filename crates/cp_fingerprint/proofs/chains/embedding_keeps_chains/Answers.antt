use Rattle.cp_fingerprint.proofs.HeaviestChains.{chains_kept, chains_same}
use Rattle.cp_fingerprint.proofs.chains.embedding_keeps_chains.Goals as goal

pub returns : goal.returns
returns c = record { embeds = chains_kept; isomorphic = chains_same }
