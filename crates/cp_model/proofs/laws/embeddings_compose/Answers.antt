use Rattle.cp_model.proofs.LawEmbeddings.{embeds_then}
use Rattle.cp_model.proofs.laws.embeddings_compose.Goals as goal

pub returns : goal.returns
returns c = embeds_then
