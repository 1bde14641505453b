use Rattle.cp_model.proofs.LawStandings.{standing_through}
use Rattle.cp_theory.proofs.Embedded.{apart_through, factors_after}
use Rattle.cp_theory.proofs.embeddings.embedding_then_standing.Goals as goal

pub returns : goal.returns
returns c = record {
  stands = λ protocol a b f bundle g ska skb emb stands. standing_through protocol a b f bundle g ska skb emb.homomorphism stands;
  apart = apart_through;
  factors = factors_after;
}
