-- What was sent before a node.
use Rattle.cp_model.specs.Term.{Term, IsCarriedByTerm}
use Rattle.cp_model.specs.declared.node.Node.{Node}
use Rattle.cp_model.specs.Skeleton.{Skeleton}
use Rattle.cp_derive.specs.From.{IsSentBefore}

-- A role strand sends a term before the node that carries this one.
pub record CarriesBefore (k : Skeleton) (n : Node) (c : Term) : Type 0 where
  pub message : Term
  pub sent : IsSentBefore k n message
  pub carried : IsCarriedByTerm c message
