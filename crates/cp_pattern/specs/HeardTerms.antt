-- Terms that are received at a node.
use Rattle.std.specs.Prelude.{◌≡◌, Some}
use Rattle.cp_model.specs.Term.{Term}
use Rattle.cp_model.specs.declared.strand.Event.TheVariants.{Receive as recv}
use Rattle.cp_model.specs.declared.node.Node.{Node}
use Rattle.cp_model.specs.Skeleton.{term_event_at, Skeleton}
use Rattle.cp_theory.specs.Critical.{IsComponent}

-- The term is a component of a message that is received at the node.
pub record IsReceivedComponentAt (k : Skeleton) (n : Node) (c : Term) : Type 0 where
  pub message : Term
  pub reception : term_event_at k.strands n ≡ Some (recv message)
  pub component : IsComponent c message
