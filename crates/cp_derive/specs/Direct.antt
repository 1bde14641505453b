-- What is sent at a node from which a pair leads to another.
use Rattle.std.specs.Prelude.{◌≡◌, List}
use Rattle.cp_lists.specs.Lists.{IsIn}
use Rattle.cp_model.specs.Term.{Term}
use Rattle.cp_model.specs.declared.node.Node.{Node}
use Rattle.cp_model.specs.declared.node.OrderPair.{OrderPair}
use Rattle.cp_derive.specs.Transmissions.{Transmission}

-- One of the transmissions sends the term, at a node from which one of the pairs leads to node n.
pub record IsSentDirectly (ts : List Transmission) (pairs : List OrderPair) (t : Term) (n : Node) : Type 0 where
  pub transmission : Transmission
  pub listed : IsIn transmission ts
  pub message : transmission.message ≡ t
  pub leads : IsIn (record { earlier = transmission.node; later = n }) pairs
