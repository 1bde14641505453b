-- The bounded search along as many pairs as there are finds what reaches a node.
use Rattle.std.proofs.Common.{◌≡◌, ◌↔◌, List, length, true, refl}
use Rattle.cp_model.specs.declared.node.Node.{Node}
use Rattle.cp_model.specs.declared.node.OrderPair.{OrderPair}
use Rattle.cp_model.specs.Order.{ReachesAlong}
use Rattle.cp_model.specs.OrderTests.{reaches_within}
use Rattle.cp_model.proofs.BoundedSearch.{bounded_search}

pub reaches_all : (pairs : List OrderPair) (x y : Node) → (reaches_within (length pairs) pairs x y ≡ true) ↔ ReachesAlong pairs x y
reaches_all pairs x y = bounded_search (length pairs) pairs x y refl
