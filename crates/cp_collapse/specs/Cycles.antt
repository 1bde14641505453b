-- Cycles of the order, by the pairs that close them.
use Rattle.std.specs.Prelude.{◌≡◌, List}
use Rattle.cp_model.specs.declared.node.Node.{Node}
use Rattle.cp_model.specs.declared.node.OrderPair.{OrderPair}
use Rattle.cp_model.specs.Order.{ReachesAlong}
use Rattle.cp_collapse.specs.Property.{Has}

-- The pair goes from node n to one that reaches node m along strands and pairs.
abbrev pub StartsPath : List OrderPair → Node → Node → OrderPair → Type 0
StartsPath pairs n m p = (p.earlier ≡ n) × ReachesAlong pairs p.later m

-- A pair from node n closes a cycle with the pairs.
abbrev pub ClosesCycleAt : List OrderPair → Node → Type 0
ClosesCycleAt pairs n = Has (StartsPath pairs n n) pairs
