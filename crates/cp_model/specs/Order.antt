-- The order of nodes by strands and pairs alone, whatever stands at the nodes.
use Rattle.std.specs.Prelude.{◌≡◌, ◌≤◌, List}
use Rattle.cp_lists.specs.Lists.{IsIn}
use Rattle.cp_model.specs.declared.node.Node.{Node}
use Rattle.cp_model.specs.declared.node.OrderPair.{OrderPair}

-- y is x, or comes after it on its strand.
abbrev pub IsAtOrAfter : Node → Node → Type 0
IsAtOrAfter x y = (x.strand ≡ y.strand) × (x.index ≤ y.index)

-- x reaches y: y is x or comes after it on its strand; or x is, or stands before, the earlier node of a pair whose
-- later node reaches y.
pub data ReachesAlong (pairs : List OrderPair) : Node → Node → Type 0 where
  on_strand : {x y : Node} → IsAtOrAfter x y → ReachesAlong pairs x y
  over_pair : {p : OrderPair} {x y : Node} → IsIn p pairs → IsAtOrAfter x p.earlier → ReachesAlong pairs p.later y → ReachesAlong pairs x y
