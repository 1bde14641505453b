-- Ordered skeletons, and changes of their order.
use Rattle.std.specs.Prelude.{◌≡◌, List}
use Rattle.cp_lists.specs.Lists.{IsIn}
use Rattle.cp_model.specs.declared.node.Node.{Node}
use Rattle.cp_model.specs.Skeleton.{Skeleton, Before, IsOrderPair}
use Rattle.cp_model.specs.declared.node.OrderPair.{OrderPair}

-- Each pair of the skeleton goes from a transmission to a reception of another strand, and its order has no cycle.
pub record IsOrdered (k : Skeleton) : Type 0 where
  pub order_pairs : (p : OrderPair) → IsIn p k.pairs → IsOrderPair k p
  pub no_cycle : (n : Node) → Before k n n → ⊥

-- The skeleton with these pairs.
abbrev pub ordered_by : Skeleton → List OrderPair → Skeleton
ordered_by k pairs = record { variables = k.variables; strands = k.strands; pairs = pairs; assumptions = k.assumptions; from_problem = k.from_problem }

-- The skeletons are the same but for their orders.
pub record ChangesOrderOnly (old new : Skeleton) : Type 0 where
  pub variables : new.variables ≡ old.variables
  pub strands : new.strands ≡ old.strands
  pub assumptions : new.assumptions ≡ old.assumptions
  pub from_problem : new.from_problem ≡ old.from_problem

-- The same, where the tables of variables may differ too.
pub record DiffersInOrder (old new : Skeleton) : Type 0 where
  pub strands : new.strands ≡ old.strands
  pub assumptions : new.assumptions ≡ old.assumptions
  pub from_problem : new.from_problem ≡ old.from_problem
