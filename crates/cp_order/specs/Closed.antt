-- Closed orders: whatever reaches a node of another strand does so along one pair.
use Rattle.std.specs.Prelude.{◌≡◌, ◌⊎◌, ◌↔◌, List}
use Rattle.cp_lists.specs.Lists.{IsIn}
use Rattle.cp_model.specs.declared.node.Node.{Node}
use Rattle.cp_model.specs.declared.node.OrderPair.{OrderPair}
use Rattle.cp_model.specs.Order.{IsAtOrAfter, ReachesAlong}

-- y is x or comes after it on its strand; or one pair leads from x, or a node after it, to y, or a node before it.
abbrev pub LeadsAlongOne : List OrderPair → Node → Node → Type 0
LeadsAlongOne pairs x y = IsAtOrAfter x y ⊎ ((p : OrderPair) × IsIn p pairs × IsAtOrAfter x p.earlier × IsAtOrAfter p.later y)

-- Whatever reaches a node does so along one pair.
abbrev pub IsTransitive : List OrderPair → Type 0
IsTransitive pairs = (x y : Node) → ReachesAlong pairs x y → LeadsAlongOne pairs x y

-- The pair begins where one of these begins, and ends where one of these ends; and it is one of these, or doesn't
-- follow the order of one strand.
pub record IsComposedOf (pairs : List OrderPair) (p : OrderPair) : Type 0 where
  pub first : (q : OrderPair) × IsIn q pairs × (q.earlier ≡ p.earlier)
  pub last : (q : OrderPair) × IsIn q pairs × (q.later ≡ p.later)
  pub is_one : IsIn p pairs ⊎ (IsAtOrAfter p.earlier p.later → ⊥)

-- The new pairs order as the old ones do, and are composed of them.
pub record KeepsOrder (old new : List OrderPair) : Type 0 where
  pub leads : (x y : Node) → ReachesAlong new x y ↔ ReachesAlong old x y
  pub composed : (p : OrderPair) → IsIn p new → IsComposedOf old p

-- These pairs are closed, and order as the others do.
pub record IsClosureOf (pairs closed : List OrderPair) : Type 0 where
  pub closes : IsTransitive closed
  pub keeps : KeepsOrder pairs closed
