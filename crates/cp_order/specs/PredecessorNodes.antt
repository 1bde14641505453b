-- The predecessors of one node, which reach it, and the search for them.
use Rattle.std.specs.Prelude.{◌≡◌, ◌&&◌, ◌||◌, nat_le, nat_lt, ◌⊎◌, ◌↔◌, ℕ, suc, List, [], ◌∷◌, ◌++◌, Bool, true, false, not, if◌then◌else◌, Option, Some, None, nat_eq}
use Rattle.std.specs.HashMap.{HashMap, get}
use Rattle.cp_lists.specs.Lists.{IsIn, item_at}
use Rattle.cp_model.specs.declared.node.Node.{Node}
use Rattle.cp_model.specs.declared.node.OrderPair.{OrderPair}
use Rattle.cp_model.specs.Order.{ReachesAlong}
use Rattle.cp_model.specs.OrderTests.{at_or_after}
use Rattle.cp_order.specs.declared.tops.Tops as program

-- Pairs, and the node that its predecessors reach along them.
pub record Target : Type 0 where
  pub pairs : List OrderPair
  pub node : Node

-- ---- the predecessors, by the greatest index of one on each strand

-- For each strand the greatest index that is known, if any is.
abbrev pub Tops : Type 0
Tops = ℕ → Option ℕ

abbrev pub is_within : Option ℕ → ℕ → Bool
is_within None i = false
is_within (Some top) i = nat_le i top

-- The node is at the top of its strand or below.
abbrev pub is_under_tops : Tops → Node → Bool
is_under_tops tops x = is_within (tops x.strand) x.index

-- The nodes at the tops and below them are the predecessors of the node.
abbrev pub AreTops : List OrderPair → Node → Tops → Type 0
AreTops pairs y tops = (x : Node) → (is_under_tops tops x ≡ true) ↔ ReachesAlong pairs x y

abbrev pub tops_of : {S : Type 0} → HashMap ℕ ℕ S → Tops
tops_of m = get nat_eq m

-- The top that stands in a list, which is none past its end too.
abbrev pub top_or_none : Option (Option ℕ) → Option ℕ
top_or_none None = None
top_or_none (Some top) = top

-- Tops at the places of their strands.
abbrev pub tops_at : List (Option ℕ) → Tops
tops_at tops s = top_or_none (item_at tops s)

-- The tops of low strands stand in a list, and those of high strands in a map.
abbrev pub tops_in : program.Tops → Tops
tops_in tops s = if nat_lt s 64 then tops_at tops.low.items s else tops_of tops.high s

-- ---- the search

-- The pair's later node is at the node n or before it on its strand, and was not below the strand's top before.
abbrev pub is_reached : Option ℕ → Node → OrderPair → Bool
is_reached top n p = at_or_after p.later n && not (is_within top p.later.index)

-- The earlier nodes of the pairs that are reached.
abbrev pub reached : Option ℕ → Node → List OrderPair → List Node
reached top n [] = []
reached top n (p ∷ ps) = if is_reached top n p then p.earlier ∷ reached top n ps else reached top n ps

-- A node is taken: the nodes up to it are below the new tops, and what reaches them by one pair is put behind what
-- is still to be taken.
pub record TakesNode (pairs : List OrderPair) (n : Node) (old new : Tops) (work more : List Node) : Type 0 where
  pub raised : (x : Node) → is_under_tops new x ≡ (is_under_tops old x || at_or_after x n)
  pub added : more ≡ work ++ reached (old n.strand) n pairs

-- How many pairs' later nodes are not below the tops.
abbrev pub waiting : Tops → List OrderPair → ℕ
waiting tops [] = 0
waiting tops (p ∷ ps) = if is_under_tops tops p.later then waiting tops ps else suc (waiting tops ps)

-- What is below the tops or still to be taken reaches y; y is among these; and so is what reaches by one pair what is
-- below the tops.
pub record IsGathered (pairs : List OrderPair) (y : Node) (tops : Tops) (work : List Node) : Type 0 where
  pub below : (x : Node) → is_under_tops tops x ≡ true → ReachesAlong pairs x y
  pub to_take : (x : Node) → IsIn x work → ReachesAlong pairs x y
  pub target : (is_under_tops tops y ≡ true) ⊎ IsIn y work
  pub closed : (p : OrderPair) → IsIn p pairs → is_under_tops tops p.later ≡ true → (is_under_tops tops p.earlier ≡ true) ⊎ IsIn p.earlier work
