-- Pairs in the order of their later nodes.
use Rattle.std.specs.Prelude.{◌≡◌, ◌==◌, ◌&&◌, ◌||◌, nat_lt, ◌≤◌, ◌<◌, ℕ, List, [], ◌∷◌, length, slice_index_or, Bool, false, if◌then◌else◌, Option}
use Rattle.cp_model.specs.declared.node.Node.{Node}
use Rattle.cp_model.specs.declared.node.OrderPair.{OrderPair}
use Rattle.cp_model.specs.declared.node.OrderPair as program
use Rattle.cp_model.specs.OrderTests.{at_or_after}
use Rattle.cp_order.specs.PredecessorNodes.{is_within}

-- By strand, and then by index.
abbrev pub node_before : Node → Node → Bool
node_before x y = nat_lt x.strand y.strand || ((x.strand == y.strand) && nat_lt x.index y.index)

abbrev pub AreSorted : List program.OrderPair → Type 0
AreSorted ps = (i j : ℕ) (d : program.OrderPair) → i ≤ j → j < length ps → node_before (slice_index_or ps j d).later (slice_index_or ps i d).later ≡ false

-- The node is on a strand before this one, or on this one at its top or below.
abbrev pub is_passed : Option ℕ → ℕ → Node → Bool
is_passed top s x = nat_lt x.strand s || ((x.strand == s) && is_within top x.index)

-- The earlier nodes of the first pairs, as long as their later nodes are at the node n or before it on its strand.
abbrev pub first_nodes : Node → List OrderPair → List Node
first_nodes n [] = []
first_nodes n (p ∷ ps) = if at_or_after p.later n then p.earlier ∷ first_nodes n ps else []
