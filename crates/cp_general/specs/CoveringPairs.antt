-- Whether a pair covers, among all pairs of an order.
use Rattle.std.specs.Prelude.{◌==◌, ◌&&◌, ◌||◌, nat_lt, map, Bool, false, List, [], ◌∷◌, ◌++◌}
use Rattle.std.specs.List.{filter}
use Rattle.cp_model.specs.Same.{same_node}
use Rattle.cp_model.specs.declared.node.Node.{Node}
use Rattle.cp_model.specs.declared.node.OrderPair.{OrderPair}

-- The nodes to which pairs lead from x, and those from which pairs lead to y.
abbrev pub led_to : List OrderPair → Node → List Node
led_to pairs x = map (λ p. p.later) (filter (λ p. same_node p.earlier x) pairs)

abbrev pub predecessors_of : List OrderPair → Node → List Node
predecessors_of pairs y = map (λ p. p.earlier) (filter (λ p. same_node p.later y) pairs)

-- These nodes, and y.
abbrev pub lasts_of : List OrderPair → Node → List Node
lasts_of pairs y = predecessors_of pairs y ++ (y ∷ [])

-- x is before y on one strand.
abbrev pub is_earlier_on_strand : Node → Node → Bool
is_earlier_on_strand x y = (x.strand == y.strand) && nat_lt x.index y.index

-- x is so before a node of the list.
abbrev pub is_below_one : Node → List Node → Bool
is_below_one x [] = false
is_below_one x (y ∷ ys) = is_earlier_on_strand x y || is_below_one x ys

-- So it is for a node of the first.
abbrev pub some_is_below : List Node → List Node → Bool
some_is_below [] ys = false
some_is_below (x ∷ xs) ys = is_below_one x ys || some_is_below xs ys

-- Among all pairs of an order: something is between the nodes of the pair. From the first node a pair, or nothing, leads to a
-- node that is before one on its strand from which a pair, or nothing, leads to the second.
abbrev pub is_covered : List OrderPair → OrderPair → Bool
is_covered pairs p = some_is_below (led_to pairs p.earlier ++ (p.earlier ∷ [])) (lasts_of pairs p.later)
