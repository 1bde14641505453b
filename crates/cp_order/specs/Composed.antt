-- Ways along one pair, and the pairs that are composed of others.
use Rattle.std.specs.Prelude.{◌&&◌, ◌||◌, List, [], ◌∷◌, ◌++◌, Bool, if◌then◌else◌}
use Rattle.cp_model.specs.declared.node.Node.{Node}
use Rattle.cp_model.specs.declared.node.OrderPair.{OrderPair}
use Rattle.cp_model.specs.OrderTests.{at_or_after, any_pair}

-- The pair leads from x, or a node after it, to y, or a node before it.
abbrev pub is_between : Node → Node → OrderPair → Bool
is_between x y p = at_or_after x p.earlier && at_or_after p.later y

-- x reaches y on its strand, or along one pair.
abbrev pub leads_along_one : List OrderPair → Node → Node → Bool
leads_along_one pairs x y = at_or_after x y || any_pair (is_between x y) pairs

-- The pair behind the others, unless these lead from its first node to its second along one pair.
abbrev pub joined_pair : List OrderPair → OrderPair → List OrderPair
joined_pair ps p = if leads_along_one ps p.earlier p.later then ps else ps ++ (p ∷ [])

-- Pair after pair behind the others.
abbrev pub all_joined : List OrderPair → List OrderPair → List OrderPair
all_joined ps [] = ps
all_joined ps (q ∷ qs) = all_joined (joined_pair ps q) qs

-- From the first node to the ends of the pairs that the second reaches.
abbrev pub pairs_past : Node → Node → List OrderPair → List OrderPair
pairs_past x y [] = []
pairs_past x y (p ∷ ps) = if at_or_after y p.earlier then record { earlier = x; later = p.later } ∷ pairs_past x y ps else pairs_past x y ps

-- From the first node to the second, and to the ends of the pairs that this reaches.
abbrev pub composed_from : List OrderPair → Node → Node → List OrderPair
composed_from pairs x y = record { earlier = x; later = y } ∷ pairs_past x y pairs

-- From the beginnings of those of the last pairs that reach the pair p to its end, and to the ends of the pairs that
-- this reaches.
abbrev pub pairs_to : List OrderPair → OrderPair → List OrderPair → List OrderPair
pairs_to pairs p [] = []
pairs_to pairs p (q ∷ qs) = if at_or_after q.later p.earlier then composed_from pairs q.earlier p.later ++ pairs_to pairs p qs else pairs_to pairs p qs

-- The pair, and what it makes with those that reach it and those that it reaches.
abbrev pub composed_pairs : List OrderPair → OrderPair → List OrderPair
composed_pairs pairs p = composed_from pairs p.earlier p.later ++ pairs_to pairs p pairs
