-- The node that is chosen of several, as the program finds it.
use Rattle.std.specs.Prelude.{List, [], ◌∷◌, Bool, true, false, if◌then◌else◌, Option, Some, None}
use Rattle.cp_lists.specs.Lists.{item_at}
use Rattle.cp_model.specs.declared.node.Node.{Node}
use Rattle.cp_model.specs.Skeleton.{SkeletonStrand, listener, Skeleton}

abbrev pub is_listening : Option SkeletonStrand → Bool
is_listening (Some (listener t)) = true
is_listening _ = false

-- Whether the node is a listener's.
abbrev pub listens_at : Skeleton → Node → Bool
listens_at k n = is_listening (item_at k.strands n.strand)

-- Of the nodes the last that is a listener's, and where none is this one.
abbrev pub last_listening : Skeleton → Option Node → List Node → Option Node
last_listening k other [] = other
last_listening k other (n ∷ ns) = last_listening k (if listens_at k n then Some n else other) ns

abbrev pub first_node : List Node → Option Node
first_node [] = None
first_node (n ∷ ns) = Some n

-- Of the nodes the last that is a listener's, and where none is the first.
abbrev pub chosen : Skeleton → List Node → Option Node
chosen k ns = last_listening k (first_node ns) ns
