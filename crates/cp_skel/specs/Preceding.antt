-- A node of a skeleton, and what precedes it.
use Rattle.std.specs.Prelude.{◌≡◌, refl}
use Rattle.std.specs.Coded.{Coded, code_by, coded×}
use Rattle.cp_model.specs.declared.node.Node.{Node}
use Rattle.cp_model.specs.Skeleton.{Skeleton, IsNodeOf}
use Rattle.cp_order.specs.PredecessorNodes.{Target}
use Rattle.cp_skel.specs.Code.{coded_node, coded_skeleton}

-- A skeleton, and a node of it.
pub record SkeletonNode : Type 0 where
  pub skeleton : Skeleton
  pub node : Node

abbrev pub coded_skeleton_node : Coded SkeletonNode
coded_skeleton_node =
    code_by (Skeleton × Node) (coded× coded_skeleton coded_node) (λ n. (n.skeleton, n.node)) (λ p. record { skeleton = p.0; node = p.1 }) (λ n. refl)

-- The skeleton has node n, and what was gathered reaches n along the skeleton's pairs.
pub record ArePredecessors (k : Skeleton) (n : Node) (leading : Target) : Type 0 where
  pub there : IsNodeOf k.strands n
  pub along : leading ≡ record { pairs = k.pairs; node = n }
