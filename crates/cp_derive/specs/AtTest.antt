-- A test of a skeleton.
use Rattle.std.specs.Prelude.{refl}
use Rattle.std.specs.Coded.{Coded, code_by, coded×}
use Rattle.cp_model.specs.Term.{Term}
use Rattle.cp_model.specs.declared.node.Node.{Node}
use Rattle.cp_model.specs.Skeleton.{Skeleton}
use Rattle.cp_term.specs.Code.{coded_term}
use Rattle.cp_skel.specs.Code.{coded_node, coded_skeleton}

-- A skeleton, a node of it that receives a message, and the component of the message that is not derivable there.
pub record SkeletonTest : Type 0 where
  pub skeleton : Skeleton
  pub node : Node
  pub critical : Term

abbrev pub coded_skeleton_test : Coded SkeletonTest
coded_skeleton_test =
    code_by (Skeleton × (Node × Term)) (coded× coded_skeleton (coded× coded_node coded_term)) (λ t. (t.skeleton, (t.node, t.critical)))
    (λ p. record { skeleton = p.0; node = p.1.0; critical = p.1.1 }) (λ t. refl)
