-- What is narrowed from a skeleton over a protocol is one.
use Rattle.cp_model.specs.Strand.{Protocol}
use Rattle.cp_model.specs.Skeleton.{Skeleton, IsSkeleton}
use Rattle.cp_theory.specs.Normal.{skeleton_under}
use Rattle.cp_theory.proofs.Skeletons.{skeleton_under_is_skeleton}
use Rattle.cp_normal.specs.NormalForms.{IsNarrowed, NarrowsTo, none, one}
use Rattle.cp_collapse.proofs.SameSkeletons.{same_is_skeleton}

narrowed_is_skeleton : (protocol : Protocol) (k l : Skeleton) → IsNarrowed k l → IsSkeleton protocol k → IsSkeleton protocol l
narrowed_is_skeleton protocol k l s sk = same_is_skeleton (skeleton_under s.unifier k) l s.same protocol (skeleton_under_is_skeleton protocol s.unifier k sk)

pub narrows_is_skeleton : (protocol : Protocol) {k l : Skeleton} → NarrowsTo k l → IsSkeleton protocol k → IsSkeleton protocol l
narrows_is_skeleton protocol none sk = sk
narrows_is_skeleton protocol {k} (one {l = m} s p) sk = narrows_is_skeleton protocol p (narrowed_is_skeleton protocol k m s sk)
