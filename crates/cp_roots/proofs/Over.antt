-- A skeleton whose instances are of roles of a protocol is a skeleton over it, whatever protocol it was made over.
use Rattle.cp_model.specs.Strand.{Protocol}
use Rattle.cp_model.specs.Skeleton.{Skeleton, IsSkeleton}
use Rattle.cp_skel.specs.Sound.{IsSound}
use Rattle.cp_roots.specs.Over.{IsOver}

pub skeleton_over : (protocol : Protocol) (k : Skeleton) → IsSound k → IsOver protocol k → IsSkeleton protocol k
skeleton_over protocol k sound over = record {
  of_role = over.of_role;
  heights = sound.skeleton.heights;
  order_pairs = sound.skeleton.order_pairs;
  no_cycle = sound.skeleton.no_cycle;
  origins = sound.skeleton.origins;
  given = sound.skeleton.given;
}
