use Rattle.cp_skel.proofs.SkeletonWithout.{skeleton_kept}
use Rattle.cp_skel.proofs.laws.deleting_keeps_skeletons.Goals as goal

pub returns : goal.returns
returns c = skeleton_kept
