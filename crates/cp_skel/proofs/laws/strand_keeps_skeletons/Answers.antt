use Rattle.cp_skel.proofs.StaySkeletons.{strand-stays-skeleton}
use Rattle.cp_skel.proofs.laws.strand_keeps_skeletons.Goals as goal

pub returns : goal.returns
returns c = strand-stays-skeleton
