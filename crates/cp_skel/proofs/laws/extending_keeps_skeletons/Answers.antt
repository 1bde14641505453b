use Rattle.cp_skel.proofs.StaySkeletons.{extended-stays-skeleton}
use Rattle.cp_skel.proofs.laws.extending_keeps_skeletons.Goals as goal

pub returns : goal.returns
returns c = extended-stays-skeleton
