use Rattle.cp_skel.proofs.StaySkeletons.{listener-stays-skeleton}
use Rattle.cp_skel.proofs.laws.listener_keeps_skeletons.Goals as goal

pub returns : goal.returns
returns c = listener-stays-skeleton
