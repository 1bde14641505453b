-- The law is the lemma.
use Rattle.cp_model.proofs.SingleMaps.{own_carries}
use Rattle.cp_model.proofs.single.skeleton_maps_from_itself.Goals as goal

pub returns : goal.returns
returns c = own_carries
