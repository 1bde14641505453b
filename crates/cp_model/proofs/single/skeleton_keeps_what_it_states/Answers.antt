-- The law is the lemma.
use Rattle.cp_model.proofs.StatedItself.{keeps_its_own}
use Rattle.cp_model.proofs.single.skeleton_keeps_what_it_states.Goals as goal

pub returns : goal.returns
returns c = keeps_its_own
