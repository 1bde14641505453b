use Rattle.cp_stated.proofs.SoundStated.{stated_skeleton, stated_sound}
use Rattle.cp_stated.proofs.laws.fitting_items_state_sound_skeletons.Goals as goal

pub returns-clause-skeleton : goal.returns-clause-skeleton
returns-clause-skeleton c = stated_skeleton

pub returns-clause-sound : goal.returns-clause-sound
returns-clause-sound c = stated_sound
