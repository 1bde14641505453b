use Rattle.cp_cohort.proofs.SoundChildren.{sound_child}
use Rattle.cp_cohort.proofs.cohorts.children_are_sound.Goals as goal

pub returns : goal.returns
returns c = sound_child
