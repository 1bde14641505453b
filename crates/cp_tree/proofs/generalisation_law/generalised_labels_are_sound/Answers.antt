use Rattle.cp_tree.proofs.SoundGeneralisations.{generalises_soundly}
use Rattle.cp_tree.proofs.generalisation_law.generalised_labels_are_sound.Goals as goal

pub returns : goal.returns
returns c = λ protocol variables k skeleton own. generalises_soundly protocol variables k skeleton own
