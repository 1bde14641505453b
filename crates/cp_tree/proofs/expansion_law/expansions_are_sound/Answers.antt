use Rattle.cp_tree.proofs.SoundExpansions.{expands_soundly}
use Rattle.cp_tree.proofs.expansion_law.expansions_are_sound.Goals as goal

pub returns : goal.returns
returns c = λ protocol variables k declares own. expands_soundly protocol variables k declares own
