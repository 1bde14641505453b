use Rattle.cp_tree.proofs.TrueTrees.{true_of}
use Rattle.cp_tree.proofs.SoundExpansions.{expands_soundly}
use Rattle.cp_tree.proofs.SoundGeneralisations.{generalises_soundly}
use Rattle.cp_tree.proofs.laws.search_trees_are_true.Goals as goal

pub returns : goal.returns
returns c = record { truth = λ protocol variables k limits roots tree declares sound declared skeleton own from. true_of protocol variables limits roots tree from k sound declared (expands_soundly protocol variables k declares own) (generalises_soundly protocol variables k skeleton own) }
