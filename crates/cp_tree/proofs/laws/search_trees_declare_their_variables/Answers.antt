use Rattle.cp_tree.proofs.DeclaredLabels.{declares_own}
use Rattle.cp_tree.proofs.SoundExpansions.{expands_soundly}
use Rattle.cp_tree.proofs.laws.search_trees_declare_their_variables.Goals as goal

pub returns : goal.returns
returns c = λ protocol variables k limits roots tree declares sound declared own from. declares_own protocol declares variables limits roots tree from k sound declared (expands_soundly protocol variables k declares own)
