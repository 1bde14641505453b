use Rattle.cp_tree.proofs.PassedStandings.{is_lawful, dead_nowhere}
use Rattle.cp_tree.proofs.SoundExpansions.{expands_soundly}
use Rattle.cp_tree.proofs.laws.search_trees_are_lawful.Goals as goal

pub returns-clause-lawful : goal.returns-clause-lawful
returns-clause-lawful c = λ protocol variables k limits roots tree declares sound declared own from. is_lawful protocol variables limits roots tree from k sound declared (expands_soundly protocol variables k declares own)

pub returns-clause-dead_nowhere : goal.returns-clause-dead_nowhere
returns-clause-dead_nowhere c = λ protocol variables k limits roots tree declares sound declared own from. dead_nowhere protocol variables limits roots tree from k sound declared (expands_soundly protocol variables k declares own)
