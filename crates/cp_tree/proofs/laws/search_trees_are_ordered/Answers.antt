use Rattle.cp_tree.proofs.Placed.{roots_are_first, children_are}
use Rattle.cp_tree.proofs.TreeEdges.{edges_have_no_cycle}
use Rattle.cp_tree.proofs.laws.search_trees_are_ordered.Goals as goal

pub returns-clause-roots_first : goal.returns-clause-roots_first
returns-clause-roots_first c = roots_are_first

pub returns-clause-children : goal.returns-clause-children
returns-clause-children c = children_are

pub returns-clause-no_cycle : goal.returns-clause-no_cycle
returns-clause-no_cycle c = edges_have_no_cycle
