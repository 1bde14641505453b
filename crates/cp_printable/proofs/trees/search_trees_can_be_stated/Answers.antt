use Rattle.cp_printable.proofs.StatedTrees.{tree_fits}
use Rattle.cp_printable.proofs.trees.search_trees_can_be_stated.Goals as goal

pub returns : goal.returns
returns c = tree_fits
