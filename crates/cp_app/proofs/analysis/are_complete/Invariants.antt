use Rattle.cp_app.proofs.Trees.{AreCompleteBefore}
use Rattle.cp_app.proofs.analysis.are_complete.Given as goal

abbrev pub invariant-loop-tree : goal.invariant-loop-tree
invariant-loop-tree l = AreCompleteBefore l.trees l.tree-index
