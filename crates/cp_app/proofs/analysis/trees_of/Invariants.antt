use Rattle.cp_app.proofs.Trees.{AreTreesUpTo}
use Rattle.cp_app.proofs.analysis.trees_of.Given as goal

abbrev pub invariant-loop-entry : goal.invariant-loop-entry
invariant-loop-entry l = AreTreesUpTo l.fn.limits l.entries l.entry-index l.trees.items
