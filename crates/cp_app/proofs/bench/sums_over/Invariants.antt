use Rattle.cp_app.proofs.BenchTotals.{AreTotalsUpTo}
use Rattle.cp_app.proofs.bench.sums_over.Given as goal

abbrev pub invariant-loop-tree : goal.invariant-loop-tree
invariant-loop-tree l = AreTotalsUpTo l.trees l.tree-index l.all
