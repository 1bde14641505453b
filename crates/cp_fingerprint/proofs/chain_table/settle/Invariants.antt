use Rattle.cp_fingerprint.specs.ChainTable.{room, IsRisen}
use Rattle.cp_fingerprint.proofs.chain_table.settle.Given as goal

abbrev pub invariant-loop-weights : goal.invariant-loop-weights
invariant-loop-weights l = IsRisen l.starts l.pairs l.fn.weights l.weights

abbrev pub decreases-loop-weights : goal.decreases-loop-weights
decreases-loop-weights l = room l.weights
