use Rattle.std.proofs.Common.{◌≡◌}
use Rattle.cp_fingerprint.specs.ChainTable.{weight_on, weights_on}
use Rattle.cp_fingerprint.proofs.chain_table.weights_on.Given as goal

abbrev pub invariant-loop-index : goal.invariant-loop-index
invariant-loop-index l = (l.sum ≡ weights_on l.weights l.start l.first l.index) × (l.weight ≡ weight_on l.weights l.start l.index)
