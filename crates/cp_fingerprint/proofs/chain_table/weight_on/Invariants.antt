use Rattle.std.proofs.Common.{◌≡◌}
use Rattle.cp_fingerprint.specs.ChainTable.{weight_on}
use Rattle.cp_fingerprint.proofs.chain_table.weight_on.Given as goal

abbrev pub invariant-loop-before : goal.invariant-loop-before
invariant-loop-before l = l.weight ≡ weight_on l.weights l.start l.before
