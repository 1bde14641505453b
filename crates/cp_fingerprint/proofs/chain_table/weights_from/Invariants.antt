use Rattle.std.proofs.Common.{◌≡◌, drop}
use Rattle.cp_fingerprint.specs.ChainTable.{weights_from}
use Rattle.cp_fingerprint.proofs.chain_table.weights_from.Given as goal

abbrev pub invariant-loop-strand : goal.invariant-loop-strand
invariant-loop-strand l = weights_from l.weights l.start l.sum (drop l.strand-index l.strands) ≡ weights_from l.weights 0 0 l.strands
