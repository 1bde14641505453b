use Rattle.std.proofs.Common.{◌≡◌, false, ◌++◌, drop}
use Rattle.cp_fingerprint.specs.ChainTable.{starts_from}
use Rattle.cp_fingerprint.proofs.chain_table.starts_of.Given as goal

abbrev pub invariant-loop-strand : goal.invariant-loop-strand
invariant-loop-strand l = l.starts.ran_out ≡ false → l.starts.items ++ starts_from l.start (drop l.strand-index l.strands) ≡ starts_from 0 l.strands
