use Rattle.std.proofs.Common.{◌≡◌, ◌++◌, drop}
use Rattle.cp_fingerprint.specs.Partition.{partition_entries_from, partition_of}
use Rattle.cp_fingerprint.proofs.partition.Partition.of.Given as goal

abbrev pub invariant-loop-strand : goal.invariant-loop-strand
invariant-loop-strand l = l.entries.items ++ partition_entries_from l.k l.strand (drop l.strand l.k.from_problem.strands) ≡ partition_of l.k
