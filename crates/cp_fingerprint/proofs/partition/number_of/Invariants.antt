use Rattle.std.proofs.Common.{◌≡◌, drop}
use Rattle.cp_fingerprint.specs.PartitionNumber.{partition_number}
use Rattle.cp_fingerprint.proofs.partition.number_of.Given as goal

abbrev pub invariant-loop-entry : goal.invariant-loop-entry
invariant-loop-entry l = partition_number l.number (drop l.entry-index l.entries) ≡ partition_number 1 l.entries
