use Rattle.std.proofs.Common.{◌≡◌, drop}
use Rattle.cp_fingerprint.specs.Partition.{is_whole}
use Rattle.cp_fingerprint.proofs.partition.is_whole.Given as goal

abbrev pub invariant-loop-entry : goal.invariant-loop-entry
invariant-loop-entry l = is_whole (drop l.entry-index l.entries) ≡ is_whole l.entries
