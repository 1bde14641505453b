use Rattle.std.proofs.Common.{◌≤◌, length}
use Rattle.cp_collapse.specs.MergedStrands.{IsTallestTo}
use Rattle.cp_collapse.proofs.merged_strands.tallest.Given as goal

abbrev pub invariant-loop-strand : goal.invariant-loop-strand
invariant-loop-strand l = IsTallestTo l.k l.partial.lowest.items l.block l.strand l.tallest × (l.strand ≤ length l.partial.lowest.items)
