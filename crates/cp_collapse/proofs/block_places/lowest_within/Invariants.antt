use Rattle.std.proofs.Common.{◌≡◌, ◌≤◌}
use Rattle.cp_collapse.specs.Partitions.{lowest_before}
use Rattle.cp_collapse.proofs.block_places.lowest_within.Given as goal

abbrev pub invariant-loop-strand : goal.invariant-loop-strand
invariant-loop-strand l = (l.count ≡ lowest_before l.lowest l.strand) × (l.count ≤ l.strand) × (l.strand ≤ l.end)
