use Rattle.std.proofs.Common.{◌≡◌, ◌++◌, length, map, drop}
use Rattle.cp_fingerprint.specs.SharedValues.{strand_slots, strung}
use Rattle.cp_fingerprint.specs.Weights.{AreAdded}
use Rattle.cp_fingerprint.specs.declared.sums.Sums.{Sums}
use Rattle.cp_fingerprint.proofs.sums.Sums.add_strands.Given as goal

abbrev pub invariant-loop-strand : goal.invariant-loop-strand
invariant-loop-strand l =
    ((r : Sums) → AreAdded (strung (map strand_slots (drop l.strand-index l.strands))) l.self r → AreAdded (strung (map strand_slots l.strands)) l.initial.self r)
    × (l.counts.items ++ map length (map strand_slots (drop l.strand-index l.strands)) ≡ map length (map strand_slots l.strands))
