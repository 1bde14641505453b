use Rattle.std.proofs.Common.{drop}
use Rattle.cp_fingerprint.specs.SharedValues.{value_slots}
use Rattle.cp_fingerprint.specs.Weights.{AreAdded}
use Rattle.cp_fingerprint.specs.declared.sums.Sums.{Sums}
use Rattle.cp_fingerprint.proofs.sums.Sums.add_values.Given as goal

abbrev pub invariant-loop-number : goal.invariant-loop-number
invariant-loop-number l = (r : Sums) → AreAdded (value_slots l.number (drop l.number l.values)) l.self r → AreAdded (value_slots 0 l.values) l.initial.self r
