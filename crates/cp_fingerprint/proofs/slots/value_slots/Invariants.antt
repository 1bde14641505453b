use Rattle.std.proofs.Common.{◌≡◌, ◌++◌, drop}
use Rattle.cp_fingerprint.specs.SharedValues.{value_slots}
use Rattle.cp_fingerprint.proofs.slots.value_slots.Given as goal

abbrev pub invariant-loop-number : goal.invariant-loop-number
invariant-loop-number l = l.slots.items ++ value_slots l.number (drop l.number l.values) ≡ value_slots 0 l.values
