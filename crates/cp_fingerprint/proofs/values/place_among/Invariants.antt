use Rattle.std.proofs.Common.{map}
use Rattle.cp_fingerprint.proofs.ValuePlaces.{IsStillFound}
use Rattle.cp_fingerprint.proofs.values.place_among.Given as goal

abbrev pub invariant-loop-number : goal.invariant-loop-number
invariant-loop-number l = IsStillFound l.value (map (λ v. v.value) l.values) l.number
