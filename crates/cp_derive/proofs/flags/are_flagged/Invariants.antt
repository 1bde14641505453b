use Rattle.std.proofs.Common.{◌≡◌, drop}
use Rattle.cp_derive.specs.Places.{are_flagged}
use Rattle.cp_derive.proofs.flags.are_flagged.Given as goal

abbrev pub invariant-loop-place : goal.invariant-loop-place
invariant-loop-place l = are_flagged l.flags (drop l.place-index l.places) ≡ are_flagged l.flags l.places
