use Rattle.std.proofs.Common.{◌≡◌, ◌+◌, drop}
use Rattle.cp_fingerprint.specs.FirstPlaces.{first_place_of}
use Rattle.cp_fingerprint.proofs.first_places.first_of.Given as goal

abbrev pub invariant-loop-number : goal.invariant-loop-number
invariant-loop-number l = l.number + first_place_of l.place (drop l.number l.places) ≡ first_place_of l.place l.places
