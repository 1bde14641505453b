use Rattle.cp_derive.proofs.TransmissionPlaces.{ArePlacesBelow}
use Rattle.cp_derive.proofs.before.places_before.Given as goal

abbrev pub invariant-loop-place : goal.invariant-loop-place
invariant-loop-place l = ArePlacesBelow l.sorted l.node l.transmissions l.place l.places.items
