use Rattle.std.proofs.Common.{take}
use Rattle.cp_hom.specs.PartialMaps.{partial_view}
use Rattle.cp_hom.specs.FirstChoices.{ArePlaced, PlacesKinds}
use Rattle.cp_hom.proofs.first_choices.place_kinds.Given as goal

abbrev pub invariant-loop-kind : goal.invariant-loop-kind
invariant-loop-kind l = PlacesKinds l.a l.b (take l.kind-index l.kinds) (partial_view l.fn.given) (partial_view l.found)

abbrev pub invariant-loop-index : goal.invariant-loop-index
invariant-loop-index l = PlacesKinds l.a l.b (take l.kind-index l.kinds) (partial_view l.fn.given) (partial_view l.found) × ArePlaced l.a l.b (partial_view l.found) l.kind l.index
