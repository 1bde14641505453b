use Rattle.std.proofs.Common.{length, ◌≤◌, drop}
use Rattle.cp_unify.specs.Places.{ArePlaces}
use Rattle.cp_unify.proofs.places.places_of.Given as goal

-- the table of the bindings from the start on
abbrev pub invariant-loop-start : goal.invariant-loop-start
invariant-loop-start l = (l.start ≤ length l.bindings) × ArePlaces l.places.items (drop l.start l.bindings)

abbrev pub decreases-loop-start : goal.decreases-loop-start
decreases-loop-start l = l.start
