use Rattle.std.proofs.Common.{◌≡◌, drop, false, replicate}
use Rattle.cp_derive.specs.Places.{flagged_places}
use Rattle.cp_derive.proofs.flags.marks_at.Given as goal

-- the flags of the places that are left make them those of all
abbrev pub invariant-loop-place : goal.invariant-loop-place
invariant-loop-place l = flagged_places (drop l.place-index l.places) l.flags.items ≡ flagged_places l.places (replicate l.count false)
