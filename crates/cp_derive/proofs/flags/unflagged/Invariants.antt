use Rattle.std.proofs.Common.{◌≡◌, [], drop}
use Rattle.cp_derive.specs.Places.{unflagged_behind}
use Rattle.cp_derive.proofs.flags.unflagged.Given as goal

abbrev pub invariant-loop-place : goal.invariant-loop-place
invariant-loop-place l = unflagged_behind l.more.items l.flags (drop l.place-index l.places) ≡ unflagged_behind [] l.flags l.places
