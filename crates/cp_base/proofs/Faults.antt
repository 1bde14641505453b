-- A count of faults over several calls.
use Rattle.std.proofs.Common.{ℕ, ◌≤◌, arith}
use Rattle.cp_base.specs.Outside.{Rose}

-- what rose in an earlier call has risen after later ones
pub Rose-later : (old middle new : ℕ) → Rose old middle → middle ≤ new → old ≤ middle → Rose old new
Rose-later old middle new rose later before = grind arith

-- what rose in a later call has risen since earlier ones
pub Rose-earlier : (old middle new : ℕ) → old ≤ middle → Rose middle new → Rose old new
Rose-earlier old middle new before rose = grind arith
