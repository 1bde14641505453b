use Rattle.std.proofs.Common.{◌≡◌, ℕ, get_or, ◌+◌, ◌-◌, vec_len}
use Rattle.cp_unify.proofs.places.put.Given as goal

-- the numbers have the counts that they had
abbrev pub invariant-loop-places : goal.invariant-loop-places
invariant-loop-places l = (n : ℕ) → get_or l.places.items n 0 ≡ get_or l.fn.places.items n 0

abbrev pub decreases-loop-places : goal.decreases-loop-places
decreases-loop-places l = (l.number + 1) - vec_len l.places
