use Rattle.std.proofs.Common.{◌≡◌, ◌≤◌, ◌+◌, min, max}
use Rattle.cp_term.specs.Size.{term_size}
use Rattle.cp_model.specs.Positions.{depth_of}
use Rattle.cp_term.proofs.position.+depth.Given as goal

abbrev pub decreases-depth : goal.decreases-depth
decreases-depth l = term_size l.term.now

-- the greatest depth so far and that of the rest give that of the whole
abbrev pub invariant-loop-left : goal.invariant-loop-left
invariant-loop-left l = (term_size l.rest ≤ term_size l.term) × (l.greatest ≤ 4294967295) × (min (depth_of l.term) 4294967295 ≡ max l.greatest (min (depth_of l.rest + l.above) 4294967295))

abbrev pub decreases-loop-left : goal.decreases-loop-left
decreases-loop-left l = term_size l.rest
