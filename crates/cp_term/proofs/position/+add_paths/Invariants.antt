use Rattle.std.proofs.Common.{◌≡◌, ◌≤◌, ◌++◌, take}
use Rattle.cp_term.specs.Size.{term_size}
use Rattle.cp_model.specs.Positions.{prefixed, positions_where}
use Rattle.cp_term.proofs.position.+add_paths.Given as goal

abbrev pub decreases-add_paths : goal.decreases-add_paths
decreases-add_paths g l = term_size l.whole.now

-- what was found and the paths of the rest, behind the steps to it, are all paths
abbrev pub invariant-loop-here : goal.invariant-loop-here
invariant-loop-here g l =
    (term_size l.rest ≤ term_size l.whole)
    × (take l.start l.here ≡ l.initial.here)
    × (l.found.items ++ prefixed l.here (positions_where (g.T.TermTest.passing l.test) l.rest) ≡ l.initial.found.items ++ prefixed l.initial.here (positions_where (g.T.TermTest.passing l.test) l.whole))

abbrev pub decreases-loop-here : goal.decreases-loop-here
decreases-loop-here g l = term_size l.rest
