use Rattle.std.proofs.Common.{◌≤◌}
use Rattle.cp_term.specs.Size.{term_size}
use Rattle.cp_derive.specs.Buildable.{Builds}
use Rattle.cp_derive.proofs.built_terms.+builds.Given as goal

abbrev pub decreases-builds : goal.decreases-builds
decreases-builds l = term_size l.term.now

-- whether the rest can be built is all that is left to decide
abbrev pub invariant-loop-left : goal.invariant-loop-left
invariant-loop-left l =
    (term_size l.rest ≤ term_size l.term)
    × (Builds l.secrets l.held l.rest → Builds l.secrets l.held l.term)
    × (Builds l.secrets l.held l.term → Builds l.secrets l.held l.rest)

abbrev pub decreases-loop-left : goal.decreases-loop-left
decreases-loop-left l = term_size l.rest
