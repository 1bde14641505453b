use Rattle.std.proofs.Common.{◌≤◌}
use Rattle.cp_term.specs.Size.{term_size}
use Rattle.cp_derive.specs.OpenedTerms.{TakesApart}
use Rattle.cp_derive.specs.declared.opened_terms.Opening.{Opening}
use Rattle.cp_derive.proofs.opened_terms.+take_apart.Given as goal

abbrev pub decreases-take_apart : goal.decreases-take_apart
decreases-take_apart l = term_size l.term.now

-- what takes the rest takes the whole from the start
abbrev pub invariant-loop-opening : goal.invariant-loop-opening
invariant-loop-opening l =
    (term_size l.rest ≤ term_size l.term)
    × ((o : Opening) → TakesApart l.secrets l.rest l.opening o → TakesApart l.secrets l.term l.initial.opening o)

abbrev pub decreases-loop-opening : goal.decreases-loop-opening
decreases-loop-opening l = term_size l.rest
