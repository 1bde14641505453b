use Rattle.std.proofs.Common.{◌≡◌, ◌≤◌}
use Rattle.cp_model.specs.Strand.{variables_of_trace}
use Rattle.cp_model.specs.Term.{variables_of}
use Rattle.cp_term.specs.Size.{term_size}
use Rattle.cp_pattern.specs.Within.{has_all_but}
use Rattle.cp_pattern.proofs.within.+all_within.Given as goal

abbrev pub decreases-all_within : goal.decreases-all_within
decreases-all_within l = term_size l.term.now

-- whether those of the rest are is all that is left to decide
abbrev pub invariant-loop-id : goal.invariant-loop-id
invariant-loop-id l =
    (has_all_but l.locals (variables_of_trace l.events) (variables_of l.rest) ≡ has_all_but l.locals (variables_of_trace l.events) (variables_of l.term))
    × (term_size l.rest ≤ term_size l.term)

abbrev pub decreases-loop-id : goal.decreases-loop-id
decreases-loop-id l = term_size l.rest
