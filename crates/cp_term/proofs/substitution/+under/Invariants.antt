use Rattle.std.proofs.Common.{◌≡◌, ◌+◌, ◌*◌, map, vec_len}
use Rattle.std.specs.Prelude.{unwrap_or}
use Rattle.cp_model.specs.Term.{Term, apply_to}
use Rattle.cp_term.specs.Size.{term_size}
use Rattle.cp_term.specs.Spines.{SpineLeads}
use Rattle.cp_term.proofs.substitution.+under.Given as goal

abbrev pub decreases-above_under : goal.decreases-above_under
decreases-above_under g l = 3 * term_size l.above.now

abbrev pub decreases-long_under : goal.decreases-long_under
decreases-long_under g l = 3 * term_size l.term.now + 1

abbrev pub decreases-under : goal.decreases-under
decreases-under g l = 3 * term_size l.term.now + 2

-- the spine so far leads from the term to the rest
abbrev pub invariant-long_under-loop-tail : goal.invariant-long_under-loop-tail
invariant-long_under-loop-tail g l = SpineLeads (map (λ r. r.now) l.spine.items) l.term l.rest

abbrev pub decreases-long_under-loop-tail : goal.decreases-long_under-loop-tail
decreases-long_under-loop-tail g l = term_size l.rest

-- what has changed is a term to which the spine that is left leads
abbrev pub invariant-long_under-loop-above : goal.invariant-long_under-loop-above
invariant-long_under-loop-above g l =
    (rest : Term) × SpineLeads (map (λ r. r.now) l.spine.items) l.term rest × (unwrap_or l.changed rest ≡ apply_to (g.V.Valuation.substitution l.values) rest)

abbrev pub decreases-long_under-loop-above : goal.decreases-long_under-loop-above
decreases-long_under-loop-above g l = vec_len l.spine
