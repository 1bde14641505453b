use Rattle.std.proofs.Common.{◌≤◌}
use Rattle.cp_model.specs.Term.{IsCarriedByTerm, apply_to}
use Rattle.cp_model.specs.Homomorphism.{substitution_by}
use Rattle.cp_term.specs.Size.{term_size}
use Rattle.cp_strand.proofs.terms_under.+carries_under.Given as goal

abbrev pub decreases-carries_under : goal.decreases-carries_under
decreases-carries_under l = term_size l.whole.now

-- what the rest becomes carries all that is left to look for
abbrev pub invariant-loop-rest : goal.invariant-loop-rest
invariant-loop-rest l =
    (term_size l.rest ≤ term_size l.whole)
    × (IsCarriedByTerm l.part (apply_to (substitution_by l.values) l.rest) → IsCarriedByTerm l.part (apply_to (substitution_by l.values) l.whole))
    × (IsCarriedByTerm l.part (apply_to (substitution_by l.values) l.whole) → IsCarriedByTerm l.part (apply_to (substitution_by l.values) l.rest))

abbrev pub decreases-loop-rest : goal.decreases-loop-rest
decreases-loop-rest l = term_size l.rest
