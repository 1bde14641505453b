use Rattle.std.proofs.Common.{◌≡◌, ◌≤◌}
use Rattle.cp_model.specs.Term.{apply_to}
use Rattle.cp_model.specs.Homomorphism.{substitution_by}
use Rattle.cp_term.specs.Size.{term_size}
use Rattle.cp_strand.proofs.terms_under.+same_under.Given as goal

abbrev pub decreases-same_under : goal.decreases-same_under
decreases-same_under l = term_size l.whole.now

-- the rest and the other rest are all that is left to compare
abbrev pub invariant-loop-left : goal.invariant-loop-left
invariant-loop-left l =
    (term_size l.rest ≤ term_size l.whole)
    × (apply_to (substitution_by l.values) l.rest ≡ l.other → apply_to (substitution_by l.values) l.whole ≡ l.term)
    × (apply_to (substitution_by l.values) l.whole ≡ l.term → apply_to (substitution_by l.values) l.rest ≡ l.other)

abbrev pub decreases-loop-left : goal.decreases-loop-left
decreases-loop-left l = term_size l.rest
