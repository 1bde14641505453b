use Rattle.std.proofs.Common.{◌≡◌, ◌++◌, ◌≤◌}
use Rattle.cp_model.specs.Term.{variables_of}
use Rattle.cp_term.specs.Size.{term_size}
use Rattle.cp_names.proofs.occurrences.+add_term.Given as goal

abbrev pub decreases-add_term : goal.decreases-add_term
decreases-add_term l = term_size l.term.now

abbrev pub invariant-loop-left : goal.invariant-loop-left
invariant-loop-left l = (l.out.items ++ variables_of l.rest ≡ l.fn.out.items ++ variables_of l.term) × (term_size l.rest ≤ term_size l.term)

abbrev pub decreases-loop-left : goal.decreases-loop-left
decreases-loop-left l = term_size l.rest
