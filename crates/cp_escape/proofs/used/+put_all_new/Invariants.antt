use Rattle.std.proofs.Common.{◌≤◌}
use Rattle.cp_model.specs.Strand.{variables_of_trace}
use Rattle.cp_model.specs.Term.{variables_of}
use Rattle.cp_term.specs.Size.{term_size}
use Rattle.cp_escape.proofs.NewVariables.{PutsRest}
use Rattle.cp_escape.proofs.used.+put_all_new.Given as goal

abbrev pub decreases-put_all_new : goal.decreases-put_all_new
decreases-put_all_new l = term_size l.term.now

-- where the variables of the rest are put too, all are
abbrev pub invariant-loop-id : goal.invariant-loop-id
invariant-loop-id l =
    PutsRest (variables_of_trace l.uses) (variables_of l.term) l.initial.new.items (variables_of l.rest) l.new.items × (term_size l.rest ≤ term_size l.term)

abbrev pub decreases-loop-id : goal.decreases-loop-id
decreases-loop-id l = term_size l.rest
