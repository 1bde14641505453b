use Rattle.std.proofs.Common.{◌≡◌, ◌≤◌}
use Rattle.cp_model.specs.Term.{variables_of}
use Rattle.cp_model.specs.Same.{has_variable}
use Rattle.cp_term.specs.Size.{term_size}
use Rattle.cp_strand.proofs.prefix_variables.+occurs_in.Given as goal

abbrev pub decreases-occurs_in : goal.decreases-occurs_in
decreases-occurs_in l = term_size l.term.now

abbrev pub invariant-rest : goal.invariant-rest
invariant-rest l =
    (has_variable (variables_of l.rest) (record { sort = l.sort; number = l.id }) ≡ has_variable (variables_of l.term) (record { sort = l.sort; number = l.id })) × (term_size l.rest ≤ term_size l.term)

abbrev pub decreases-rest : goal.decreases-rest
decreases-rest l = term_size l.rest
