use Rattle.std.proofs.Common.{◌≡◌, drop}
use Rattle.cp_model.specs.Strand.{variables_of_trace}
use Rattle.cp_model.specs.Same.{has_variable}
use Rattle.cp_strand.proofs.prefix_variables.occurs.Given as goal

abbrev pub invariant-loop-event : goal.invariant-loop-event
invariant-loop-event l =
    has_variable (variables_of_trace (drop l.event-index l.events)) (record { sort = l.sort; number = l.id }) ≡ has_variable (variables_of_trace l.events) (record { sort = l.sort; number = l.id })
