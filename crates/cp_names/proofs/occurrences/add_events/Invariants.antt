use Rattle.std.proofs.Common.{◌≡◌, ◌++◌, drop}
use Rattle.cp_model.specs.Strand.{variables_of_trace}
use Rattle.cp_names.proofs.occurrences.add_events.Given as goal

abbrev pub invariant-loop-event : goal.invariant-loop-event
invariant-loop-event l = l.out.items ++ variables_of_trace (drop l.event-index l.events) ≡ l.fn.out.items ++ variables_of_trace l.events
