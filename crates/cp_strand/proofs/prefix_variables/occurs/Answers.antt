use Rattle.std.proofs.Common.{sym, ap, ◌∙◌}
use Rattle.cp_model.specs.Term.{variables_of}
use Rattle.cp_model.specs.declared.variable.Variable.{Variable}
use Rattle.cp_model.specs.Same.{has_variable}
use Rattle.cp_strand.proofs.Occurrences.{in_event, not_in_event}
use Rattle.cp_strand.proofs.prefix_variables.occurs.Goals as goal

pub returns-then-occurs_in : goal.returns-then-occurs_in
returns-then-occurs_in c =
    let x : Variable = record { sort = c.args.sort; number = c.args.id } in
    in_event x c.args.events.now c.loop-event.event-index c.event-item.result c.loop-event-test.true c.event-item.is _ c.loop-event.invariant
    (sym c.if-occurs_in.true ∙ c.occurs_in.ensures ∙ ap (λ t. has_variable (variables_of t) x) c.payload.ensures)

pub loop-event-preserved : goal.loop-event-preserved
loop-event-preserved c =
    let x : Variable = record { sort = c.args.sort; number = c.args.id } in
    not_in_event x c.args.events.now c.loop-event.event-index c.event-item.result c.loop-event-test.true c.event-item.is _ c.loop-event.invariant
    (sym c.if-occurs_in.false ∙ c.occurs_in.ensures ∙ ap (λ t. has_variable (variables_of t) x) c.payload.ensures)
