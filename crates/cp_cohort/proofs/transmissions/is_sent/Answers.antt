use Rattle.cp_model.specs.declared.strand.Event.TheVariants.{Send as send, Receive as recv}
use Rattle.std.proofs.Common.{ap, ◌∙◌}
use Rattle.cp_model.specs.Strand.{Role}
use Rattle.cp_cohort.proofs.GrownReleases.{is_within, event_there}
use Rattle.cp_cohort.proofs.transmissions.is_sent.Goals as goal

pub bounds-events-index : goal.bounds-events-index
bounds-events-index c = is_within c.trace-events.result.now c.args.role.now.value.trace (c.trace-events.ensures ∙ ap (λ (r : Role). r.trace) c.deref.ensures) c.args.index c.requires

pub returns-in-Send-clause-sent : goal.returns-in-Send-clause-sent
returns-in-Send-clause-sent c = λ _.
    (c.in-Send.field-0, event_there c.trace-events.result.now c.args.role.now.value.trace (c.trace-events.ensures ∙ ap (λ (r : Role). r.trace) c.deref.ensures) c.args.index c.requires (send c.in-Send.field-0) c.index-events-index.result c.index-events-index.is c.in-Send.is)

pub returns-in-Receive-clause-received : goal.returns-in-Receive-clause-received
returns-in-Receive-clause-received c = λ _.
    (c.in-Receive.field-0, event_there c.trace-events.result.now c.args.role.now.value.trace (c.trace-events.ensures ∙ ap (λ (r : Role). r.trace) c.deref.ensures) c.args.index c.requires (recv c.in-Receive.field-0) c.index-events-index.result c.index-events-index.is c.in-Receive.is)
