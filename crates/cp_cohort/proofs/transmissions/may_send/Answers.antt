use Rattle.std.proofs.Common.{refl, ap, ◌∙◌}
use Rattle.cp_model.specs.Strand.{Role}
use Rattle.cp_cohort.specs.Children.{receives}
use Rattle.cp_cohort.proofs.GrownReleases.{is_within, event_there}
use Rattle.cp_cohort.proofs.NothingAdded.{never_sent}
use Rattle.cp_cohort.proofs.transmissions.may_send.Goals as goal

pub returns-then-not-is_sent-clause-never : goal.returns-then-not-is_sent-clause-never
returns-then-not-is_sent-clause-never c = λ _. receives (c.is_sent.ensures.received c.if-not-is_sent.true).1

pub bounds-events-index : goal.bounds-events-index
bounds-events-index c = is_within c.trace-events.result.now c.args.role.now.value.trace (c.trace-events.ensures ∙ ap (λ (r : Role). r.trace) c.deref.ensures) c.args.index c.requires

pub returns-clause-sent : goal.returns-clause-sent
returns-clause-sent c = λ _. c.is_sent.ensures.sent c.if-not-is_sent.false

pub returns-clause-never : goal.returns-clause-never
returns-clause-never c = λ fails.
    let sent = c.is_sent.ensures.sent c.if-not-is_sent.false in
    let there = event_there c.trace-events.result.now c.args.role.now.value.trace (c.trace-events.ensures ∙ ap (λ (r : Role). r.trace) c.deref.ensures) c.args.index c.requires c.index-events-index.result c.index-events-index.result c.index-events-index.is refl in
    never_sent c.args.critical.now c.args.role.now.value.trace c.args.index sent.0 sent.1 c.index-events-index.result there c.payload.result.now c.payload.ensures c.may_carry.result c.may_carry.ensures fails
