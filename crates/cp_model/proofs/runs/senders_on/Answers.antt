use Rattle.cp_model.proofs.Paired.{paired_to_the_end}
use Rattle.cp_model.proofs.runs.senders_on.Goals as goal

pub returns : goal.returns
returns c = paired_to_the_end _ _ _ _ c.loop-event-test.false c.loop-event.invariant
