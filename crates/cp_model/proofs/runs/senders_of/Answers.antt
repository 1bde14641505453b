use Rattle.cp_model.proofs.Paired.{paired_whole}
use Rattle.cp_model.proofs.runs.senders_of.Goals as goal

pub returns : goal.returns
returns c = paired_whole _ _ _ _ _ c.loop-strand-test.false c.loop-strand.invariant
