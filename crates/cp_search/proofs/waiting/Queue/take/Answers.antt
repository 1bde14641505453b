use Rattle.std.proofs.Common.{refl}
use Rattle.cp_search.proofs.KeptRecords.{takes_none, takes_some}
use Rattle.cp_search.proofs.waiting.Queue.take.Goals as goal

pub returns-in-Some-clause-taken : goal.returns-in-Some-clause-taken
returns-in-Some-clause-taken c = λ kept.
    takes_some c.args.number c.args.self.now c.label.result.now c.label.ensures kept c.in-Some.key c.in-Some.is _ refl c.try_remove.ensures.updates c.try_remove.result c.try_remove.ensures.value

pub returns-in-None-clause-taken : goal.returns-in-None-clause-taken
returns-in-None-clause-taken c = λ kept. takes_none c.args.number c.args.self.now c.label.result.now c.label.ensures kept c.in-None.is
