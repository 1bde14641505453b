use Rattle.cp_general.proofs.Listed.{leads_as_test}
use Rattle.cp_general.proofs.pairs.leads_across.Goals as goal

pub returns-then-from-to : goal.returns-then-from-to
returns-then-from-to c = leads_as_test c.args.from c.args.to.now c.has.result c.if-from-to.true c.has.ensures
