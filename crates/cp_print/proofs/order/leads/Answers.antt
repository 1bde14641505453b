use Rattle.cp_print.proofs.WaysRound.{leads_by_test}
use Rattle.cp_print.proofs.order.leads.Goals as goal

pub returns : goal.returns
returns c = leads_by_test c.args.predecessors.now.pairs c.args.node c.args.predecessors.now.node c.has.result c.has.ensures
