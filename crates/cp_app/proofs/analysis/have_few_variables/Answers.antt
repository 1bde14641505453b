use Rattle.cp_app.proofs.Trees.{few_next, few_in_all}
use Rattle.cp_app.proofs.analysis.have_few_variables.Goals as goal

pub loop-label-preserved : goal.loop-label-preserved
loop-label-preserved c = few_next c.args.labels.now c.loop-label.label-index c.label-item.result c.loop-label-test.true c.label-item.is c.has_few_variables.ensures c.loop-label.invariant

pub returns : goal.returns
returns c = few_in_all c.args.labels.now c.loop-label.label-index c.loop-label-test.false c.loop-label.invariant
