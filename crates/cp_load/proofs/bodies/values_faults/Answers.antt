use Rattle.cp_language.specs.Problems.{unique_faults}
use Rattle.cp_scope.proofs.Items.{each-taken}
use Rattle.cp_load.proofs.bodies.values_faults.Goals as goal

pub loop-item-preserved : goal.loop-item-preserved
loop-item-preserved c =
    each-taken (unique_faults c.args.scope.strands.now c.args.scope.variables.now) c.args.items.now c.loop-item.item-index c.item-item.result c.loop-item-test.true c.item-item.is
    c.loop-item.first c.unique_faults.new.first _ c.in_ok-unique_faults.ensures c.loop-item.invariant
