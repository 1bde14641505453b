use Rattle.std.proofs.Common.{refl}
use Rattle.cp_report.specs.Misfits.{place_before, each_misfits}
use Rattle.cp_report.specs.Skeletons.{node_misfits}
use Rattle.cp_scope.proofs.EachForm.{next_asked}
use Rattle.cp_items.proofs.label_tests.nodes_misfits.Goals as goal

pub loop-item-preserved : goal.loop-item-preserved
loop-item-preserved c =
    next_asked place_before (each_misfits (node_misfits c.args.strands.now)) (node_misfits c.args.strands.now) c.args.items.now c.loop-item.item-index (λ f gs. refl) c.item-item.result c.loop-item-test.true c.item-item.is
    c.loop-item.first c.node_misfits.new.first _ c.node_misfits.ensures c.loop-item.invariant
