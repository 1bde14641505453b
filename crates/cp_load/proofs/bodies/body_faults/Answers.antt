use Rattle.cp_roles.specs.Named.{shared_roles_view}
use Rattle.cp_load.specs.Stages.{stage_view}
use Rattle.cp_load.proofs.ItemByItem.{body-taken}
use Rattle.cp_load.proofs.NoCycles.{first-item, items-stated}
use Rattle.cp_load.proofs.bodies.body_faults.Goals as goal

pub loop-item-preserved : goal.loop-item-preserved
loop-item-preserved c =
    let added = c.in_ok-item_faults.ensures.pairs in (
      body-taken (shared_roles_view c.args.scope.roles.now) c.args.scope.variables.now c.args.scope.strands.now
          c.args.items.now c.loop-item.item-index c.item-item.result c.loop-item-test.true c.item-item.is
          c.loop-item.before.items c.item_faults.new.before.items (stage_view c.loop-item.stage) (stage_view c.after-stage.result)
          c.loop-item.first c.item_faults.new.first _ c.in_ok-item_faults.ensures.faults added c.after-stage.ensures c.loop-item.invariant.0,
      items-stated c.args.items.now c.loop-item.item-index c.item-item.result c.loop-item-test.true c.item-item.is c.loop-item.before.items _ c.item_faults.new.before.items added c.loop-item.invariant.1,
    )

pub item_faults-requires : goal.item_faults-requires
item_faults-requires c =
    first-item c.args.items.now c.loop-item.item-index c.item-item.result c.loop-item-test.true c.item-item.is c.loop-item.before.items _ c.in_ok-acyclic_count.acyclic_count c.loop-item.invariant.1 c.in_ok-acyclic_count.ensures
