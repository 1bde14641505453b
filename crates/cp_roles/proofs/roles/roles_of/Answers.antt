use Rattle.cp_roles.specs.Named.{shared_roles_view}
use Rattle.cp_roles.proofs.RoleNames.{roles-taken, roles-in-taken}
use Rattle.cp_roles.proofs.roles.roles_of.Goals as goal

pub loop-item-preserved : goal.loop-item-preserved
loop-item-preserved c =
    let rs = shared_roles_view c.loop-item.roles.items in
    let qs = shared_roles_view c.protocol_item.new.roles.items in (
      roles-taken c.args.items.now c.loop-item.item-index c.item-item.result c.loop-item-test.true c.item-item.is rs qs
          c.loop-item.first c.protocol_item.new.first _ c.in_ok-protocol_item.ensures.roles c.in_ok-protocol_item.ensures.faults c.loop-item.invariant.0,
      roles-in-taken c.args.items.now c.loop-item.item-index c.item-item.result c.loop-item-test.true c.item-item.is rs qs _ c.in_ok-protocol_item.ensures.roles c.loop-item.invariant.1,
    )
