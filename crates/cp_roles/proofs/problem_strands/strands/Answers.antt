use Rattle.std.proofs.Common.{refl, sym}
use Rattle.cp_roles.specs.Named.{shared_roles_view}
use Rattle.cp_roles.proofs.Strandwise.{none-made, one-made}
use Rattle.cp_roles.proofs.problem_strands.strands.Goals as goal

pub loop-item-preserved-in_default : goal.loop-item-preserved-in_default
loop-item-preserved-in_default c =
    none-made (shared_roles_view c.args.roles.now) c.args.declared.now c.args.items.now c.loop-item.item-index _ c.args.all.now.items
    c.item-item.result c.loop-item-test.true c.item-item.is c.loop-item.all.items c.strand.new.all.items c.loop-item.strands.items c.loop-item.strands.items c.loop-item.invariant
    c.in_ok-strand.field-0 (sym c.in_default.is) c.in_ok-strand.ensures refl

pub loop-item-preserved : goal.loop-item-preserved
loop-item-preserved c =
    one-made (shared_roles_view c.args.roles.now) c.args.declared.now c.args.items.now c.loop-item.item-index _ c.args.all.now.items
    c.item-item.result c.loop-item-test.true c.item-item.is c.loop-item.all.items c.strand.new.all.items c.loop-item.strands.items c.push.new.self.items c.loop-item.invariant
    c.in_ok-strand.field-0 c.in-Some.strand (sym c.in-Some.is) c.in_ok-strand.ensures c.in_ok-push.ensures.items
