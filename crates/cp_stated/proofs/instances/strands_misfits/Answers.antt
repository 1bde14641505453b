use Rattle.cp_roles.specs.Named.{shared_roles_view}
use Rattle.cp_report.specs.Heads.{strand_heads}
use Rattle.cp_report.specs.Skeletons.{strand_misfits}
use Rattle.cp_spelled.specs.Views.{scope_view}
use Rattle.cp_stated.proofs.FormLists.{headed-asked, headed-passed}
use Rattle.cp_stated.proofs.instances.strands_misfits.Goals as goal

pub loop-item-preserved-then-not-is_strand : goal.loop-item-preserved-then-not-is_strand
loop-item-preserved-then-not-is_strand c =
    headed-passed strand_heads c.args.items.now c.loop-item.item-index c.item-item.result c.loop-item-test.true c.item-item.is (strand_misfits (shared_roles_view c.args.roles.now) (scope_view c.args.scope))
    c.is_strand.result c.is_strand.ensures c.if-not-is_strand.true c.loop-item.first _ c.loop-item.invariant

pub loop-item-preserved : goal.loop-item-preserved
loop-item-preserved c =
    headed-asked strand_heads c.args.items.now c.loop-item.item-index c.item-item.result c.loop-item-test.true c.item-item.is (strand_misfits (shared_roles_view c.args.roles.now) (scope_view c.args.scope))
    c.is_strand.result c.is_strand.ensures c.if-not-is_strand.false c.loop-item.first c.strand_misfits.new.first _ c.in_ok-strand_misfits.ensures c.loop-item.invariant
