use Rattle.std.proofs.Common.{[], subst, sym}
use Rattle.cp_model.proofs.CarriedParts.{not_both}
use Rattle.cp_skel.specs.Deletion.{LeavesOut, all_left}
use Rattle.cp_skel.proofs.ListsWithout.{next_gone, next_left, all_taken}
use Rattle.cp_skel.proofs.new_numbers.left_without.Goals as goal

pub loop-item-init : goal.loop-item-init
loop-item-init g c = subst (λ ys. LeavesOut (g.T.AtNodes.goes c.args.gone) (g.T.AtNodes.form c.args.gone) [] ys) (sym c.new-left.ensures.items) all_left

pub loop-item-preserved-then-is_on : goal.loop-item-preserved-then-is_on
loop-item-preserved-then-is_on g c =
    next_gone (g.T.AtNodes.goes c.args.gone) (g.T.AtNodes.form c.args.gone) c.args.items.now _ _ _ _ c.loop-item-test.true c.item-item.is (c.is_on.ensures.0 c.if-is_on.true) c.loop-item.invariant

pub loop-item-preserved : goal.loop-item-preserved
loop-item-preserved g c =
    next_left (g.T.AtNodes.goes c.args.gone) (g.T.AtNodes.form c.args.gone) c.args.items.now _ _ _ _ _ _ c.loop-item-test.true c.item-item.is
    (λ on. not_both c.if-is_on.false (c.is_on.ensures.1 on)) c.in_ok-without.ensures c.in_ok-push.ensures.items c.loop-item.invariant

pub returns : goal.returns
returns g c = all_taken (g.T.AtNodes.goes c.args.gone) (g.T.AtNodes.form c.args.gone) c.args.items.now _ _ c.loop-item-test.false c.loop-item.invariant
