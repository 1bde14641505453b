use Rattle.std.proofs.Common.{[], subst, sym}
use Rattle.cp_model.proofs.CarriedParts.{not_both}
use Rattle.cp_skel.specs.Kinds.{IsInFirstAlone}
use Rattle.cp_skel.specs.Deletion.{LeavesOut, as_it_is, all_left}
use Rattle.cp_skel.proofs.ListsWithout.{next_gone, next_left, all_taken}
use Rattle.cp_skel.proofs.assumptions_left.atoms_left.Goals as goal

pub loop-atom-init : goal.loop-atom-init
loop-atom-init c = subst (λ ys. LeavesOut (IsInFirstAlone c.args.gave.now c.args.elsewhere.now c.args.own.now) as_it_is [] ys) (sym c.new-left.ensures.items) all_left

pub loop-atom-preserved-then-is_in_first_alone : goal.loop-atom-preserved-then-is_in_first_alone
loop-atom-preserved-then-is_in_first_alone c =
    next_gone (IsInFirstAlone c.args.gave.now c.args.elsewhere.now c.args.own.now) as_it_is c.args.atoms.now _ _ c.atom-item.result c.atom-item.result
    c.loop-atom-test.true c.atom-item.is (c.is_in_first_alone.ensures.0 c.if-is_in_first_alone.true) c.loop-atom.invariant

pub loop-atom-preserved : goal.loop-atom-preserved
loop-atom-preserved c =
    next_left (IsInFirstAlone c.args.gave.now c.args.elsewhere.now c.args.own.now) as_it_is c.args.atoms.now _ _ c.atom-item.result c.atom-item.result _ _
    c.loop-atom-test.true c.atom-item.is (λ g. not_both c.if-is_in_first_alone.false (c.is_in_first_alone.ensures.1 g)) c.in_ok-copy.ensures c.in_ok-push.ensures.items c.loop-atom.invariant

pub returns : goal.returns
returns c = all_taken (IsInFirstAlone c.args.gave.now c.args.elsewhere.now c.args.own.now) as_it_is c.args.atoms.now _ _ c.loop-atom-test.false c.loop-atom.invariant
