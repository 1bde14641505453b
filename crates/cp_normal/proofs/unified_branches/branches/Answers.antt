use Rattle.cp_normal.proofs.BranchLists.{none_open_yet, skipped_open, open_added, unifier_of, no_unifier_of}
use Rattle.cp_normal.proofs.unified_branches.branches.Goals as goal

pub loop-atom-init : goal.loop-atom-init
loop-atom-init c = none_open_yet c.args.form.now c.args.value.now _ c.new-branches.ensures.items

pub loop-atom-preserved-in-None : goal.loop-atom-preserved-in-None
loop-atom-preserved-in-None c =
    skipped_open c.args.form.now c.args.value.now c.args.atoms.now c.loop-atom.atom-index c.atom-item.result c.loop-atom-test.true c.atom-item.is _ c.loop-atom.invariant
    (no_unifier_of _ _ _ c.args.value.now c.atom-item.result c.as_term.ensures c.as_term-in-loop-atom.ensures c.new-nothing.ensures (rw c.in-None.is at c.in_ok-s.ensures.none))

pub loop-atom-preserved : goal.loop-atom-preserved
loop-atom-preserved c =
    open_added c.args.form.now c.args.value.now c.args.atoms.now c.loop-atom.atom-index c.atom-item.result c.loop-atom-test.true c.atom-item.is _ c.loop-atom.invariant c.in-Some.s
    _ (unifier_of _ _ _ c.args.value.now c.atom-item.result c.as_term.ensures c.as_term-in-loop-atom.ensures c.new-nothing.ensures c.in-Some.s (rw c.in-Some.is at c.in_ok-s.ensures.some))
    c.in_ok-branch_by.ensures.same c.in_ok-branch_by.ensures.variables c.in_ok-branch_by.ensures.followed _ c.in_ok-push.ensures.items
