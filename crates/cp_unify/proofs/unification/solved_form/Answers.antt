use Rattle.std.proofs.Common.{◌≡◌, Some, rules}
use Rattle.cp_lists.proofs.Collected.{ok_mapped}
use Rattle.cp_unify.proofs.Answered.{already_solved, solved_but_all, none_early, next_early, all_found}
use Rattle.cp_unify.proofs.unification.solved_form.Goals as goal

pub returns-then-is_solved : goal.returns-then-is_solved
returns-then-is_solved c =
    ok_mapped c.copy.result c.map.result c.copy.ensures c.map.ensures.cases
    (λ x is y some. let made : y ≡ Some x = search rules in rw made (already_solved _ _ is (c.is_solved.ensures c.if-is_solved.true)))

pub loop-binding-init : goal.loop-binding-init
loop-binding-init c = rw c.new-solved.ensures (solved_but_all _)

pub returns-then-not-branch : goal.returns-then-not-branch
returns-then-not-branch c =
    none_early _ _ _ _ _ _ _ c.bindings-binding-items.ensures c.loop-binding.invariant c.loop-binding-test.true c.binding-item.is
    c.in_ok-left.ensures c.term.ensures.term _ _ c.in_ok-solve.ensures c.if-not-branch.true

pub loop-binding-preserved : goal.loop-binding-preserved
loop-binding-preserved c =
    next_early _ _ _ _ _ _ c.loop-binding.invariant c.loop-binding-test.true c.binding-item.is
    c.in_ok-left.ensures c.term.ensures.term _ _ c.in_ok-solve.ensures c.if-not-branch.false

pub returns : goal.returns
returns c = all_found _ _ _ _ c.bindings-binding-items.ensures c.loop-binding.invariant c.loop-binding-test.false
