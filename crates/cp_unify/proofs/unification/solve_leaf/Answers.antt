use Rattle.std.proofs.Common.{refl, sym, ◌∙◌}
use Rattle.cp_unify.proofs.Steps.{reduced_at_first, same_solved, clash_unsolved, next_reduced, all_solved, unbound_next}
use Rattle.cp_unify.proofs.unification.solve_leaf.Goals as goal

pub loop-left-init : goal.loop-left-init
loop-left-init c = reduced_at_first _ _ _ c.requires.solved

pub returns-in-Same : goal.returns-in-Same
returns-in-Same c =
    same_solved _ _ _ _ _ _ c.loop-left.invariant c.in_ok-left.ensures.plain c.in_ok-right.ensures.plain (sym c.in-Same.is ∙ c.in_ok-leaf_difference.ensures)

pub returns-then-is_last : goal.returns-then-is_last
returns-then-is_last c =
    all_solved _ _ _ _ _ _ _ _ _ c.loop-left.invariant c.in_ok-left.ensures.plain c.in_ok-right.ensures.plain (sym c.in-Bind.is ∙ c.in_ok-leaf_difference.ensures)
    refl c.in_ok-join_one-in-Bind.ensures (c.is_all-is_last.ensures c.if-is_last.true (sym c.in-Bind.is ∙ c.in_ok-leaf_difference.ensures))

pub loop-left-smaller : goal.loop-left-smaller
loop-left-smaller c =
    unbound_next _ _ _ _ _ _ _ _ _ c.loop-left.invariant c.in_ok-left.ensures.plain c.in_ok-right.ensures.plain (sym c.in-Bind.is ∙ c.in_ok-leaf_difference.ensures)
    refl c.in_ok-join_one-in-Bind.ensures

pub loop-left-preserved : goal.loop-left-preserved
loop-left-preserved c =
    next_reduced _ _ _ _ _ _ _ _ _ c.loop-left.invariant c.in_ok-left.ensures.plain c.in_ok-right.ensures.plain (sym c.in-Bind.is ∙ c.in_ok-leaf_difference.ensures)
    refl c.in_ok-join_one-in-Bind.ensures

pub returns-in-Clash : goal.returns-in-Clash
returns-in-Clash c =
    clash_unsolved _ _ _ _ _ _ c.loop-left.invariant c.in_ok-left.ensures.plain c.in_ok-right.ensures.plain (sym c.in-Clash.is ∙ c.in_ok-leaf_difference.ensures)
