use Rattle.std.proofs.Common.{refl, sym, subst}
use Rattle.cp_collapse.specs.Cycles.{ClosesCycleAt}
use Rattle.cp_model.proofs.CarriedParts.{not_both}
use Rattle.cp_collapse.proofs.ItemsWithProperty.{found, next, none}
use Rattle.cp_collapse.proofs.cycles.some_is_closed.Goals as goal

pub returns-then-branch : goal.returns-then-branch
returns-then-branch c = (
  λ _. found (λ u. ClosesCycleAt c.args.pairs.now u.origin) _ _ _ c.loop-unique-test.true c.unique-item.is (subst (ClosesCycleAt c.args.pairs.now) c.origin.ensures (c.in_ok-is_closed_at.ensures.0 c.if-branch.true)),
  λ _. refl,
)

pub loop-unique-preserved : goal.loop-unique-preserved
loop-unique-preserved c =
    λ h. next (λ u. ClosesCycleAt c.args.pairs.now u.origin) _ _ _ c.loop-unique-test.true c.unique-item.is (λ p. not_both c.if-branch.false (c.in_ok-is_closed_at.ensures.1 (subst (ClosesCycleAt c.args.pairs.now) (sym c.origin.ensures) p))) (c.loop-unique.invariant h)

pub returns : goal.returns
returns c = (λ r. absurd (not_both refl r), λ h. absurd (none (λ u. ClosesCycleAt c.args.pairs.now u.origin) _ _ c.loop-unique-test.false (c.loop-unique.invariant h)))
