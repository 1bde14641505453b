use Rattle.std.proofs.Common.{◌↔◌, IsTrue, refl, ◌∙◌, subst}
use Rattle.cp_pattern.specs.Sent.{IsGuardedAt}
use Rattle.cp_pattern.proofs.Each.{each_next, each_last, not_each}
use Rattle.cp_model.proofs.CarriedParts.{not_both}
use Rattle.cp_skel.specs.Preceding.{SkeletonNode}
use Rattle.cp_pattern.proofs.TransmissionsBefore.{nothing_before, guarded_by_each, guarded_listed}
use Rattle.cp_pattern.proofs.sent.send_inside_alone.Goals as goal

pub returns-then-not-branch : goal.returns-then-not-branch
returns-then-not-branch c = (
  λ _ m t on at before. absurd (not_both c.if-not-branch.true (c.in_ok-is_there.ensures.1 (nothing_before c.args.k.now c.is_sound.ensures m c.args.node before))),
  λ _. refl,
)

pub returns-then-not-branch-2 : goal.returns-then-not-branch-2
returns-then-not-branch-2 c =
    let k = c.args.k.now in
    let guarded : IsTrue c.in_ok-is_guarded_at.field-0 ↔ IsGuardedAt c.args.patterns.now k c.args.node c.args.critical.now c.occurrence-item.result =
    subst (λ (n : SkeletonNode). IsTrue c.in_ok-is_guarded_at.field-0 ↔ IsGuardedAt c.args.patterns.now n.skeleton n.node c.args.critical.now c.occurrence-item.result) c.in_ok-preceding.ensures c.in_ok-is_guarded_at.ensures in (
      λ e. absurd (not_both refl e),
      λ h. absurd (not_each (λ o. IsGuardedAt c.args.patterns.now k c.args.node c.args.critical.now o) c.deref-occurrence-items.result.now c.loop-occurrence.occurrence-index c.occurrence-item.result c.loop-occurrence-test.true c.occurrence-item.is
          (λ g. not_both c.if-not-branch-2.true (guarded.1 g))
          (guarded_listed c.args.patterns.now k c.args.node c.args.critical.now c.deref-occurrence-items.result.now (c.deref-occurrence-items.ensures.value ∙ c.in_ok-occurrences.ensures.listed) h)),
    )

pub loop-occurrence-preserved : goal.loop-occurrence-preserved
loop-occurrence-preserved c =
    each_next (λ o. IsGuardedAt c.args.patterns.now c.args.k.now c.args.node c.args.critical.now o) c.deref-occurrence-items.result.now c.loop-occurrence.occurrence-index c.occurrence-item.result c.loop-occurrence-test.true c.occurrence-item.is
    c.loop-occurrence.invariant
    (subst (λ (n : SkeletonNode). IsGuardedAt c.args.patterns.now n.skeleton n.node c.args.critical.now c.occurrence-item.result) c.in_ok-preceding.ensures
    (c.in_ok-is_guarded_at.ensures.0 c.if-not-branch-2.false))

pub returns : goal.returns
returns c = (
  λ _. guarded_by_each c.args.patterns.now c.args.k.now c.args.node c.args.critical.now c.deref-occurrence-items.result.now (c.deref-occurrence-items.ensures.value ∙ c.in_ok-occurrences.ensures.listed)
      (each_last (λ o. IsGuardedAt c.args.patterns.now c.args.k.now c.args.node c.args.critical.now o) c.deref-occurrence-items.result.now c.loop-occurrence.occurrence-index c.loop-occurrence-test.false c.loop-occurrence.invariant),
  λ _. refl,
)
