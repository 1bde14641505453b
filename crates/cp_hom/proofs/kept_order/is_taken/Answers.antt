use Rattle.std.proofs.Common.{refl}
use Rattle.std.proofs.lemmas.List.{get_or_default}
use Rattle.cp_model.proofs.CarriedParts.{not_both}
use Rattle.cp_hom.proofs.Blocked.{taken_here, taken_later, taken_nowhere}
use Rattle.cp_hom.proofs.kept_order.is_taken.Goals as goal

pub returns-then-holds_image : goal.returns-then-holds_image
returns-then-holds_image c = (
  λ _. taken_here c.args.strands.now c.args.strand c.args.image c.args.placements.now c.loop-placement.placement-index _ c.loop-placement-test.true
      (get_or_default c.args.placements.now c.loop-placement.placement-index _ _ c.loop-placement-test.true) (c.holds_image.ensures.0 c.if-holds_image.true),
  λ _. refl,
)

pub loop-placement-preserved : goal.loop-placement-preserved
loop-placement-preserved c =
    λ h. taken_later c.args.strands.now c.args.strand c.args.image c.args.placements.now c.loop-placement.placement-index _ c.loop-placement-test.true
    (get_or_default c.args.placements.now c.loop-placement.placement-index _ _ c.loop-placement-test.true) (λ held. not_both c.if-holds_image.false (c.holds_image.ensures.1 held))
    c.loop-placement.invariant h

pub returns : goal.returns
returns c = (
  λ r. absurd (not_both refl r),
  λ h. absurd (taken_nowhere c.args.strands.now c.args.strand c.args.image c.args.placements.now c.loop-placement.placement-index c.loop-placement-test.false c.loop-placement.invariant h),
)
