use Rattle.std.proofs.Common.{arith}
use Rattle.cp_model.proofs.CarriedParts.{not_both}
use Rattle.cp_pattern.proofs.Components.{left_component, right_component, other_component, itself_alone, no_pair_by_shape}
use Rattle.cp_pattern.proofs.component.+is_component.Goals as goal

pub returns-then-is_component : goal.returns-then-is_component
returns-then-is_component t c = (
  λ r. c.loop-left.invariant.1.0 (left_component c.args.part.now c.loop-left.rest.now _ _ c.in-Pair.ensures (c.is_component.ensures.0 c.if-is_component.true)),
  λ h. cc,
)

pub loop-left-preserved : goal.loop-left-preserved
loop-left-preserved t c = (
  grind arith,
  (
    λ h. c.loop-left.invariant.1.0 (right_component c.args.part.now c.loop-left.rest.now _ _ c.in-Pair.ensures h),
    λ h. other_component c.args.part.now c.loop-left.rest.now _ _ c.in-Pair.ensures (λ l. not_both c.if-is_component.false (c.is_component.ensures.1 l)) (c.loop-left.invariant.1.1 h),
  ),
)

pub returns-in_default : goal.returns-in_default
returns-in_default t c =
    let alone = itself_alone c.args.part.now c.loop-left.rest.now (no_pair_by_shape c.shape.result c.loop-left.rest.now c.shape.ensures c.in_default.not-Pair) in (
      λ e. c.loop-left.invariant.1.0 (alone.1 (c.same.ensures.0 e)),
      λ h. c.same.ensures.1 (alone.0 (c.loop-left.invariant.1.1 h)),
    )
