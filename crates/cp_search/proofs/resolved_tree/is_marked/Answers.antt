use Rattle.std.proofs.Common.{refl}
use Rattle.cp_model.proofs.CarriedParts.{not_both}
use Rattle.cp_search.proofs.LabelsSoFar.{marked_here, not_here, none_marked}
use Rattle.cp_search.proofs.resolved_tree.is_marked.Goals as goal

pub returns-then-has_mark : goal.returns-then-has_mark
returns-then-has_mark c = (
  λ _. marked_here c.args.mark c.args.labels.now c.loop-label.label-index c.label-item.result c.loop-label-test.true c.label-item.is (c.has_mark.ensures.0 c.if-has_mark.true),
  λ _. refl,
)

pub loop-label-preserved : goal.loop-label-preserved
loop-label-preserved c =
    not_here c.args.mark c.args.labels.now c.loop-label.label-index c.label-item.result c.loop-label-test.true c.label-item.is (λ e. not_both c.if-has_mark.false (c.has_mark.ensures.1 e)) c.loop-label.invariant

pub returns : goal.returns
returns c = (
  λ r. absurd (not_both refl r),
  λ h. absurd (none_marked c.args.mark c.args.labels.now c.loop-label.label-index c.loop-label-test.false c.loop-label.invariant h),
)
