use Rattle.std.proofs.Common.{ap, ◌∙◌}
use Rattle.cp_model.specs.Skeleton.{Assumptions, Skeleton}
use Rattle.cp_normal.proofs.Found.{loses_if_found, found_if_loses}
use Rattle.cp_normal.proofs.origins.some_loses_origin.Goals as goal

pub returns : goal.returns
returns c = (
  λ r. loses_if_found c.args.k.now _ _ (ap (λ (a : Assumptions). a.uniquely_originating) (c.assumptions.ensures ∙ ap (λ (k : Skeleton). k.assumptions) c.skeleton.ensures)) c.uniquely_originating.ensures (c.one_loses_origin.ensures.0 r),
  λ h. c.one_loses_origin.ensures.1 (found_if_loses c.args.k.now _ _ (ap (λ (a : Assumptions). a.uniquely_originating) (c.assumptions.ensures ∙ ap (λ (k : Skeleton). k.assumptions) c.skeleton.ensures)) c.uniquely_originating.ensures h),
)
