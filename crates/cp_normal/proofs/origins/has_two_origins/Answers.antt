use Rattle.std.proofs.Common.{ap}
use Rattle.cp_model.specs.Skeleton.{Assumptions}
use Rattle.cp_normal.proofs.Found.{two_origins_if_found, found_if_two_origins}
use Rattle.cp_normal.proofs.origins.has_two_origins.Goals as goal

pub returns : goal.returns
returns c = (
  λ r. two_origins_if_found c.args.k.now _ _ (ap (λ (a : Assumptions). a.uniquely_originating) c.assumptions.ensures) c.uniquely_originating.ensures (c.some_has_two_origins.ensures.0 r),
  λ h. c.some_has_two_origins.ensures.1 (found_if_two_origins c.args.k.now _ _ (ap (λ (a : Assumptions). a.uniquely_originating) c.assumptions.ensures) c.uniquely_originating.ensures h),
)
