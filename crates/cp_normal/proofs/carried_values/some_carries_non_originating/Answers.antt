use Rattle.std.proofs.Common.{refl, ap, ◌∙◌}
use Rattle.cp_model.specs.Skeleton.{Assumptions, Skeleton}
use Rattle.cp_normal.proofs.Found.{carries_if_found, found_if_carries}
use Rattle.cp_normal.proofs.carried_values.some_carries_non_originating.Goals as goal

pub returns : goal.returns
returns c = (
  λ r. carries_if_found c.args.k.now _ _ c.events.ensures refl _ (c.non_originating.ensures ∙ ap (λ (a : Assumptions). a.non_originating) (c.assumptions.ensures ∙ ap (λ (k : Skeleton). k.assumptions) c.skeleton.ensures)) (c.some_carries_one.ensures.0 r),
  λ h. c.some_carries_one.ensures.1 (found_if_carries c.args.k.now _ _ c.events.ensures refl _ (c.non_originating.ensures ∙ ap (λ (a : Assumptions). a.non_originating) (c.assumptions.ensures ∙ ap (λ (k : Skeleton). k.assumptions) c.skeleton.ensures)) h),
)
