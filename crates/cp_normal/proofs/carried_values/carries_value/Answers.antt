use Rattle.std.proofs.Common.{sym, ap, ◌∙◌}
use Rattle.cp_model.specs.Strand.{payload}
use Rattle.cp_collapse.proofs.ItemsWithProperty.{same_carried}
use Rattle.cp_normal.proofs.carried_values.carries_value.Goals as goal

pub returns : goal.returns
returns c = (
  λ r. same_carried _ _ _ _ c.as_term.ensures (c.payload.ensures ∙ ap payload c.event.ensures) (c.carries.ensures.0 r),
  λ h. c.carries.ensures.1 (same_carried _ _ _ _ (sym c.as_term.ensures) (sym (c.payload.ensures ∙ ap payload c.event.ensures)) h),
)
