use Rattle.std.proofs.Common.{◌<◌, length, refl, subst, arith}
use Rattle.cp_model.proofs.CarriedParts.{not_both}
use Rattle.cp_lists.specs.Lists.{IsIn}
use Rattle.cp_lists.proofs.Members.{item_is_in, none_left}
use Rattle.cp_derive.proofs.Listed.{behind_other}
use Rattle.cp_derive.proofs.built_terms.is_among.Goals as goal

pub returns-then-same : goal.returns-then-same
returns-then-same c = (λ _. subst (λ t. IsIn t c.args.terms.now) (c.same.ensures.0 c.if-same.true) (item_is_in _ _ _ (omega arith) c.other-item.is), λ _. refl)

pub loop-other-preserved : goal.loop-other-preserved
loop-other-preserved c =
    let within : c.loop-other.other-index < length c.args.terms.now = omega arith in
    λ h. behind_other _ _ _ _ within c.other-item.is (λ same. not_both c.if-same.false (c.same.ensures.1 same)) (c.loop-other.invariant h)

pub returns : goal.returns
returns c = (
  λ r. absurd (not_both refl r),
  λ h. absurd (none_left _ _ _ c.loop-other-test.false (c.loop-other.invariant h)),
)
