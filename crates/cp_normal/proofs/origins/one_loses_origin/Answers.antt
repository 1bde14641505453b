use Rattle.std.proofs.Common.{refl, sym}
use Rattle.cp_model.specs.Realisation.{OriginatesAtTerm}
use Rattle.cp_model.proofs.CarriedParts.{not_both}
use Rattle.cp_collapse.proofs.ItemsWithProperty.{found, next, none}
use Rattle.cp_normal.proofs.Found.{same_origination}
use Rattle.cp_normal.proofs.origins.one_loses_origin.Goals as goal

pub returns-then-not-originates : goal.returns-then-not-originates
returns-then-not-originates c = (
  λ _. found (λ u. OriginatesAtTerm c.args.k.now u.value u.origin → ⊥) _ _ _ c.loop-unique-test.true c.unique-item.is (λ p. not_both c.if-not-originates.true (c.originates.ensures.1 (same_origination c.args.k.now _ _ _ _ c.value.ensures c.origin.ensures p))),
  λ _. refl,
)

pub loop-unique-preserved : goal.loop-unique-preserved
loop-unique-preserved c =
    λ h. next (λ u. OriginatesAtTerm c.args.k.now u.value u.origin → ⊥) _ _ _ c.loop-unique-test.true c.unique-item.is (λ p. p (same_origination c.args.k.now _ _ _ _ (sym c.value.ensures) (sym c.origin.ensures) (c.originates.ensures.0 c.if-not-originates.false))) (c.loop-unique.invariant h)

pub returns : goal.returns
returns c = (
  λ r. absurd (not_both refl r),
  λ h. absurd (none (λ u. OriginatesAtTerm c.args.k.now u.value u.origin → ⊥) _ _ c.loop-unique-test.false (c.loop-unique.invariant h)),
)
