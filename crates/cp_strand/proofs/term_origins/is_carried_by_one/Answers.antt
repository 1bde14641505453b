use Rattle.std.proofs.Common.{refl, subst, sym}
use Rattle.cp_model.specs.Term.{IsCarriedByTerm, apply_to}
use Rattle.cp_model.specs.Homomorphism.{substitution_by}
use Rattle.cp_model.proofs.CarriedParts.{not_both}
use Rattle.cp_strand.proofs.Origins.{carried_behind, carried_by_item, carried_by_none}
use Rattle.cp_strand.proofs.term_origins.is_carried_by_one.Goals as goal

pub returns-then-carries_under : goal.returns-then-carries_under
returns-then-carries_under c =
    let s = substitution_by c.args.values.now in (
      λ _. carried_by_item s c.args.t.now c.args.events.now c.loop-event.event-index c.event-item.result c.loop-event-test.true c.event-item.is
          (subst (λ m. IsCarriedByTerm c.args.t.now (apply_to s m)) c.payload.ensures (c.carries_under.ensures.0 c.if-carries_under.true)),
      λ _. refl,
    )

pub loop-event-preserved : goal.loop-event-preserved
loop-event-preserved c h =
    let s = substitution_by c.args.values.now in
    carried_behind s c.args.t.now c.args.events.now c.loop-event.event-index c.event-item.result c.loop-event-test.true c.event-item.is
    (λ carried. not_both c.if-carries_under.false
    (c.carries_under.ensures.1 (subst (λ m. IsCarriedByTerm c.args.t.now (apply_to s m)) (sym c.payload.ensures) carried)))
    (c.loop-event.invariant h)

pub returns : goal.returns
returns c = (
  λ r. absurd (not_both refl r),
  λ h. absurd (carried_by_none (substitution_by c.args.values.now) c.args.t.now c.args.events.now _ c.loop-event-test.false (c.loop-event.invariant h)),
)
