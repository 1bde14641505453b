use Rattle.cp_model.proofs.CarriedParts.{not_both}
use Rattle.cp_model.proofs.FirstCarriers.{none_next, none_at_all}
use Rattle.std.proofs.Common.{sym, subst}
use Rattle.cp_model.specs.Message.{IsCarriedBy}
use Rattle.cp_model.proofs.origin.first_carrying.Goals as goal

pub loop-place-preserved : goal.loop-place-preserved
loop-place-preserved c =
    none_next c.args.message.now c.args.events.now c.loop-place.place c.index-events-place.result c.loop-place-test.true c.index-events-place.is
    (λ h. not_both c.if-carries.false (c.carries.ensures.1 (subst (IsCarriedBy c.args.message.now) (sym c.payload.ensures) h))) c.loop-place.invariant

pub returns : goal.returns
returns c = none_at_all c.args.message.now c.args.events.now c.loop-place.place c.loop-place-test.false c.loop-place.invariant
