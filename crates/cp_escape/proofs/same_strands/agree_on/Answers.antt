use Rattle.std.proofs.Common.{refl, ap, ◌∙◌, sym}
use Rattle.cp_model.specs.Homomorphism.{substitution_by}
use Rattle.cp_model.specs.Term.{apply_to}
use Rattle.cp_model.proofs.CarriedParts.{not_both}
use Rattle.cp_escape.proofs.SameValues.{agree_next, agree_past, agree_there}
use Rattle.cp_escape.proofs.same_strands.agree_on.Goals as goal

pub returns-then-not-branch : goal.returns-then-not-branch
returns-then-not-branch c =
    let s = substitution_by c.args.a.now in
    let t = substitution_by c.args.b.now in (
      λ e. absurd (not_both refl e),
      λ a. absurd (not_both c.if-not-branch.true (c.in_ok-is_same_message.ensures.1
          (ap (apply_to s) c.payload.ensures ∙ agree_there s t c.args.events.now c.loop-event.event-index c.event-item.result c.loop-event-test.true c.event-item.is a ∙ sym (ap (apply_to t) c.payload.ensures)))),
    )

pub loop-event-preserved : goal.loop-event-preserved
loop-event-preserved c =
    let s = substitution_by c.args.a.now in
    let t = substitution_by c.args.b.now in
    agree_next s t c.args.events.now c.loop-event.event-index c.event-item.result c.loop-event-test.true c.event-item.is c.loop-event.invariant
    (sym (ap (apply_to s) c.payload.ensures) ∙ c.in_ok-is_same_message.ensures.0 c.if-not-branch.false ∙ ap (apply_to t) c.payload.ensures)

pub returns : goal.returns
returns c = (λ _. agree_past (substitution_by c.args.a.now) (substitution_by c.args.b.now) c.args.events.now c.loop-event.event-index c.loop-event-test.false c.loop-event.invariant, λ _. refl)
