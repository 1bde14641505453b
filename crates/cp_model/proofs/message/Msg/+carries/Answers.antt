use Rattle.std.proofs.Common.{refl, sym, ap, ◌∙◌, arith}
use Rattle.cp_model.specs.Message.{IsCarriedBy, itself, in_left, in_right, in_plaintext}
use Rattle.cp_model.specs.MessageView.{message_of_form}
use Rattle.cp_model.proofs.CarriedMessages.{right_carries, plaintext_carries}
use Rattle.cp_model.proofs.CarriedParts.{not_both, made_carries, last_left}
use Rattle.cp_model.proofs.message.Msg.+carries.Goals as goal

pub returns-then-same : goal.returns-then-same
returns-then-same t c =
    (λ _. made_carries (IsCarriedBy c.args.part.now) _ _ _ (c.same.ensures.0 c.if-same.true) itself c.loop-rest.invariant.1, λ _. refl)

pub returns-then-carries : goal.returns-then-carries
returns-then-carries t c = (
  λ _. made_carries (IsCarriedBy c.args.part.now) _ _ _ (sym c.form.ensures ∙ ap message_of_form c.in-Pair.is)
      (in_left (c.carries.ensures.0 c.if-carries.true)) c.loop-rest.invariant.1,
  λ _. refl,
)

pub loop-rest-preserved-in-Pair : goal.loop-rest-preserved-in-Pair
loop-rest-preserved-in-Pair t c =
    let only = right_carries c.args.part.now _ _ (λ l. not_both c.if-carries.false (c.carries.ensures.1 l)) in
    let h = last_left (IsCarriedBy c.args.part.now) c.args.self.now _ _ _ _ (sym c.form.ensures ∙ ap message_of_form c.in-Pair.is)
    (λ same. not_both c.if-same.false (c.same.ensures.1 same)) in_right only c.loop-rest.invariant.1 c.loop-rest.invariant.2 in
    (grind arith, h.0, h.1)

pub loop-rest-preserved : goal.loop-rest-preserved
loop-rest-preserved t c =
    let h = last_left (IsCarriedBy c.args.part.now) c.args.self.now _ _ _ _ (sym c.form.ensures ∙ ap message_of_form c.in-Encryption.is)
    (λ same. not_both c.if-same.false (c.same.ensures.1 same)) in_plaintext (plaintext_carries _ _ _) c.loop-rest.invariant.1 c.loop-rest.invariant.2 in
    (grind arith, h.0, h.1)
