use Rattle.std.proofs.Common.{◌++◌, ◌∷◌, [], ap, ◌∙◌}
use Rattle.cp_derive.proofs.TransmissionPlaces.{message_moved, message_skipped}
use Rattle.cp_derive.proofs.before.messages_at.Goals as goal
use Rattle.cp_derive.proofs.before.messages_at.Goals.{in-Some+in_ok-message+in_ok-push, in_default}

pub loop-place-preserved : goal.loop-place-preserved
loop-place-preserved c =
    elim c.match-message_of.branch [
      | in-Some+in_ok-message+in_ok-push w ↦
          message_moved c.args.places.now c.loop-place.place-index c.args.transmissions.now c.loop-place.messages.items _ _ c.message_of.result c.loop-place-test.true
          c.message_of.ensures c.loop-place.invariant w.in-Some.sent w.in-Some.is
          (ap (λ v. v.items) w.messages-is ∙ w.in_ok-push.ensures.items ∙ ap (λ t. c.loop-place.messages.items ++ (t ∷ [])) w.in_ok-message.ensures)
      | in_default w ↦
          message_skipped c.args.places.now c.loop-place.place-index c.args.transmissions.now c.loop-place.messages.items _ _ c.message_of.result c.loop-place-test.true
          c.message_of.ensures c.loop-place.invariant w.in_default.not-Some (ap (λ v. v.items) w.messages-is)
    ]
