use Rattle.std.proofs.Common.{◌++◌, ◌∷◌, [], sym, ap, ap₂, ◌∙◌}
use Rattle.cp_derive.proofs.ListedTransmissions.{transmission_added, reception_passed}
use Rattle.cp_derive.proofs.transmission.transmissions.Goals as goal
use Rattle.cp_derive.proofs.transmission.transmissions.Goals.{in-Send+in_ok-message+in_ok-push, in_default}

pub loop-occurrence-preserved : goal.loop-occurrence-preserved
loop-occurrence-preserved c =
    elim c.match-event.branch [
      | in-Send+in_ok-message+in_ok-push w ↦
          transmission_added _ _ c.occurrence-item.result c.loop-occurrence.transmissions.items _ _ c.loop-occurrence-test.true c.occurrence-item.is c.loop-occurrence.invariant
          _ (sym c.event.ensures ∙ w.in-Send.is) (sym c.is_by_role.ensures ∙ c.if-not-is_by_role.false)
          (ap (λ ts. ts.items) w.transmissions-is ∙ w.in_ok-push.ensures.items
          ∙ ap₂ (λ n t. c.loop-occurrence.transmissions.items ++ (record { node = n; message = t } ∷ [])) w.node.ensures w.in_ok-message.ensures)
      | in_default w ↦
          reception_passed _ _ c.occurrence-item.result c.loop-occurrence.transmissions.items _ _ c.loop-occurrence-test.true c.occurrence-item.is c.loop-occurrence.invariant
          (λ t e. w.in_default.not-Send t (c.event.ensures ∙ e)) (ap (λ ts. ts.items) w.transmissions-is)
    ]
