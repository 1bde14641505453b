use Rattle.std.proofs.Common.{◌≤◌, ◌≡◌, ◌+◌, Some, length, ap, sym, subst, ◌∙◌, arith}
use Rattle.cp_model.proofs.CarriedParts.{not_both}
use Rattle.cp_lists.proofs.Items.{item_of_read}
use Rattle.cp_lists.specs.Lists.{item_at}
use Rattle.cp_model.specs.Order.{ReachesAlong}
use Rattle.cp_order.specs.PredecessorNodes.{Target}
use Rattle.cp_skel.proofs.SameNode.{tested_apart, tested_same}
use Rattle.cp_derive.proofs.TransmissionPlaces.{ArePlacesBelow, placed, not_placed, all_placed}
use Rattle.cp_derive.proofs.before.places_before.Goals as goal
use Rattle.cp_derive.proofs.before.places_before.Goals.{then-has+then-ne+in_ok-push, else-has, else-has-via-then-has+else-ne, else-has-via-else-has}

pub loop-place-preserved : goal.loop-place-preserved
loop-place-preserved c =
    let at : item_at c.args.transmissions.now c.loop-place.place ≡ Some c.index-transmissions-place.result =
    item_of_read c.args.transmissions.now c.loop-place.place c.index-transmissions-place.result c.loop-place-test.true c.index-transmissions-place.is in
    elim c.if-has.branch [
      | then-has+then-ne+in_ok-push w ↦
          placed c.args.sorted.now c.args.node _ c.loop-place.place c.index-transmissions-place.result c.loop-place.places.items _ at (
            subst (λ (x : Target). ReachesAlong x.pairs c.index-transmissions-place.result.node x.node) c.in_ok-leading.ensures (c.has.ensures.0 w.if-has.true),
            tested_apart c.index-transmissions-place.result.node c.args.node w.if-ne.ensures,
          )
          (ap (λ v. v.items) w.places-is ∙ w.in_ok-push.ensures.items) c.loop-place.invariant
      | else-has w ↦
          subst (λ ps. ArePlacesBelow c.args.sorted.now c.args.node c.args.transmissions.now (c.loop-place.place + 1) ps)
          (sym (ap (λ v. v.items) w.places-is))
          (elim w.else-has.branch [
            | else-has-via-then-has+else-ne w' ↦
                not_placed c.args.sorted.now c.args.node _ c.loop-place.place c.index-transmissions-place.result _ at
                (λ l. l.1 (tested_same c.index-transmissions-place.result.node c.args.node w'.if-ne.ensures)) c.loop-place.invariant
            | else-has-via-else-has w' ↦
                not_placed c.args.sorted.now c.args.node _ c.loop-place.place c.index-transmissions-place.result _ at
                (λ l.
                not_both w'.if-has.false
                (c.has.ensures.1 (subst (λ (x : Target). ReachesAlong x.pairs c.index-transmissions-place.result.node x.node) (sym c.in_ok-leading.ensures) l.0)))
                c.loop-place.invariant
          ])
    ]

pub returns : goal.returns
returns c =
    let past : length c.args.transmissions.now ≤ c.loop-place.place = omega arith in
    all_placed _ _ _ _ _ past c.loop-place.invariant
