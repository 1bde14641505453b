use Rattle.std.proofs.Common.{take, ◌++◌, ◌∷◌, [], ◌∙◌, sym, subst, ap, Some, ◌≡◌}
use Rattle.cp_lists.specs.Lists.{item_at}
use Rattle.cp_lists.proofs.Items.{item_of_read}
use Rattle.cp_model.proofs.CarriedParts.{not_both}
use Rattle.cp_model.specs.Skeleton.{Before}
use Rattle.cp_model.specs.Term.{Term}
use Rattle.cp_derive.specs.AtNode.{AreSentBefore}
use Rattle.cp_derive.proofs.SentBefore.{event_passed, event_sent, all_sent}
use Rattle.cp_derive.proofs.before.sent_before.Goals as goal
use Rattle.cp_derive.proofs.before.sent_before.Goals.{then-not-is_by_role-via-then-not-is_by_role, then-not-is_by_role-via-else-not-is_by_role+then-not-has, in-Send+in_ok-message+in_ok-push, in_default}

pub loop-located-preserved-then-not-is_by_role : goal.loop-located-preserved-then-not-is_by_role
loop-located-preserved-then-not-is_by_role c =
    let at : item_at c.args.events.now c.loop-located.located-index ≡ Some c.located-item.result = item_of_read c.args.events.now c.loop-located.located-index c.located-item.result c.loop-located-test.true c.located-item.is in
    event_passed c.args.preceding.now c.args.events.now c.loop-located.located-index c.located-item.result at c.loop-located.sent.items
    (elim c.then-not-is_by_role.branch [
      | then-not-is_by_role-via-then-not-is_by_role w ↦ λ t s. not_both (sym c.is_by_role.ensures ∙ w.if-not-is_by_role.true) s.by_role
      | then-not-is_by_role-via-else-not-is_by_role+then-not-has w ↦ λ t s. not_both w.if-not-has.true (w.has.ensures.1 (subst (λ n. Before c.args.preceding.now.skeleton n c.args.preceding.now.node) (sym w.node.ensures) s.before))
    ])
    c.loop-located.invariant

pub loop-located-preserved : goal.loop-located-preserved
loop-located-preserved c =
    let at : item_at c.args.events.now c.loop-located.located-index ≡ Some c.located-item.result = item_of_read c.args.events.now c.loop-located.located-index c.located-item.result c.loop-located-test.true c.located-item.is in
    elim c.match-event.branch [
      | in-Send+in_ok-message+in_ok-push w ↦
          event_sent c.args.preceding.now c.args.events.now c.loop-located.located-index c.located-item.result at c.loop-located.sent.items c.match-event.sent.items _
          (record { by_role = sym c.is_by_role.ensures ∙ c.if-not-is_by_role.false; sends = sym c.event.ensures ∙ w.in-Send.is; before = subst (λ n. Before c.args.preceding.now.skeleton n c.args.preceding.now.node) c.node.ensures (c.has.ensures.0 c.if-not-has.false) })
          (ap (λ v. v.items) w.sent-is ∙ w.in_ok-push.ensures.items ∙ ap (λ (t : Term). c.loop-located.sent.items ++ t ∷ []) w.in_ok-message.ensures) c.loop-located.invariant
      | in_default w ↦
          event_passed c.args.preceding.now c.args.events.now c.loop-located.located-index c.located-item.result at c.match-event.sent.items
          (λ t s. w.in_default.not-Send t (c.event.ensures ∙ s.sends))
          (subst (λ ts. AreSentBefore c.args.preceding.now (take c.loop-located.located-index c.args.events.now) ts) (sym (ap (λ v. v.items) w.sent-is)) c.loop-located.invariant)
    ]

pub returns : goal.returns
returns c = all_sent c.args.preceding.now c.args.events.now c.loop-located.located-index _ c.loop-located-test.false c.loop-located.invariant
