use Rattle.std.proofs.Common.{refl, sym, ◌∙◌}
use Rattle.cp_lists.proofs.Appended.{none_counted}
use Rattle.cp_lists.proofs.Members.{item_in, none_in_empty}
use Rattle.cp_model.specs.declared.node.OrderPair.{OrderPair}
use Rattle.cp_model.specs.Order.{ReachesAlong}
use Rattle.cp_model.proofs.CarriedParts.{not_both}
use Rattle.cp_normal.proofs.AllItems.{copy_next, all_have}
use Rattle.cp_normal.proofs.OwnPairs.{leads_among}
use Rattle.cp_normal.proofs.own_pairs.lead_along.Goals as goal

pub returns-then-is_empty : goal.returns-then-is_empty
returns-then-is_empty c = (λ _ p m. absurd (none_in_empty (none_counted c.args.pairs.now _ refl (sym c.is_empty.ensures ∙ c.if-is_empty.true)) m), λ _. refl)

pub returns-then-not-has : goal.returns-then-not-has
returns-then-not-has c = (
  λ e. absurd (not_both refl e),
  λ all.
      absurd (not_both c.if-not-has.true
      ((leads_among c.args.order.now c.in_ok-sorted.sorted _ _ c.in_ok-leading.leading c.has.result c.in_ok-sorted.ensures c.in_ok-leading.ensures c.has.ensures).1
      (all _ (item_in c.args.pairs.now c.loop-pair.pair-index _ c.loop-pair-test.true)))),
)

pub loop-pair-preserved : goal.loop-pair-preserved
loop-pair-preserved c =
    copy_next (λ (p : OrderPair). ReachesAlong c.args.order.now p.earlier p.later) c.args.pairs.now c.loop-pair.pair-index _ c.loop-pair-test.true
    ((leads_among c.args.order.now c.in_ok-sorted.sorted _ _ c.in_ok-leading.leading c.has.result c.in_ok-sorted.ensures c.in_ok-leading.ensures c.has.ensures).0 c.if-not-has.false)
    c.loop-pair.invariant

pub returns : goal.returns
returns c = (λ _. all_have (λ (p : OrderPair). ReachesAlong c.args.order.now p.earlier p.later) c.args.pairs.now c.loop-pair.pair-index c.loop-pair-test.false c.loop-pair.invariant, λ _. refl)
