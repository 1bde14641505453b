use Rattle.std.proofs.Common.{rules, ◌↔◌, IsTrue, sym, ap, ◌∙◌, subst}
use Rattle.std.proofs.lemmas.List.{drop_all}
use Rattle.cp_lists.proofs.Collected.{if_mapped}
use Rattle.cp_model.specs.Order.{ReachesAlong}
use Rattle.cp_model.specs.OrderTests.{any_pair, at_or_after}
use Rattle.cp_order.specs.PredecessorNodes.{Target}
use Rattle.cp_order.proofs.GatheredNodes.{reached_alone}
use Rattle.cp_order.proofs.reaching.reaches.Goals as goal

pub returns-then-is_at_or_before : goal.returns-then-is_at_or_before
returns-then-is_at_or_before c =
    if_mapped c.new.result c.map.result
    (λ before answer is k.
    let told : IsTrue answer ↔ ReachesAlong before.pairs c.args.first before.node = search rules in
    subst (λ (t : Target). IsTrue answer ↔ ReachesAlong t.pairs c.args.first t.node) is told) c.new.ensures c.map.ensures.cases

pub returns : goal.returns
returns c =
    let none = sym c.loop-pair.invariant ∙ ap (any_pair (λ p. at_or_after p.later c.args.second)) (drop_all c.loop-pair.pair-index c.args.pairs.now c.loop-pair-test.false) in
    reached_alone c.args.pairs.now c.args.first c.args.second c.is_at_or_before-2.result c.is_at_or_before-2.ensures none
