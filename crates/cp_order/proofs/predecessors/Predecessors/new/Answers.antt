use Rattle.std.proofs.Common.{sym, ap, ◌∙◌}
use Rattle.std.proofs.lemmas.List.{drop_all}
use Rattle.cp_model.specs.OrderTests.{any_pair, at_or_after}
use Rattle.cp_order.specs.PredecessorNodes.{tops_in}
use Rattle.cp_order.proofs.GatheredNodes.{alone}
use Rattle.cp_order.proofs.predecessors.Predecessors.new.Goals as goal

pub invariant_of-result : goal.invariant_of-result
invariant_of-result c =
    let none = sym c.loop-pair.invariant ∙ ap (any_pair (λ p. at_or_after p.later c.args.node)) (drop_all c.loop-pair.pair-index c.args.pairs.now c.loop-pair-test.false) in
    alone c.args.pairs.now c.args.node (tops_in c.new-tops.result) (tops_in c.put.new.self) c.new-tops.ensures c.in_ok-put.ensures none
