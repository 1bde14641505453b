use Rattle.std.proofs.Common.{◌≡◌, ◌++◌, ◌∷◌, [], List, sym, ap, ◌∙◌, subst}
use Rattle.cp_order.specs.PredecessorNodes.{AreTops, tops_in}
use Rattle.cp_order.specs.Sorted.{AreSorted}
use Rattle.cp_model.specs.declared.node.OrderPair.{OrderPair}
use Rattle.cp_model.specs.declared.node.Node.{Node}
use Rattle.cp_order.proofs.PairsInOrder.{tops-permuted}
use Rattle.cp_order.proofs.GatheredNodes.{gathered_first, gathered_next, gathered_less, gathered_all, popped, nothing_left}
use Rattle.cp_order.proofs.predecessors.SortedPairs.predecessors_of.Goals as goal

pub loop-next-init : goal.loop-next-init
loop-next-init c =
    let work : c.push.new.self.items ≡ c.args.node ∷ [] = c.in_ok-push.ensures.ok ∙ ap (λ (ns : List Node). ns ++ c.args.node ∷ []) c.new-work.ensures.items in
    gathered_first c.as_slice-sorted.result.now c.args.node (tops_in c.new-tops.result) c.push.new.self.items c.new-tops.ensures work

pub loop-next-smaller : goal.loop-next-smaller
loop-next-smaller c =
    gathered_less c.as_slice-sorted.result.now c.args.node c.in-Some.next (tops_in c.loop-next.tops) (tops_in c.take.new.tops) c.loop-next.work.items c.pop.new.self.items c.take.new.work.items
    (popped c.loop-next.work.items c.pop.new.self.items c.pop.result c.in-Some.next c.pop.ensures.items c.in-Some.is) c.in_ok-take.ensures

pub loop-next-preserved : goal.loop-next-preserved
loop-next-preserved c =
    gathered_next c.as_slice-sorted.result.now c.args.node c.in-Some.next (tops_in c.loop-next.tops) (tops_in c.take.new.tops) c.loop-next.work.items c.pop.new.self.items c.take.new.work.items
    (popped c.loop-next.work.items c.pop.new.self.items c.pop.result c.in-Some.next c.pop.ensures.items c.in-Some.is) c.in_ok-take.ensures c.loop-next.invariant

pub take-requires : goal.take-requires
take-requires c = subst AreSorted (sym c.as_slice-sorted.ensures.value) c.self.invariant.0

pub invariant_of-result : goal.invariant_of-result
invariant_of-result c =
    let tops = tops_in c.loop-next.tops in
    let along : AreTops c.as_slice-sorted.result.now c.args.node tops = gathered_all c.as_slice-sorted.result.now c.args.node tops c.loop-next.work.items
    (nothing_left c.loop-next.work.items c.pop.result c.pop.ensures.variant.1 c.in_default.not-Some) c.loop-next.invariant in
    tops-permuted c.self.inside.pairs.now c.self.inside.sorted.items c.args.node tops c.self.invariant.1
    (subst (λ (ps : List OrderPair). AreTops ps c.args.node tops) c.as_slice-sorted.ensures.value along)
