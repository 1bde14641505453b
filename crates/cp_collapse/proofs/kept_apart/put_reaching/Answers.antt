use Rattle.std.specs.Prelude.{IsTrue, List}
use Rattle.std.proofs.Common.{rules, ◌≢◌, sym, subst}
use Rattle.cp_model.specs.Order.{ReachesAlong}
use Rattle.cp_model.specs.declared.node.OrderPair.{OrderPair}
use Rattle.cp_order.specs.PredecessorNodes.{Target}
use Rattle.cp_collapse.proofs.RuledOut.{apart_by_way, two_more_apart}
use Rattle.cp_collapse.proofs.kept_apart.put_reaching.Goals as goal

pub loop-strand-preserved : goal.loop-strand-preserved
loop-strand-preserved c = λ k pairs order_pairs is so_far.
    let other : c.loop-strand.strand ≢ c.args.node.strand = search rules in
    let has : IsTrue c.has.result = search rules in
    two_more_apart k c.loop-strand.all.items _ c.two_apart.result (c.loop-strand.invariant k pairs order_pairs is so_far)
    (c.two_apart.ensures k (apart_by_way k order_pairs c.loop-strand.strand c.args.node is other
    (subst (λ (qs : List OrderPair). ReachesAlong qs (record { strand = c.loop-strand.strand; index = c.args.node.index }) c.args.node) (sym pairs)
    (subst (λ (l : Target). ReachesAlong l.pairs (record { strand = c.loop-strand.strand; index = c.args.node.index }) l.node) c.in_ok-reaching.ensures (c.has.ensures.0 has))))) c.in_ok-push.ensures.items
