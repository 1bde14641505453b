use Rattle.std.proofs.Common.{◌++◌}
use Rattle.cp_print.proofs.CountedNodes.{counted_next}
use Rattle.cp_print.proofs.order.add_nodes_on.Goals as goal

pub loop-index-preserved : goal.loop-index-preserved
loop-index-preserved c =
    let l = c.loop-index in
    λ h. let w = c.push.ensures.whole h in
    let i = l.invariant w.0 in
    (i.0, counted_next c.args.strand l.index c.args.count l.nodes.items c.push.new.self.items (c.args.nodes.now.items ++ _) c.loop-index-test.true w.1 i.1)
