use Rattle.cp_language.specs.Report.{nodes_from}
use Rattle.cp_print.proofs.CountedNodes.{strand_next}
use Rattle.cp_print.proofs.order.nodes_of.Goals as goal

pub loop-number-preserved : goal.loop-number-preserved
loop-number-preserved c =
    λ h. let w = c.add_nodes_on.ensures h in
    strand_next c.loop-number.number c.length_of.result c.args.strands.now c.index-strands-number.result c.loop-number.nodes.items c.add_nodes_on.new.nodes.items (nodes_from 0 c.args.strands.now)
    c.loop-number-test.true c.index-strands-number.is c.length_of.ensures w.1 (c.loop-number.invariant w.0)
