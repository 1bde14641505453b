use Rattle.std.proofs.Common.{[]}
use Rattle.cp_report.specs.Skeletons.{node_misfits}
use Rattle.cp_spelled.proofs.InOrder.{entry-taken}
use Rattle.cp_stated.proofs.nodes.one_node_misfits.Goals as goal

pub returns : goal.returns
returns c =
    entry-taken (node_misfits c.args.strands.now) [] c.args.place c.args.items.now c.in-Some.rest.now c.in-Some.node.now c.args.first.now c.node_misfits.new.first c.no_more.new.first
    c.in-Some.ensures.cases.0 c.node_misfits.ensures (c.no_more.ensures c.args.place)
