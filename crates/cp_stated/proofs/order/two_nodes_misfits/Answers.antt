use Rattle.std.proofs.Common.{[], ◌∷◌}
use Rattle.cp_report.specs.Skeletons.{node_misfits}
use Rattle.cp_spelled.proofs.InOrder.{entry-taken}
use Rattle.cp_stated.proofs.order.two_nodes_misfits.Goals as goal

pub returns : goal.returns
returns c =
    let kind = node_misfits c.args.strands.now in
    entry-taken kind (kind ∷ []) c.args.place c.args.items.now c.in-Some.rest.now c.in-Some.node.now c.args.first.now c.node_misfits.new.first c.one_node_misfits.new.first
    c.in-Some.ensures.cases.0 c.node_misfits.ensures c.one_node_misfits.ensures
