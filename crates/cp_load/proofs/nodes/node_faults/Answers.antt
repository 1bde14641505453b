use Rattle.cp_load.proofs.NodeFaults.{node-read}
use Rattle.cp_load.proofs.nodes.node_faults.Goals as goal

pub returns : goal.returns
returns c =
    node-read c.args.strands.now c.args.form.now c.in-List.place c.in-List.items c.as_slice-items.result.now c.node_of.result c.args.first.now c.lacks.new.first c.range_faults.new.first c.two_number_faults.new.first
    c.in-List.is c.as_slice-items.ensures.value c.node_of.ensures c.lacks.ensures c.range_faults.ensures c.two_number_faults.ensures
