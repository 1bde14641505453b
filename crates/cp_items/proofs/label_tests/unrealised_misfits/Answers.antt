use Rattle.std.proofs.Common.{map}
use Rattle.cp_sexpr.specs.View.{view}
use Rattle.cp_report.specs.Misfits.{place_before, lacking, each_misfits}
use Rattle.cp_report.specs.Skeletons.{node_misfits}
use Rattle.cp_scope.proofs.FirstOf.{first_then}
use Rattle.cp_items.proofs.label_tests.unrealised_misfits.Goals as goal

pub returns : goal.returns
returns c =
    let fs = map view c.args.items.now in
    first_then place_before c.args.first.now c.lacking.new.first c.nodes_misfits.new.first (lacking 1 c.args.place fs) (each_misfits (node_misfits c.args.strands.now) fs) c.lacking.ensures c.nodes_misfits.ensures
