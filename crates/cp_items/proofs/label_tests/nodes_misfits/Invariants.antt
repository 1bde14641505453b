use Rattle.std.proofs.Common.{◌≡◌, map, drop}
use Rattle.cp_sexpr.specs.View.{view}
use Rattle.cp_report.specs.Misfits.{each_misfits}
use Rattle.cp_report.specs.Skeletons.{node_misfits}
use Rattle.cp_spelled.specs.FirstMisfit.{first_onto}
use Rattle.cp_items.proofs.label_tests.nodes_misfits.Given as goal

abbrev pub invariant-loop-item : goal.invariant-loop-item
invariant-loop-item l =
    first_onto l.first (each_misfits (node_misfits l.strands) (map view (drop l.item-index l.items)))
    ≡ first_onto l.initial.first (each_misfits (node_misfits l.strands) (map view l.items))
