use Rattle.std.proofs.Common.{◌≡◌, ◌++◌, [], map, drop}
use Rattle.cp_sexpr.specs.View.{view}
use Rattle.cp_report.specs.Skeletons.{unique_of, uniques_misfits}
use Rattle.cp_spelled.specs.FirstMisfit.{first_onto}
use Rattle.cp_spelled.specs.Views.{scope_view}
use Rattle.cp_stated.proofs.uniques.uniques_misfits.Given as goal

abbrev pub invariant-loop-item : goal.invariant-loop-item
invariant-loop-item l =
    (first_onto l.first (uniques_misfits (scope_view l.scope) l.strands l.uniques.items (map view (drop l.item-index l.items)))
    ≡ first_onto l.initial.first (uniques_misfits (scope_view l.scope) l.strands [] (map view l.items)))
    × (l.uniques.items ++ map (unique_of (scope_view l.scope)) (map view (drop l.item-index l.items)) ≡ map (unique_of (scope_view l.scope)) (map view l.items))
