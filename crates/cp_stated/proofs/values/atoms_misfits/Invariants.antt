use Rattle.std.proofs.Common.{◌≡◌, ◌++◌, [], map, drop}
use Rattle.cp_sexpr.specs.View.{view}
use Rattle.cp_report.specs.Spelled.{atom_in}
use Rattle.cp_report.specs.Skeletons.{atoms_misfits}
use Rattle.cp_spelled.specs.FirstMisfit.{first_onto}
use Rattle.cp_spelled.specs.Views.{scope_view}
use Rattle.cp_stated.proofs.values.atoms_misfits.Given as goal

abbrev pub invariant-loop-item : goal.invariant-loop-item
invariant-loop-item l =
    (first_onto l.first (atoms_misfits (scope_view l.scope) l.values.items (map view (drop l.item-index l.items))) ≡ first_onto l.initial.first (atoms_misfits (scope_view l.scope) [] (map view l.items)))
    × (l.values.items ++ map (atom_in (scope_view l.scope)) (map view (drop l.item-index l.items)) ≡ map (atom_in (scope_view l.scope)) (map view l.items))
