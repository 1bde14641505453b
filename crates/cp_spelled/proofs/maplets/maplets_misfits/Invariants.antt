use Rattle.std.proofs.Common.{◌≡◌, ◌++◌, [], drop, map}
use Rattle.cp_sexpr.specs.View.{view}
use Rattle.cp_report.specs.Skeletons.{identifier_of, maplets_misfits}
use Rattle.cp_spelled.specs.FirstMisfit.{first_onto}
use Rattle.cp_spelled.specs.Views.{scope_view}
use Rattle.cp_spelled.proofs.maplets.maplets_misfits.Given as goal

abbrev pub invariant-loop-maplet : goal.invariant-loop-maplet
invariant-loop-maplet l =
    (first_onto l.first (maplets_misfits (scope_view l.scope) l.wanted l.mapped (map view (drop l.maplet-index l.maplets)))
    ≡ first_onto l.initial.first (maplets_misfits (scope_view l.scope) l.wanted [] (map view l.maplets)))
    × (l.mapped ++ map identifier_of (map view (drop l.maplet-index l.maplets)) ≡ map identifier_of (map view l.maplets))
