use Rattle.std.proofs.Common.{◌≡◌, ◌++◌, [], map, drop}
use Rattle.cp_sexpr.specs.View.{view}
use Rattle.cp_report.specs.Misfits.{each_misfits}
use Rattle.cp_report.specs.Spelled.{pattern_misfits, pattern_of}
use Rattle.cp_readback.proofs.stated_labels.patterns_of.Given as goal

abbrev pub invariant-loop-item : goal.invariant-loop-item
invariant-loop-item l =
    (l.patterns.items ++ map (pattern_of l.variables) (map view (drop l.item-index l.items)) ≡ map (pattern_of l.variables) (map view l.items))
    × (each_misfits (pattern_misfits l.variables) (map view (drop l.item-index l.items)) ≡ [])
