use Rattle.std.proofs.Common.{◌≡◌, ℕ, List, [], map, drop}
use Rattle.std.specs.Prelude.{option_map}
use Rattle.cp_sexpr.specs.View.{view}
use Rattle.cp_report.specs.Labels.{children_misfits}
use Rattle.cp_spelled.specs.FirstMisfit.{first_onto}
use Rattle.cp_readback.specs.Families.{labels_of, AreNumbers}
use Rattle.cp_readback.proofs.parents.children_misfits.Given as goal

abbrev pub invariant-loop-item : goal.invariant-loop-item
invariant-loop-item l =
    (before : List ℕ) × AreNumbers before l.before
    × (first_onto l.first (children_misfits (option_map (λ f. labels_of f.now) l.tree) l.label before (map view (drop l.item-index l.items)))
    ≡ first_onto l.initial.first (children_misfits (option_map (λ f. labels_of f.now) l.tree) l.label [] (map view l.items)))
