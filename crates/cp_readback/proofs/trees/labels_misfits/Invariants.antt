use Rattle.std.proofs.Common.{◌≡◌, map, drop}
use Rattle.std.specs.Prelude.{option_map}
use Rattle.cp_sexpr.specs.View.{view}
use Rattle.cp_load.specs.UncheckedProblems.{unchecked_view}
use Rattle.cp_report.specs.ReadBack.{labels_misfits}
use Rattle.cp_spelled.specs.FirstMisfit.{first_onto}
use Rattle.cp_readback.specs.Families.{labels_of}
use Rattle.cp_readback.proofs.trees.labels_misfits.Given as goal

abbrev pub invariant-loop-number : goal.invariant-loop-number
invariant-loop-number l =
    first_onto l.first (labels_misfits (unchecked_view l.setting.problem.now) (option_map (λ f. labels_of f.now) l.setting.tree) l.number (map view (drop l.number l.labels)))
    ≡ first_onto l.initial.first (labels_misfits (unchecked_view l.setting.problem.now) (option_map (λ f. labels_of f.now) l.setting.tree) 0 (map view l.labels))
