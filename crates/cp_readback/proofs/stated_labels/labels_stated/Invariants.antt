use Rattle.std.proofs.Common.{◌≡◌, ◌++◌, map, drop}
use Rattle.cp_sexpr.specs.View.{view}
use Rattle.cp_load.specs.UncheckedProblems.{unchecked_view}
use Rattle.cp_report.specs.Labels.{label_of}
use Rattle.cp_readback.proofs.stated_labels.labels_stated.Given as goal

abbrev pub invariant-loop-label : goal.invariant-loop-label
invariant-loop-label l =
    l.stated.items ++ map (label_of (unchecked_view l.problem)) (map view (drop l.label-index l.labels)) ≡ map (label_of (unchecked_view l.problem)) (map view l.labels)
