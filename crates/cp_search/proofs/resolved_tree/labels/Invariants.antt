use Rattle.std.proofs.Common.{◌≡◌, length}
use Rattle.std.specs.Vec.Iter.{into_iter_items, into_iter_len}
use Rattle.cp_search.specs.TreeLabels.{labels_with}
use Rattle.cp_search.proofs.LabelsSoFar.{AreLabelledSoFar}
use Rattle.cp_search.proofs.resolved_tree.labels.Given as goal

abbrev pub invariant-loop-made : goal.invariant-loop-made
invariant-loop-made l = AreLabelledSoFar (labels_with l.fn.made.items l.fn.settled.items l.fn.marks.items) l.labels.items (into_iter_items l.made-iterator) (into_iter_items l.rest_resolved) l.rest_marks.items
    × (into_iter_len l.made-iterator ≡ length (into_iter_items l.made-iterator)) × (into_iter_len l.rest_resolved ≡ length (into_iter_items l.rest_resolved))
