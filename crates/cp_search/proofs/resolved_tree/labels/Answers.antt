use Rattle.std.specs.Vec.Iter.{into_iter_items, into_iter_len}
use Rattle.cp_search.specs.TreeLabels.{labels_with}
use Rattle.cp_search.proofs.LabelsSoFar.{same_here, next_labelled}
use Rattle.cp_search.proofs.StillToCome.{one_less}
use Rattle.cp_search.proofs.resolved_tree.labels.Goals as goal

pub label-requires : goal.label-requires
label-requires c =
    same_here (labels_with c.args.made.items c.args.settled.items c.args.marks.items) c.loop-made.labels.items
    (into_iter_items c.loop-made.made-iterator) (into_iter_items c.next.new.self) (into_iter_items c.loop-made.rest_resolved) (into_iter_items c.next-in-loop-made.new.self) c.loop-made.rest_marks.items
    c.in-Some.made c.in-Some-next.settled c.loop-made.invariant.0 c.in-Some.ensures.steps.0 c.in-Some-next.ensures.cases.0

pub loop-made-preserved : goal.loop-made-preserved
loop-made-preserved c = (
  next_labelled (labels_with c.args.made.items c.args.settled.items c.args.marks.items) c.loop-made.labels.items
      (into_iter_items c.loop-made.made-iterator) (into_iter_items c.next.new.self) (into_iter_items c.loop-made.rest_resolved) (into_iter_items c.next-in-loop-made.new.self) c.loop-made.rest_marks.items
      c.in-Some.made c.in-Some-next.settled c.loop-made.invariant.0 c.in-Some.ensures.steps.0 c.in-Some-next.ensures.cases.0
      c.next_mark-mark.result c.next_mark-mark.new.marks.items c.next_mark-mark.ensures c.in_ok-label.label c.in_ok-label.ensures c.push.new.self.items c.in_ok-push.ensures.items,
  one_less (into_iter_items c.loop-made.made-iterator) (into_iter_items c.next.new.self) c.in-Some.made (into_iter_len c.loop-made.made-iterator) (into_iter_len c.next.new.self) c.loop-made.invariant.1 c.in-Some.ensures.steps.0 c.in-Some.ensures.steps.1,
  one_less (into_iter_items c.loop-made.rest_resolved) (into_iter_items c.next-in-loop-made.new.self) c.in-Some-next.settled (into_iter_len c.loop-made.rest_resolved) (into_iter_len c.next-in-loop-made.new.self) c.loop-made.invariant.2 c.in-Some-next.ensures.cases.0 c.in-Some-next.ensures.cases.1,
)
