use Rattle.std.proofs.Common.{map}
use Rattle.cp_shapes.proofs.Gathered.{next_mark}
use Rattle.cp_shapes.proofs.shape_marks.shapes.Goals as goal

pub loop-row-preserved : goal.loop-row-preserved
loop-row-preserved c =
    next_mark (map (λ k. k.now) c.args.candidates.now) c.in_ok-rows.rows.items c.deref-row-items.result.now c.deref.result.now c.in_ok-rows.ensures c.row-item.result c.deref-in-loop-row.result.now c.loop-row.row-index
    c.loop-row.marks.items c.push.new.self.items c.first_shape.result c.deref-row-items.ensures.value c.deref.ensures.value c.deref-in-loop-row.ensures.value c.loop-row-test.true c.row-item.is c.loop-row.invariant c.first_shape.ensures c.in_ok-push.ensures.items
