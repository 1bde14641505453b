use Rattle.std.proofs.Common.{map}
use Rattle.cp_lists.proofs.Mapped.{at_all}
use Rattle.cp_shapes.specs.Rows.{IsRowOf}
use Rattle.cp_shapes.proofs.Gathered.{next_row, all_rows}
use Rattle.cp_shapes.proofs.rows.rows.Goals as goal

pub loop-instance-preserved : goal.loop-instance-preserved
loop-instance-preserved c =
    next_row (IsRowOf (map (λ k. k.now) c.args.candidates.now)) (λ row. row.items) c.loop-instance.rows.items c.loop-instance.instance c.in_ok-row_of.field-0 c.loop-instance.invariant c.in_ok-row_of.ensures _ c.in_ok-push.ensures.items

pub returns : goal.returns
returns c = all_rows _ _ c.loop-instance.instance c.loop-instance.invariant (at_all (λ k. k.now) c.args.candidates.now c.loop-instance.instance c.loop-instance-test.false c.loop-instance.auto.instance-end)
