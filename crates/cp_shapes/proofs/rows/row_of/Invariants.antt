use Rattle.std.proofs.Common.{map}
use Rattle.cp_shapes.proofs.RisingRows.{IsRowTo}
use Rattle.cp_shapes.proofs.rows.row_of.Given as goal

abbrev pub invariant-loop-shape : goal.invariant-loop-shape
invariant-loop-shape l = IsRowTo (map (λ k. k.now) l.candidates) l.instance l.row.items l.shape
