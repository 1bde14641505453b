use Rattle.std.proofs.Common.{map}
use Rattle.cp_shapes.specs.Rows.{rows_view}
use Rattle.cp_shapes.proofs.Gathered.{AreRowsTo}
use Rattle.cp_shapes.proofs.rows.rows.Given as goal

abbrev pub invariant-loop-instance : goal.invariant-loop-instance
invariant-loop-instance l = AreRowsTo (map (λ k. k.now) l.candidates) (rows_view l.rows.items) l.instance
