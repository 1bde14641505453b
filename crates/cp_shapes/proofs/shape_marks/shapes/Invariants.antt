use Rattle.std.proofs.Common.{map}
use Rattle.cp_shapes.proofs.Gathered.{AreMarksTo}
use Rattle.cp_shapes.proofs.shape_marks.shapes.Given as goal

abbrev pub invariant-loop-row : goal.invariant-loop-row
invariant-loop-row l = AreMarksTo (map (λ k. k.now) l.fn.candidates) l.marks.items l.row-index
