use Rattle.std.proofs.Common.{ℕ, List, drop}
use Rattle.cp_lists.specs.Lists.{IsIn}
use Rattle.cp_model.specs.Skeleton.{Skeleton}
use Rattle.cp_shapes.specs.Shapes.{IsInstanceOfShape}
use Rattle.cp_shapes.specs.Rows.{rows_view, IsRowOf, AreEmbeddingRowsOf}
use Rattle.cp_shapes.proofs.shape_marks.first_shape.Given as goal

-- a shape of the row is one of those that are left
abbrev pub invariant-loop-candidate : goal.invariant-loop-candidate
invariant-loop-candidate l = (ks : List Skeleton) (m : ℕ) → AreEmbeddingRowsOf ks (rows_view l.rows) → IsRowOf ks m l.row → (n : ℕ) → IsInstanceOfShape ks m n → IsIn n (drop l.candidate-index l.row)
