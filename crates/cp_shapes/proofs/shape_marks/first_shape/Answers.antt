use Rattle.std.proofs.Common.{sym, ◌∙◌}
use Rattle.std.proofs.lemmas.Grind.{get_or_default_zero}
use Rattle.cp_model.proofs.CarriedParts.{not_both}
use Rattle.cp_shapes.specs.Rows.{rows_view}
use Rattle.cp_shapes.proofs.Found.{row_tells, found_first, not_first, none_left}
use Rattle.cp_shapes.proofs.shape_marks.first_shape.Goals as goal

pub returns-then-is_shape : goal.returns-then-is_shape
returns-then-is_shape c = λ ks m are is.
    found_first ks m c.args.row.now is c.loop-candidate.candidate-index _ c.loop-candidate-test.true (sym (get_or_default_zero c.args.row.now c.loop-candidate.candidate-index _ c.loop-candidate-test.true))
    (c.loop-candidate.invariant ks m are is) ((row_tells ks (rows_view c.args.rows.now) are _).0 (sym c.is_shape.ensures ∙ c.if-is_shape.true))

pub loop-candidate-preserved : goal.loop-candidate-preserved
loop-candidate-preserved c = λ ks m are is.
    not_first ks m c.args.row.now is c.loop-candidate.candidate-index _ c.loop-candidate-test.true (sym (get_or_default_zero c.args.row.now c.loop-candidate.candidate-index _ c.loop-candidate-test.true))
    (c.loop-candidate.invariant ks m are is) (λ s. not_both (sym c.is_shape.ensures ∙ c.if-is_shape.false) ((row_tells ks (rows_view c.args.rows.now) are _).1 s))

pub returns : goal.returns
returns c = λ ks m are is.
    none_left ks m c.args.row.now c.loop-candidate.candidate-index c.loop-candidate-test.false (c.loop-candidate.invariant ks m are is)
