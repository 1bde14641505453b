use Rattle.std.proofs.Common.{◌∙◌, length, ap, arith, refl}
use mir.Val.{bool_byte}
use Rattle.cp_language.specs.Report.{shape_count}
use Rattle.cp_model.specs.Tree.{expanded_count}
use Rattle.cp_app.proofs.BenchTotals.{no_totals, one_of, byte_few, totals_next, totals_done}
use Rattle.cp_app.proofs.bench.sums_over.Goals as goal

pub loop-tree-init : goal.loop-tree-init
loop-tree-init c = no_totals c.args.trees.now _ refl refl refl refl

pub returns : goal.returns
returns c = totals_done c.args.trees.now c.loop-tree.tree-index c.loop-tree.all c.loop-tree-test.false c.loop-tree.invariant

pub loop-tree-preserved : goal.loop-tree-preserved
loop-tree-preserved c =
    totals_next c.args.trees.now c.loop-tree.tree-index c.tree-item.result c.loop-tree.all _ (length c.as_slice-labels.result.now) c.expanded_count.result c.shape_count.result (bool_byte c.is_complete.result) c.loop-tree-test.true c.tree-item.is c.loop-tree.invariant
    (ap length c.as_slice-labels.ensures) (c.expanded_count.ensures ∙ ap expanded_count c.as_slice-labels.ensures) (c.shape_count.ensures ∙ ap shape_count c.as_slice-labels.ensures)
    (ap bool_byte c.is_complete.ensures ∙ one_of c.tree-item.result.outcome) (omega arith) c.expanded_count.type_inv c.shape_count.type_inv (byte_few c.is_complete.result) refl refl refl refl
