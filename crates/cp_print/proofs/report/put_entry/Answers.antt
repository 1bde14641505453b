use Rattle.std.proofs.Common.{[], ◌∷◌, sym}
use Rattle.cp_language.specs.Input.{form_of, stated}
use Rattle.cp_language.specs.ShapesText.{chosen_tree_forms}
use Rattle.cp_load.specs.Inputs.{problem_view, entry_view}
use Rattle.cp_sexpr.specs.View.{view}
use Rattle.cp_sexpr.proofs.Spelled.{OnErr-from}
use Rattle.cp_print.specs.Chosen.{chosen_by}
use Rattle.cp_print.specs.WrittenForms.{entry_forms}
use Rattle.cp_print.proofs.Entries.{entry_failed, entry_is}
use Rattle.cp_print.proofs.Writings.{second_failed}
use Rattle.cp_print.proofs.report.put_entry.Goals as goal

pub returns-in_err-put-clause-err : goal.returns-in_err-put-clause-err
returns-in_err-put-clause-err c =
    let d = entry_view c.args.entry.now in
    OnErr-from c.from_residual.result
    (entry_failed (chosen_by c.args.chosen) (form_of d) (view c.form.result.now) c.form.ensures (stated d) c.args.trees.now c.args.out.now.items c.put.new.out.items c.in_err-put.ensures.err)

pub returns-in_err-put_tree-clause-err : goal.returns-in_err-put_tree-clause-err
returns-in_err-put_tree-clause-err c =
    let chosen = chosen_by c.args.chosen in
    let d = entry_view c.args.entry.now in
    let f = view c.form.result.now in
    let p = problem_view c.in-Some.problem.now in
    let tree = c.in-Some-split_first.tree.now in
    let is = entry_is chosen (form_of d) f c.form.ensures (stated d) c.args.trees.now p tree c.in-Some-split_first.rest.now (sym c.in-Some.ensures) c.in-Some-split_first.ensures.cases.0 in
    OnErr-from c.from_residual-in_err-put_tree.result
    (second_failed c.args.out.now.items c.args.ends.now.items c.put.new.out.items c.put.new.ends.items (f ∷ []) (chosen_tree_forms chosen p tree) (entry_forms chosen (form_of d) (stated d) c.args.trees.now) is
    c.put_tree.new.out.items c.in_ok-put.ensures.ok c.in_err-put_tree.ensures.err)
