use Rattle.std.proofs.Common.{[], ◌∷◌, ap, ◌∙◌}
use Rattle.std.proofs.lemmas.Result.{on_ok_weaker, on_err_weaker}
use Rattle.cp_language.specs.Names.{problem_names}
use Rattle.cp_language.specs.ShapesText.{chosen_from, chosen_tree_forms}
use Rattle.cp_load.specs.Inputs.{problem_view}
use Rattle.cp_language.specs.Report.{status_form}
use Rattle.cp_print.specs.Chosen.{chosen_by}
use Rattle.cp_print.proofs.Writings.{written_both, first_failed, second_failed}
use Rattle.cp_sexpr.proofs.Spelled.{OnErr-from}
use Rattle.cp_print.proofs.TreeForms.{tree_parts}
use Rattle.cp_print.proofs.report.put_tree.Goals as goal

pub returns-clause-ok : goal.returns-clause-ok
returns-clause-ok c =
    let names = c.deref.ensures.value ∙ c.in_ok-names.ensures ∙ ap (λ t. problem_names c.args.problem.now.declared t) c.variables.ensures in
    let parts = tree_parts (chosen_by c.args.chosen) (problem_view c.args.problem.now) c.args.tree.now c.deref.result.now c.as_slice.result.now names c.as_slice.ensures in
    on_ok_weaker c.put_status_form.result
    (λ h. written_both c.args.out.now.items c.args.ends.now.items c.put_labels.new.out.items c.put_labels.new.ends.items (chosen_from (chosen_by c.args.chosen) c.deref.result.now 0 c.as_slice.result.now) (status_form c.args.tree.now ∷ []) (chosen_tree_forms (chosen_by c.args.chosen) (problem_view c.args.problem.now) c.args.tree.now) parts c.put_status_form.new.out.items c.put_status_form.new.ends.items c.in_ok-put_labels.ensures.ok h)
    c.put_status_form.ensures.ok

pub returns-in_err-put_labels-clause-err : goal.returns-in_err-put_labels-clause-err
returns-in_err-put_labels-clause-err c =
    let names = c.deref.ensures.value ∙ c.in_ok-names.ensures ∙ ap (λ t. problem_names c.args.problem.now.declared t) c.variables.ensures in
    let parts = tree_parts (chosen_by c.args.chosen) (problem_view c.args.problem.now) c.args.tree.now c.deref.result.now c.as_slice.result.now names c.as_slice.ensures in
    OnErr-from c.from_residual-in_err-put_labels.result (first_failed c.args.out.now.items c.args.ends.now.items c.put_labels.new.out.items c.put_labels.new.ends.items (chosen_from (chosen_by c.args.chosen) c.deref.result.now 0 c.as_slice.result.now) (status_form c.args.tree.now ∷ []) (chosen_tree_forms (chosen_by c.args.chosen) (problem_view c.args.problem.now) c.args.tree.now) parts c.in_err-put_labels.ensures.err)

pub returns-clause-err : goal.returns-clause-err
returns-clause-err c =
    let names = c.deref.ensures.value ∙ c.in_ok-names.ensures ∙ ap (λ t. problem_names c.args.problem.now.declared t) c.variables.ensures in
    let parts = tree_parts (chosen_by c.args.chosen) (problem_view c.args.problem.now) c.args.tree.now c.deref.result.now c.as_slice.result.now names c.as_slice.ensures in
    on_err_weaker c.put_status_form.result
    (λ h. second_failed c.args.out.now.items c.args.ends.now.items c.put_labels.new.out.items c.put_labels.new.ends.items (chosen_from (chosen_by c.args.chosen) c.deref.result.now 0 c.as_slice.result.now) (status_form c.args.tree.now ∷ []) (chosen_tree_forms (chosen_by c.args.chosen) (problem_view c.args.problem.now) c.args.tree.now) parts c.put_status_form.new.out.items c.in_ok-put_labels.ensures.ok h)
    c.put_status_form.ensures.err
