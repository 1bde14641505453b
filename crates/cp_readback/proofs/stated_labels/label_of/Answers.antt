use Rattle.std.proofs.Common.{map, sym, ap, ◌∙◌, subst}
use Rattle.std.proofs.lemmas.Result.{IfOk-weaker}
use Rattle.cp_sexpr.specs.View.{view}
use Rattle.cp_load.specs.UncheckedProblems.{unchecked_view}
use Rattle.cp_report.specs.Labels.{label_by}
use Rattle.cp_readback.specs.Items.{HasFitting}
use Rattle.cp_readback.proofs.LabelParts.{scope-is}
use Rattle.cp_readback.proofs.stated_labels.label_of.Goals as goal

pub label_by-requires-clause-scope : goal.label_by-requires-clause-scope
label_by-requires-clause-scope c =
    scope-is (map view c.items_of_label-items.result.now) c.in_ok-variables.variables c.new-locals.result c.in_ok-variables.ensures c.new-locals.ensures

pub label_by-requires-clause-fits : goal.label_by-requires-clause-fits
label_by-requires-clause-fits c = subst (HasFitting (unchecked_view c.args.problem.now)) (sym c.items_of_label-items.ensures) c.requires.fits

pub returns : goal.returns
returns c = IfOk-weaker c.label_by.result _ _ (λ l h. h ∙ ap (label_by (unchecked_view c.args.problem.now)) c.items_of_label-items.ensures) c.label_by.ensures
