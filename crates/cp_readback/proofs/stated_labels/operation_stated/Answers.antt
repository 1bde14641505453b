use Rattle.std.proofs.Common.{List, map, drop, ap, ◌∙◌}
use Rattle.std.proofs.lemmas.Result.{IfOk-weaker}
use Rattle.cp_sexpr.specs.Syntax.{Form}
use Rattle.cp_sexpr.specs.View.{view}
use Rattle.cp_report.specs.declared.operations.OperationWord.{OperationWord}
use Rattle.cp_report.specs.Labels.{word_of_label, operation_by}
use Rattle.cp_readback.proofs.stated_labels.operation_stated.Goals as goal

pub returns : goal.returns
returns c =
    IfOk-weaker c.operation_by.result _ _
    (λ o h. h ∙ ap (λ (w : OperationWord). operation_by w (map view c.later_items-behind.result.now)) c.word_of_label.ensures
    ∙ ap (λ (fs : List Form). operation_by (word_of_label (map view c.args.items.now)) fs) (c.later_items-behind.ensures ∙ ap (λ (fs : List Form). drop 1 fs) c.entries_under.ensures)) c.operation_by.ensures
