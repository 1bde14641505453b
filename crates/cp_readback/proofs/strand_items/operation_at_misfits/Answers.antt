use Rattle.std.proofs.Common.{List, map, drop, ap, ◌∙◌}
use Rattle.cp_sexpr.specs.Syntax.{Form}
use Rattle.cp_sexpr.specs.View.{view}
use Rattle.cp_report.specs.declared.operations.OperationWord.{OperationWord}
use Rattle.cp_report.specs.Labels.{word_of_label, operation_place_misfits}
use Rattle.cp_spelled.specs.FirstMisfit.{first_onto}
use Rattle.cp_readback.proofs.strand_items.operation_at_misfits.Goals as goal

pub returns : goal.returns
returns c =
    let ks = c.args.strands.now in
    let its = map view c.args.items.now in
    c.operation_place_misfits.ensures ∙ ap (λ (w : OperationWord). first_onto c.args.first.now (operation_place_misfits ks w (map view c.later_items-behind.result.now))) c.word_of_label.ensures
    ∙ ap (λ (fs : List Form). first_onto c.args.first.now (operation_place_misfits ks (word_of_label its) fs)) (c.later_items-behind.ensures ∙ ap (λ (fs : List Form). drop 1 fs) c.entries_under.ensures)
