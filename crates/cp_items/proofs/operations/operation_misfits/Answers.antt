use Rattle.std.proofs.Common.{map, sym, ap, ◌∙◌}
use Rattle.cp_sexpr.specs.View.{view}
use Rattle.cp_report.specs.Misfits.{entries_misfits}
use Rattle.cp_report.specs.Labels.{operation_word}
use Rattle.cp_spelled.specs.FirstMisfit.{first_onto}
use Rattle.cp_items.specs.Parts.{operation_item_misfits, kinds_behind}
use Rattle.cp_items.proofs.FitItems.{first-read, first-refused, operation-fits, operation-unknown}
use Rattle.cp_items.proofs.operations.operation_misfits.Goals as goal

pub returns-then-names_operation : goal.returns-then-names_operation
returns-then-names_operation c =
    let rest = map view c.in-Some.rest.now in
    let named = c.operation_word-named.ensures ∙ ap operation_word c.symbol_or_empty.ensures in
    first-read (operation_item_misfits c.args.strands c.args.place) c.args.items.now c.in-Some.rest.now c.in-Some.word.now c.args.first.now c.behind_word_misfits.new.first _ c.in-Some.ensures.cases.0
    (c.behind_word_misfits.ensures ∙ ap (λ w. first_onto c.args.first.now (entries_misfits (kinds_behind c.args.strands w rest) c.args.place rest)) named)
    (operation-fits c.args.strands c.args.place (view c.in-Some.word.now) rest (sym c.names_operation.ensures ∙ c.if-names_operation.true))

pub returns-else-names_operation : goal.returns-else-names_operation
returns-else-names_operation c =
    first-refused (operation_item_misfits c.args.strands c.args.place) c.args.items.now c.in-Some.rest.now c.in-Some.word.now c.args.first.now c.note-else-names_operation.new.self c.place_of.result c.in-Some.ensures.cases.0 c.note-else-names_operation.ensures c.place_of.ensures
    (operation-unknown c.args.strands c.args.place (view c.in-Some.word.now) (map view c.in-Some.rest.now) (sym c.names_operation.ensures ∙ c.if-names_operation.false))
