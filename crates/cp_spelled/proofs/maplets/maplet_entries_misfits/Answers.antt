use Rattle.std.proofs.Common.{[], ◌∷◌, ◌&&◌, map, ap, ◌∙◌, sym}
use Rattle.std.specs.Prelude.{not}
use Rattle.cp_sexpr.specs.View.{view}
use Rattle.cp_language.specs.Words.{is_one_of}
use Rattle.cp_language.specs.Terms.{variable_named}
use Rattle.cp_language.specs.Problems.{is_known, name_in_front}
use Rattle.cp_report.specs.Misfits.{symbol_misfits, entries_misfits}
use Rattle.cp_report.specs.Spelled.{value_misfits}
use Rattle.cp_spelled.specs.FirstMisfit.{first_onto}
use Rattle.cp_spelled.specs.Views.{scope_view}
use Rattle.cp_spelled.proofs.InOrder.{entry-taken}
use Rattle.cp_spelled.proofs.maplets.maplet_entries_misfits.Goals as goal

pub returns : goal.returns
returns c =
    let s = scope_view c.args.scope in
    let wanted = c.args.wanted.now in
    let rest = map view c.in-Some.rest.now in
    let variable = c.named-variable.ensures ∙ ap (variable_named wanted) (c.symbol_or_empty.ensures ∙ sym (ap (λ fs. name_in_front (map view fs)) c.in-Some.ensures.cases.0)) in
    entry-taken (symbol_misfits (λ t. is_known (variable_named wanted t) && not (is_one_of t c.args.before.now))) (value_misfits s (variable_named wanted (name_in_front (map view c.args.items.now))) ∷ [])
    c.args.place c.args.items.now c.in-Some.rest.now c.in-Some.identifier.now c.args.first.now c.identifier_misfits.new.first c.one_value_misfits.new.first
    c.in-Some.ensures.cases.0 c.identifier_misfits.ensures
    (c.one_value_misfits.ensures ∙ ap (λ v. first_onto c.identifier_misfits.new.first (entries_misfits (value_misfits s v ∷ []) c.args.place rest)) variable)
