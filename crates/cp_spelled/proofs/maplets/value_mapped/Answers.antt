use Rattle.std.proofs.Common.{map, ap, ◌∙◌}
use Rattle.std.proofs.lemmas.Result.{IfOk-weaker}
use Rattle.cp_sexpr.specs.View.{view}
use Rattle.cp_spelled.specs.Own.{value_of_item}
use Rattle.cp_spelled.specs.Views.{scope_view}
use Rattle.cp_spelled.proofs.Mapped.{value-missing, value-found}
use Rattle.cp_spelled.proofs.maplets.value_mapped.Goals as goal

pub returns-in_default : goal.returns-in_default
returns-in_default c =
    IfOk-weaker c.no_term.result _ _
    (λ t h same. h ∙ value-missing (scope_view c.args.scope) c.args.identifier.now (map view c.args.maplets.now) c.args.identifiers.now same c.in_default.ensures) c.no_term.ensures

pub returns : goal.returns
returns c =
    let s = scope_view c.args.scope in
    IfOk-weaker c.item_value.result _ _
    (λ t h same. h ∙ ap (value_of_item s) c.item_at.ensures ∙ value-found s c.args.identifier.now (map view c.args.maplets.now) c.args.identifiers.now c.in-Some.place same c.in-Some.ensures) c.item_value.ensures
