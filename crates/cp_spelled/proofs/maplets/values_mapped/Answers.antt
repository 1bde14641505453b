use Rattle.std.proofs.Common.{rules, map, ◌∙◌}
use Rattle.std.proofs.lemmas.Result.{IfOk-weaker}
use Rattle.cp_model.specs.declared.variable.Declaration.{Declaration}
use Rattle.cp_sexpr.specs.View.{view}
use Rattle.cp_report.specs.Skeletons.{value_mapped}
use Rattle.cp_spelled.specs.Views.{scope_view}
use Rattle.cp_lists.proofs.Collected.{made_from_slice}
use Rattle.cp_spelled.proofs.Mapped.{each-value}
use Rattle.cp_spelled.proofs.maplets.values_mapped.Goals as goal

pub returns : goal.returns
returns c =
    let s = scope_view c.args.scope in
    let forms = map view c.args.maplets.now in
    IfOk-weaker c.try_collect.result _ _ (λ v e. e ∙ each-value s forms c.args.wanted.now)
    (made_from_slice (λ (d : Declaration). value_mapped s d.identifier forms) (λ d. d) c.args.wanted.now c.try_collect.result (λ x y q k. search (rules, c.in_ok-identifiers.ensures))
    c.try_collect.ensures.runs c.map.ensures.runs c.iter.ensures.runs c.iter.ensures.rest)
