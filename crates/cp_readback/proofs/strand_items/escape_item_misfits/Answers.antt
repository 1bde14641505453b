use Rattle.std.proofs.Common.{Bool, List, [], ◌∷◌, map, ap, ◌∙◌}
use Rattle.std.specs.Prelude.{codes}
use Rattle.cp_model.specs.declared.variable.Declaration.{Declaration}
use Rattle.cp_sexpr.specs.View.{view}
use Rattle.cp_language.specs.Problems.{is_known}
use Rattle.cp_report.specs.Heads.{item_with}
use Rattle.cp_report.specs.Labels.{escape_misfits}
use Rattle.cp_spelled.specs.FirstMisfit.{first_onto}
use Rattle.cp_stated.proofs.Entered.{item-asked, item-missing}
use Rattle.cp_stated.proofs.Results.{when_ok}
use Rattle.cp_items.specs.Parts.{escape_item_misfits}
use Rattle.cp_readback.proofs.strand_items.escape_item_misfits.Goals as goal

pub returns-in_default : goal.returns-in_default
returns-in_default c = item-missing (escape_misfits (map view c.args.items.now)) _ c.args.first.now c.in_default.ensures

pub returns : goal.returns
returns c =
    let its = map view c.args.items.now in
    let at = c.place_of.result in
    let fs = map view c.items_behind.result.now in
    when_ok c.escape_misfits.result
    (λ h. item-asked (escape_misfits its) (view c.in-Some.item.now) (item_with (codes "escape" ∷ []) its) at fs c.args.first.now c.escape_misfits.new.first c.in-Some.ensures c.place_of.ensures c.items_behind.ensures
    (h ∙ ap (λ (b : Bool). first_onto c.args.first.now (escape_item_misfits b c.args.variables.now at fs)) c.has_item-has_test.ensures
    ∙ ap (λ (ds : List Declaration). first_onto c.args.first.now (escape_item_misfits (is_known (item_with (codes "test" ∷ []) its)) ds at fs)) c.requires)) c.escape_misfits.ensures
