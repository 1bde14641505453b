use Rattle.std.proofs.Common.{[], ◌∷◌, map, ap, ◌∙◌}
use Rattle.std.specs.Prelude.{codes}
use Rattle.cp_sexpr.specs.View.{view}
use Rattle.cp_report.specs.Heads.{item_with}
use Rattle.cp_report.specs.Spelled.{Scope}
use Rattle.cp_report.specs.Skeletons.{scope_of}
use Rattle.cp_report.specs.Labels.{test_misfits}
use Rattle.cp_spelled.specs.FirstMisfit.{first_onto}
use Rattle.cp_stated.proofs.Entered.{item-asked, item-missing}
use Rattle.cp_readback.proofs.strand_items.test_item_misfits.Goals as goal

pub returns-in_default : goal.returns-in_default
returns-in_default c =
    let its = map view c.args.items.now in
    item-missing (test_misfits (scope_of its) c.args.strands.now) (item_with (codes "test" ∷ []) its) c.args.first.now c.in_default.ensures

pub returns : goal.returns
returns c =
    let its = map view c.args.items.now in
    let ks = c.args.strands.now in
    let fs = map view c.items_behind.result.now in
    item-asked (test_misfits (scope_of its) ks) (view c.in-Some.item.now) (item_with (codes "test" ∷ []) its) c.place_of.result fs
    c.args.first.now c.test_misfits.new.first c.in-Some.ensures c.place_of.ensures c.items_behind.ensures
    (c.test_misfits.ensures ∙ ap (λ (s : Scope). first_onto c.args.first.now (test_misfits s ks c.place_of.result fs)) c.requires)
