use Rattle.std.proofs.Common.{[], ◌∷◌, map}
use Rattle.std.specs.Prelude.{codes}
use Rattle.cp_sexpr.specs.View.{view}
use Rattle.cp_report.specs.Heads.{item_with}
use Rattle.cp_report.specs.Labels.{unrealised_misfits}
use Rattle.cp_stated.proofs.Entered.{item-asked, item-missing}
use Rattle.cp_readback.proofs.strand_items.unrealised_item_misfits.Goals as goal

pub returns-in_default : goal.returns-in_default
returns-in_default c = item-missing (unrealised_misfits c.args.strands.now) (item_with (codes "unrealised" ∷ []) (map view c.args.items.now)) c.args.first.now c.in_default.ensures

pub returns : goal.returns
returns c =
    item-asked (unrealised_misfits c.args.strands.now) (view c.in-Some.item.now) (item_with (codes "unrealised" ∷ []) (map view c.args.items.now)) c.place_of.result (map view c.items_behind.result.now)
    c.args.first.now c.unrealised_misfits.new.first c.in-Some.ensures c.place_of.ensures c.items_behind.ensures c.unrealised_misfits.ensures
