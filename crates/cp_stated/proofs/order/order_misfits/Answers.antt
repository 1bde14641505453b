use Rattle.std.proofs.Common.{[], ◌∷◌, map}
use Rattle.std.specs.Prelude.{codes}
use Rattle.cp_sexpr.specs.View.{view}
use Rattle.cp_report.specs.Heads.{item_with}
use Rattle.cp_report.specs.Skeletons.{pairs_misfits, precedes_misfits}
use Rattle.cp_stated.proofs.Entered.{all-asked, item-missing}
use Rattle.cp_stated.proofs.Results.{when_ok}
use Rattle.cp_stated.proofs.order.order_misfits.Goals as goal

pub returns-in_default : goal.returns-in_default
returns-in_default c = item-missing (precedes_misfits c.args.strands.now) (item_with (codes "precedes" ∷ []) (map view c.args.items.now)) c.args.first.now c.in_default.ensures

pub returns : goal.returns
returns c =
    when_ok c.pairs_misfits.result
    (λ h. all-asked (pairs_misfits c.args.strands.now []) (view c.in-Some.item.now) (item_with (codes "precedes" ∷ []) (map view c.args.items.now)) c.place_of.result (map view c.items_behind-entries.result.now)
    c.args.first.now c.lacking.new.first c.pairs_misfits.new.first c.in-Some.ensures c.place_of.ensures c.items_behind-entries.ensures c.lacking.ensures h) c.pairs_misfits.ensures
