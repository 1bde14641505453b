use Rattle.std.proofs.Common.{[], ◌∷◌, ◌++◌, map}
use Rattle.std.specs.Prelude.{option_map, codes}
use Rattle.cp_sexpr.specs.View.{view}
use Rattle.cp_report.specs.Misfits.{lacking}
use Rattle.cp_report.specs.Heads.{item_with}
use Rattle.cp_report.specs.Labels.{children_misfits}
use Rattle.cp_stated.proofs.Entered.{all-asked, item-missing}
use Rattle.cp_stated.proofs.Results.{when_ok}
use Rattle.cp_readback.specs.Families.{labels_of}
use Rattle.cp_readback.proofs.items.children_item_misfits.Goals as goal

pub returns-in_default : goal.returns-in_default
returns-in_default c =
    item-missing (λ q fs. lacking 1 q fs ++ children_misfits (option_map (λ f. labels_of f.now) c.args.tree) c.args.number [] fs) (item_with (codes "children" ∷ []) (map view c.args.items.now)) c.args.first.now c.in_default.ensures

pub returns : goal.returns
returns c =
    when_ok c.children_misfits.result
    (λ h. all-asked (children_misfits (option_map (λ f. labels_of f.now) c.args.tree) c.args.number []) (view c.in-Some.item.now) (item_with (codes "children" ∷ []) (map view c.args.items.now)) c.place_of.result (map view c.items_behind-entries.result.now)
    c.args.first.now c.lacking.new.first c.children_misfits.new.first c.in-Some.ensures c.place_of.ensures c.items_behind-entries.ensures c.lacking.ensures h) c.children_misfits.ensures

pub children_misfits-requires : goal.children_misfits-requires
children_misfits-requires c = c.requires
