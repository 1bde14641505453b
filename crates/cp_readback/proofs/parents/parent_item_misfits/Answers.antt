use Rattle.std.proofs.Common.{[], ◌∷◌, map, sym, ap, ◌∙◌}
use Rattle.std.specs.Prelude.{option_map, codes}
use Rattle.cp_sexpr.specs.View.{view}
use Rattle.cp_report.specs.Misfits.{number_misfits}
use Rattle.cp_report.specs.Heads.{item_with}
use Rattle.cp_report.specs.Labels.{has_child_in, parent_misfits}
use Rattle.cp_spelled.specs.FirstMisfit.{first_onto}
use Rattle.cp_spelled.proofs.InOrder.{entry-taken}
use Rattle.cp_stated.proofs.Entered.{item-asked, item-missing, no-entries}
use Rattle.cp_readback.specs.Families.{labels_of}
use Rattle.cp_readback.proofs.parents.parent_item_misfits.Goals as goal

pub returns-in_default : goal.returns-in_default
returns-in_default c =
    item-missing (parent_misfits (option_map (λ f. labels_of f.now) c.args.tree) c.args.label) (item_with (codes "parent" ∷ []) (map view c.args.items.now)) c.args.first.now c.in_default.ensures

pub returns-in_default-split_first : goal.returns-in_default-split_first
returns-in_default-split_first c =
    let asked = parent_misfits (option_map (λ f. labels_of f.now) c.args.tree) c.args.label in
    item-asked asked (view c.in-Some.item.now) (item_with (codes "parent" ∷ []) (map view c.args.items.now)) c.place_of-place.result (map view c.items_behind.result.now)
    c.args.first.now c.note.new.self c.in-Some.ensures c.place_of-place.ensures c.items_behind.ensures
    (c.note.ensures ∙ ap (λ fs. first_onto c.args.first.now (asked c.place_of-place.result fs)) (sym (no-entries c.items_behind.result.now c.in_default-split_first.ensures.cases)))

pub returns : goal.returns
returns c =
    let tree = option_map (λ f. labels_of f.now) c.args.tree in
    item-asked (parent_misfits tree c.args.label) (view c.in-Some.item.now) (item_with (codes "parent" ∷ []) (map view c.args.items.now)) c.place_of-place.result (map view c.items_behind.result.now)
    c.args.first.now c.no_more.new.first c.in-Some.ensures c.place_of-place.ensures c.items_behind.ensures
    (entry-taken (number_misfits (has_child_in tree c.args.label)) [] c.place_of-place.result c.items_behind.result.now c.in-Some-split_first.rest.now c.in-Some-split_first.number.now
    c.args.first.now c.parent_number_misfits.new.first c.no_more.new.first c.in-Some-split_first.ensures.cases.0 c.parent_number_misfits.ensures (c.no_more.ensures c.place_of-place.result))
