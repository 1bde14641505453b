use Rattle.std.proofs.Common.{Bool, not, [], ◌∷◌, map, refl, ap, ◌∙◌}
use Rattle.std.specs.Prelude.{codes}
use Rattle.cp_sexpr.specs.View.{view}
use Rattle.cp_report.specs.Misfits.{misfit_unless}
use Rattle.cp_report.specs.Heads.{forms_after_head, item_with}
use Rattle.cp_report.specs.Labels.{makes_root, no_parent_misfits}
use Rattle.cp_spelled.specs.FirstMisfit.{first_onto}
use Rattle.cp_stated.proofs.Entered.{item-asked, item-missing}
use Rattle.cp_readback.proofs.items.no_parent_misfits.Goals as goal

pub returns-in_default : goal.returns-in_default
returns-in_default c = item-missing (no_parent_misfits (map view c.args.items.now)) _ c.args.first.now c.in_default.ensures

pub returns : goal.returns
returns c =
    let its = map view c.args.items.now in
    let f = view c.in-Some.item.now in
    item-asked (no_parent_misfits its) f (item_with (codes "parent" ∷ []) its) c.place_of.result (forms_after_head f) c.args.first.now c.note_unless.new.self c.in-Some.ensures c.place_of.ensures refl
    (c.note_unless.ensures ∙ ap (λ (b : Bool). first_onto c.args.first.now (misfit_unless (not b) c.place_of.result)) (c.makes_root.ensures ∙ ap makes_root c.word_of_label.ensures))
