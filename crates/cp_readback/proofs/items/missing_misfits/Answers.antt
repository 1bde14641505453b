use Rattle.std.proofs.Common.{Bool, ◌||◌, not, [], ◌∷◌, map, ap, ◌∙◌}
use Rattle.std.specs.Prelude.{codes}
use Rattle.cp_sexpr.specs.View.{view}
use Rattle.cp_language.specs.Problems.{is_known}
use Rattle.cp_scope.proofs.FirstOf as first
use Rattle.cp_report.specs.Misfits.{misfit_unless, place_before}
use Rattle.cp_report.specs.Heads.{item_with}
use Rattle.cp_report.specs.Labels.{wants_parent, has_children, has_mark}
use Rattle.cp_spelled.specs.FirstMisfit.{first_onto}
use Rattle.cp_readback.proofs.items.missing_misfits.Goals as goal

pub returns : goal.returns
returns c =
    let its = map view c.args.items.now in
    let at = c.args.place in
    let p = c.note_unless.new.self in
    let q = c.note_unless-2.new.self in
    let r = c.note_unless-3.new.self in
    first.first_then_four place_before c.args.first.now p q r c.note_unless-4.new.self
    (misfit_unless (is_known (item_with (codes "by" ∷ []) its)) at) (misfit_unless (is_known (item_with (codes "map" ∷ []) its)) at) (misfit_unless (has_children its || has_mark its) at)
    (misfit_unless (not (wants_parent its) || is_known (item_with (codes "parent" ∷ []) its)) at)
    (c.note_unless.ensures ∙ ap (λ (b : Bool). first_onto c.args.first.now (misfit_unless b at)) c.has_item.ensures)
    (c.note_unless-2.ensures ∙ ap (λ (b : Bool). first_onto p (misfit_unless b at)) c.has_item-2.ensures)
    (c.note_unless-3.ensures ∙ ap (λ (b : Bool). first_onto q (misfit_unless b at)) c.is_ended.ensures)
    (c.note_unless-4.ensures ∙ ap (λ (b : Bool). first_onto r (misfit_unless b at)) c.has_parent_if_wanted.ensures)
