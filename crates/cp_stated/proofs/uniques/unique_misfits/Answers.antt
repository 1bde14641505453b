use Rattle.std.proofs.Common.{[], ◌∷◌, ◌≡◌, ap, ◌∙◌}
use Rattle.std.specs.Prelude.{not}
use Rattle.cp_model.specs.Given.{has_unique}
use Rattle.cp_sexpr.specs.View.{view}
use Rattle.cp_language.specs.Faults.{place_of}
use Rattle.cp_language.specs.Roles.{list_items}
use Rattle.cp_language.specs.Problems.{second_form}
use Rattle.cp_report.specs.Misfits.{misfit_unless, entries_misfits, list_misfits}
use Rattle.cp_report.specs.Spelled.{atom_misfits}
use Rattle.cp_report.specs.Skeletons.{node_misfits, may_be_origin, unique_of, second_place}
use Rattle.cp_spelled.specs.FirstMisfit.{first_onto, onto_none}
use Rattle.cp_spelled.specs.Views.{scope_view}
use Rattle.cp_stated.proofs.Unless.{unless-twice}
use Rattle.cp_stated.proofs.uniques.unique_misfits.Goals as goal

pub returns : goal.returns
returns c =
    let s = scope_view c.args.scope in
    let ks = c.args.strands.now in
    let f = view c.args.form.now in
    let u = unique_of s f in
    let before = c.args.before.now in
    let shape = list_misfits (entries_misfits (atom_misfits s ∷ node_misfits ks ∷ [])) f in
    let second = second_place f (second_form (list_items f)) in
    let i = c.entry_misfits.new.first in
    let j = c.note_unless_misfit.new.self in
    let origin : c.may_be_origin-originates.result ≡ may_be_origin ks u.value u.origin =
    c.may_be_origin-originates.ensures ∙ ap (λ v. may_be_origin ks v c.origin.result) (c.value.ensures ∙ ap (λ w. w.value) c.requires) ∙ ap (may_be_origin ks u.value) (c.origin.ensures ∙ ap (λ w. w.origin) c.requires) in
    unless-twice c.args.first.now i j c.note_unless_misfit-2.new.self c.merge.new.self shape (misfit_unless (may_be_origin ks u.value u.origin) second) (misfit_unless (not (has_unique before u)) (place_of f))
    (c.entry_misfits.ensures ∙ ap (λ o. first_onto o shape) c.new-inside.ensures)
    (c.note_unless_misfit.ensures ∙ ap (λ at. onto_none i (misfit_unless c.may_be_origin-originates.result at)) c.second_place.ensures ∙ ap (λ b. onto_none i (misfit_unless b second)) origin)
    (c.note_unless_misfit-2.ensures ∙ ap (λ at. onto_none j (misfit_unless (not c.has_unique.result) at)) c.place_of.ensures
    ∙ ap (λ b. onto_none j (misfit_unless (not b) (place_of f))) (c.has_unique.ensures ∙ ap (has_unique before) c.requires))
    c.merge.ensures
