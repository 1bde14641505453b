use Rattle.std.proofs.Common.{[], ◌∷◌, map, sym, ap, ◌∙◌, if◌then◌else◌}
use Rattle.cp_sexpr.specs.View.{view}
use Rattle.cp_language.specs.Faults.{place_of}
use Rattle.cp_roles.specs.Named.{shared_roles_view}
use Rattle.cp_report.specs.Misfits.{entries_misfits}
use Rattle.cp_report.specs.Heads.{forms_after_head}
use Rattle.cp_report.specs.Spelled.{term_misfits}
use Rattle.cp_report.specs.Skeletons.{instance_misfits}
use Rattle.cp_spelled.specs.FirstMisfit.{first_onto}
use Rattle.cp_spelled.specs.Views.{scope_view}
use Rattle.cp_stated.proofs.Results.{when_ok}
use Rattle.cp_stated.proofs.instances.strand_misfits.Goals as goal

pub returns-then-has_head : goal.returns-then-has_head
returns-then-has_head c =
    let roles = shared_roles_view c.args.roles.now in
    let s = scope_view c.args.scope in
    let f = view c.args.form.now in
    let o = c.args.first.now in
    when_ok c.instance_misfits.result
    (λ h. h ∙ ap (λ at. first_onto o (instance_misfits roles s at (map view c.items_behind-items.result.now))) c.place_of-place.ensures ∙ ap (λ fs. first_onto o (instance_misfits roles s (place_of f) fs)) c.items_behind-items.ensures
    ∙ ap (λ b. first_onto o (if b then instance_misfits roles s (place_of f) (forms_after_head f) else entries_misfits (term_misfits s ∷ []) (place_of f) (forms_after_head f))) (sym (sym c.has_head.ensures ∙ c.if-has_head.true)))
    c.instance_misfits.ensures

pub returns : goal.returns
returns c =
    let roles = shared_roles_view c.args.roles.now in
    let s = scope_view c.args.scope in
    let f = view c.args.form.now in
    let o = c.args.first.now in
    c.one_term_misfits.ensures ∙ ap (λ at. first_onto o (entries_misfits (term_misfits s ∷ []) at (map view c.items_behind-items.result.now))) c.place_of-place.ensures
    ∙ ap (λ fs. first_onto o (entries_misfits (term_misfits s ∷ []) (place_of f) fs)) c.items_behind-items.ensures
    ∙ ap (λ b. first_onto o (if b then instance_misfits roles s (place_of f) (forms_after_head f) else entries_misfits (term_misfits s ∷ []) (place_of f) (forms_after_head f))) (sym (sym c.has_head.ensures ∙ c.if-has_head.false))
