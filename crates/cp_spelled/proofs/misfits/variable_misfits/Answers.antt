use Rattle.std.proofs.Common.{ap, ◌∙◌, if◌then◌else◌}
use Rattle.std.specs.Prelude.{[]}
use Rattle.cp_sexpr.specs.View.{view}
use Rattle.cp_language.specs.Faults.{place_of}
use Rattle.cp_report.specs.Misfits.{misfit_unless}
use Rattle.cp_report.specs.Heads.{forms_after_head}
use Rattle.cp_report.specs.Spelled.{is_local, is_found_of_sort, local_misfits, variable_in}
use Rattle.cp_spelled.specs.FirstMisfit.{first_onto, onto_none}
use Rattle.cp_spelled.specs.Views.{scope_view}
use Rattle.cp_spelled.proofs.Firsts.{merged-unless}
use Rattle.cp_spelled.proofs.misfits.variable_misfits.Goals as goal

pub returns : goal.returns
returns c =
    let s = scope_view c.args.scope in
    let f = view c.args.form.now in
    merged-unless c.args.first.now c.stated_local_misfits.new.first c.note_unless_misfit.new.self c.merge.new.self
    (if is_local s f then local_misfits (place_of f) (forms_after_head f) else []) (misfit_unless (is_found_of_sort c.args.sort (variable_in s f)) (place_of f))
    (c.stated_local_misfits.ensures ∙ ap (λ o. first_onto o (if is_local s f then local_misfits (place_of f) (forms_after_head f) else [])) c.new-inner.ensures)
    (c.note_unless_misfit.ensures ∙ ap (λ b. onto_none c.stated_local_misfits.new.first (misfit_unless b c.place_of.result)) c.is_variable_of.ensures
    ∙ ap (λ at. onto_none c.stated_local_misfits.new.first (misfit_unless (is_found_of_sort c.args.sort (variable_in s f)) at)) c.place_of.ensures)
    c.merge.ensures
