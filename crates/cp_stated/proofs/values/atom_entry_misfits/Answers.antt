use Rattle.std.proofs.Common.{ap, ◌∙◌}
use Rattle.std.specs.Prelude.{not}
use Rattle.cp_model.specs.Given.{has_atom}
use Rattle.cp_sexpr.specs.View.{view}
use Rattle.cp_language.specs.Faults.{place_of}
use Rattle.cp_report.specs.Misfits.{misfit_unless}
use Rattle.cp_report.specs.Spelled.{atom_misfits, atom_in}
use Rattle.cp_spelled.specs.FirstMisfit.{first_onto, onto_none}
use Rattle.cp_spelled.specs.Views.{scope_view}
use Rattle.cp_spelled.proofs.Firsts.{merged-unless}
use Rattle.cp_stated.proofs.values.atom_entry_misfits.Goals as goal

pub returns : goal.returns
returns c =
    let s = scope_view c.args.scope in
    let f = view c.args.form.now in
    let i = c.atom_misfits.new.first in
    let before = c.args.before.now in
    merged-unless c.args.first.now i c.note_unless_misfit.new.self c.merge.new.self (atom_misfits s f) (misfit_unless (not (has_atom before (atom_in s f))) (place_of f))
    (c.atom_misfits.ensures ∙ ap (λ o. first_onto o (atom_misfits s f)) c.new-inside.ensures)
    (c.note_unless_misfit.ensures ∙ ap (λ at. onto_none i (misfit_unless (not c.has_atom.result) at)) c.place_of.ensures
    ∙ ap (λ b. onto_none i (misfit_unless (not b) (place_of f))) (c.has_atom.ensures ∙ ap (has_atom before) c.requires))
    c.merge.ensures
