use Rattle.std.proofs.Common.{[], map, ap, ◌∙◌}
use Rattle.cp_language.specs.Input.{entries_from}
use Rattle.cp_report.specs.ReadBack.{Sections}
use Rattle.cp_readback.specs.Sections.{section_view, sections_view}
use Rattle.cp_readback.specs.Reports.{forms_in}
use Rattle.cp_readback.proofs.Reported.{misfit-found}
use Rattle.cp_readback.proofs.report.judge.Goals as goal

pub returns-clause-sections : goal.returns-clause-sections
returns-clause-sections c = ap (λ (t : Sections). t.sections) c.in_ok-front.ensures

pub returns-clause-entries : goal.returns-clause-entries
returns-clause-entries c =
    c.in_ok-unchecked_entries.ensures.entries ∙ ap (λ ss. entries_from [] (forms_in (map section_view ss))) c.deref.ensures.value ∙ ap (λ (t : Sections). entries_from [] (forms_in t.sections)) c.in_ok-front.ensures

pub returns-clause-misfit : goal.returns-clause-misfit
returns-clause-misfit c =
    c.found-misfit.ensures
    ∙ misfit-found c.args.forms.now (sections_view c.in_ok-front.field-0) c.in_ok-front.ensures (map section_view c.deref.result.now) (ap (map section_view) c.deref.ensures.value)
    c.first_place-start.result c.new-first.result c.none_may_stand.new.first c.stated_in.new.first c.note_fault.new.first c.new-faults.result c.stated_in.new.faults
    c.first_place-start.ensures c.new-first.ensures c.new-faults.ensures c.none_may_stand.ensures c.in_ok-unchecked_entries.ensures.misfits c.in_ok-unchecked_entries.ensures.faults c.note_fault.ensures
