use Rattle.std.proofs.Common.{◌≡◌, Some, map, ap, ◌∙◌}
use Rattle.cp_sexpr.specs.View.{view}
use Rattle.cp_report.specs.ReadBack.{sections_of}
use Rattle.cp_readback.specs.Sections.{section_view}
use Rattle.cp_readback.specs.Reports.{forms_in, all_unchecked_view}
use Rattle.cp_readback.proofs.Reported.{read-refused, problems-listed, trees-fit, unchecked_problems-fit, report-read, trees-are, protocols-are}
use Rattle.cp_readback.proofs.report.read_back.Goals as goal

pub returns-in-Some-clause-refused : goal.returns-in-Some-clause-refused
returns-in-Some-clause-refused c = λ p e.
    let same : c.in-Some.place ≡ p = cc in
    read-refused c.args.forms.now c.in_ok-sections.field-0.misfit p c.in_ok-sections.ensures.misfit (c.in-Some.is ∙ ap Some same)

pub trees_of-requires : goal.trees_of-requires
trees_of-requires c =
    let ss = (sections_of (map view c.args.forms.now)).sections in
    let listed = problems-listed c.in_ok-sections.field-0.unchecked_entries.items ss c.in_ok-sections.ensures.entries in
    record {
      trees = trees-fit c.args.forms.now c.in_ok-sections.field-0.misfit c.in_ok-sections.ensures.misfit c.in_default.is (all_unchecked_view c.deref-2.result.now) (map section_view c.deref.result.now)
          (ap all_unchecked_view c.deref-2.ensures.value ∙ listed) (ap (map section_view) c.deref.ensures.value ∙ c.in_ok-sections.ensures.sections);
    }

pub all_finished-requires : goal.all_finished-requires
all_finished-requires c =
    unchecked_problems-fit c.args.forms.now c.in_ok-sections.field-0.misfit c.in_ok-sections.ensures.misfit c.in_default.is c.in_ok-sections.field-0.sections.items c.in_ok-sections.field-0.unchecked_entries.items
    c.in_ok-sections.ensures.sections c.in_ok-sections.ensures.entries

pub returns-clause-read : goal.returns-clause-read
returns-clause-read c =
    let ss = (sections_of (map view c.args.forms.now)).sections in
    let us = c.in_ok-sections.field-0.unchecked_entries.items in
    report-read c.args.forms.now c.in_ok-sections.field-0.misfit c.in_ok-sections.ensures.misfit c.in_default.is _ c.in_ok-trees.trees.items (c.in_ok-entries.ensures ∙ c.in_ok-sections.ensures.entries)
    (trees-are ss (all_unchecked_view c.deref-2.result.now) (map section_view c.deref.result.now) c.in_ok-trees.trees.items
    (ap all_unchecked_view c.deref-2.ensures.value ∙ problems-listed us ss c.in_ok-sections.ensures.entries) (ap (map section_view) c.deref.ensures.value ∙ c.in_ok-sections.ensures.sections) c.in_ok-trees.ensures)

pub returns-clause-protocols : goal.returns-clause-protocols
returns-clause-protocols c = protocols-are (forms_in (sections_of (map view c.args.forms.now)).sections) _ (c.in_ok-entries.ensures ∙ c.in_ok-sections.ensures.entries)
