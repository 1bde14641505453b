use Rattle.cp_language.specs.ShapesText.{chosen_report_forms}
use Rattle.cp_load.specs.Inputs.{input_entries}
use Rattle.cp_print.specs.Chosen.{chosen_by}
use Rattle.cp_print.specs.WrittenForms.{Leaves}
use Rattle.cp_print.proofs.Entries.{entries_left}
use Rattle.cp_print.proofs.report.put_report.Given as goal

abbrev pub invariant-loop-entry : goal.invariant-loop-entry
invariant-loop-entry l =
    Leaves l.fn.out.items l.fn.ends.items l.out.items l.ends.items (chosen_report_forms (chosen_by l.chosen) (input_entries l.input) l.trees)
    (entries_left (chosen_by l.chosen) l.entry-items l.entry-index l.rest)
