use Rattle.cp_language.specs.ShapesText.{chosen_from}
use Rattle.cp_print.specs.Chosen.{chosen_by}
use Rattle.cp_print.specs.WrittenForms.{Leaves}
use Rattle.cp_print.proofs.Entries.{labels_left}
use Rattle.cp_print.proofs.report.put_labels.Given as goal

abbrev pub invariant-loop-number : goal.invariant-loop-number
invariant-loop-number l =
    Leaves l.fn.out.items l.fn.ends.items l.out.items l.ends.items (chosen_from (chosen_by l.chosen) l.of_problem 0 l.labels) (labels_left (chosen_by l.chosen) l.of_problem l.number l.labels)
