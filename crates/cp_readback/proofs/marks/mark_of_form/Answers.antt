use Rattle.std.proofs.Common.{ap, ◌∙◌}
use Rattle.std.specs.Prelude.{Some}
use Rattle.cp_report.specs.Labels.{mark_of}
use Rattle.cp_readback.proofs.marks.mark_of_form.Goals as goal

pub returns-in-Some : goal.returns-in-Some
returns-in-Some c = ap Some c.mark_by.ensures ∙ ap mark_of c.in-Some.ensures

pub returns-in-None : goal.returns-in-None
returns-in-None c = ap mark_of c.in-None.ensures
