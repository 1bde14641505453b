use Rattle.std.proofs.Common.{sym, ap, ◌∙◌}
use Rattle.cp_sexpr.specs.View.{view}
use Rattle.cp_language.specs.Input.{problem_entry, stated}
use Rattle.cp_load.specs.UncheckedProblems.{unchecked_view, unchecked_entry_view}
use Rattle.cp_load.proofs.unchecked_problems.finished_entry.Goals as goal

pub finished-requires : goal.finished-requires
finished-requires c = c.requires (unchecked_view c.in-Problem.problem) (ap (λ u. stated (unchecked_entry_view u)) c.in-Problem.is)

pub returns-in-Problem : goal.returns-in-Problem
returns-in-Problem c = ap (problem_entry (view c.in-Problem.form.now)) c.finished.ensures ∙ ap unchecked_entry_view (sym c.in-Problem.is)
