use Rattle.std.proofs.Common.{List, map, sym, subst, Ok}
use Rattle.cp_sexpr.specs.View.{views}
use Rattle.cp_report.specs.ReadBack.{IsReadBack}
use Rattle.cp_load.specs.Inputs.{problem_view, entry_view}
use Rattle.cp_load.specs.declared.input.Entry.{Entry}
use Rattle.cp_roots.specs.Over.{IsOver}
use Rattle.cpsa_check.proofs.Loaded.{problem_at}
use Rattle.cpsa_check.proofs.report_check.verdict_on_forms.Goals as goal

pub search-requires : goal.search-requires
search-requires c =
    let problem = c.in-Some.problem.now in
    let trees = c.in_ok-report.report.trees.items in
    let read = subst (λ (es : List Entry). IsReadBack (views c.args.forms.now) (Ok (record { entries = map entry_view es; trees = trees }))) (sym c.deref-entry-items.ensures.value) c.in_ok-report.ensures.read in
    let is = problem_at (views c.args.forms.now) c.deref-entry-items.result.now trees c.loop-entry.entry-index c.entry-item.result (problem_view problem) read c.loop-entry-test.true c.entry-item.is c.in-Some.ensures in
    record {
      over = subst (λ q. IsOver q problem.skeleton) (sym c.deref.ensures) is.over;
      own = is.own;
    }
