use Rattle.std.proofs.Common.{ap, ◌∙◌}
use Rattle.cp_sexpr.specs.View.{view}
use Rattle.cp_report.specs.Spelled.{term_misfits}
use Rattle.cp_spelled.specs.FirstMisfit.{first_onto}
use Rattle.cp_spelled.specs.Own.{wanted_sort_misfits}
use Rattle.cp_spelled.specs.Views.{scope_view}
use Rattle.cp_report.specs.Misfits.{place_before}
use Rattle.cp_scope.proofs.FirstOf.{first_then}
use Rattle.cp_spelled.proofs.JudgedLists.{value-wanted}
use Rattle.cp_spelled.proofs.misfits.value_misfits.Goals as goal

pub returns : goal.returns
returns c =
    let s = scope_view c.args.scope in
    let x = c.args.variable in
    let f = view c.args.form.now in
    first_then place_before c.args.first.now c.wanted_sort_misfits.new.first c.term_misfits.new.first (wanted_sort_misfits s x f) (term_misfits s f) c.wanted_sort_misfits.ensures c.term_misfits.ensures
    ∙ ap (first_onto c.args.first.now) (value-wanted s x f)
