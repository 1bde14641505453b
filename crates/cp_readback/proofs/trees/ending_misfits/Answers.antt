use Rattle.std.proofs.Common.{List, map, sym, ap, ◌∙◌}
use Rattle.cp_sexpr.specs.View.{view}
use Rattle.cp_sexpr.specs.declared.form.Form as program
use Rattle.cp_report.specs.ReadBack.{places_of}
use Rattle.cp_spelled.specs.FirstMisfit.{first_onto}
use Rattle.cp_report.specs.Misfits.{place_before}
use Rattle.cp_scope.proofs.FirstOf.{first_then}
use Rattle.cp_readback.specs.Counts.{status_form_misfits, ending_form_misfits}
use Rattle.cp_readback.proofs.trees.ending_misfits.Goals as goal

pub returns : goal.returns
returns c =
    first_then place_before c.args.first.now c.status_misfits.new.first c.none_may_stand.new.first (status_form_misfits c.args.counts (view c.in-Some.status.now)) (places_of (map view c.in-Some.others.now)) c.status_misfits.ensures c.none_may_stand.ensures
    ∙ sym (ap (λ (fs : List program.Form). first_onto c.args.first.now (ending_form_misfits c.args.counts c.args.next (map view fs))) c.in-Some.ensures.cases.0)
