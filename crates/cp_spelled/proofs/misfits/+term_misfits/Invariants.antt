use Rattle.std.proofs.Common.{◌≡◌, map, drop}
use Rattle.cp_sexpr.specs.View.{view}
use Rattle.cp_report.specs.Misfits.{each_misfits}
use Rattle.cp_report.specs.Spelled.{term_misfits}
use Rattle.cp_scope.proofs.Sizes.{form_size}
use Rattle.cp_spelled.specs.FirstMisfit.{first_onto}
use Rattle.cp_spelled.specs.Views.{scope_view}
use Rattle.cp_spelled.proofs.misfits.+term_misfits.Given as goal

abbrev pub decreases-term_misfits : goal.decreases-term_misfits
decreases-term_misfits l = form_size (view l.form.now)

abbrev pub invariant-loop-item : goal.invariant-loop-item
invariant-loop-item l =
    first_onto l.first (each_misfits (term_misfits (scope_view l.scope)) (map view (drop l.item-index l.item-items)))
    ≡ first_onto l.initial.first (each_misfits (term_misfits (scope_view l.scope)) (map view l.item-items))
