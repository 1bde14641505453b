use Rattle.std.proofs.Common.{◌≡◌, map, drop}
use Rattle.cp_sexpr.specs.View.{view}
use Rattle.cp_language.specs.Roles.{each_faults}
use Rattle.cp_language.specs.Terms.{term_faults}
use Rattle.cp_scope.specs.FirstFault.{first_onto}
use Rattle.cp_scope.proofs.Sizes.{form_size}
use Rattle.cp_scope.proofs.faults.+term_faults.Given as goal

abbrev pub decreases-term_faults : goal.decreases-term_faults
decreases-term_faults l = form_size (view l.form.now)

abbrev pub invariant-loop-item : goal.invariant-loop-item
invariant-loop-item l =
    first_onto l.first (each_faults (term_faults l.variables) (map view (drop l.item-index l.item-items)))
    ≡ first_onto l.initial.first (each_faults (term_faults l.variables) (map view l.item-items))
