use Rattle.std.proofs.Common.{◌≡◌, ◌++◌, drop, map}
use Rattle.cp_sexpr.specs.Syntax.{forms_of}
use Rattle.cp_sexpr.specs.View.{view}
use Rattle.cp_report.specs.Spelled.{locals_in_each}
use Rattle.cp_scope.proofs.Sizes.{form_size}
use Rattle.cp_spelled.proofs.locals.+add_locals.Given as goal

abbrev pub decreases-add_locals : goal.decreases-add_locals
decreases-add_locals l = form_size (view l.form.now)

abbrev pub invariant-loop-item : goal.invariant-loop-item
invariant-loop-item l =
    l.out.items ++ locals_in_each (forms_of (map view (drop l.item-index l.forms)))
    ≡ l.initial.out.items ++ locals_in_each (forms_of (map view l.forms))
