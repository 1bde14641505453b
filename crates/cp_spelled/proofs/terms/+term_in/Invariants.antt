use Rattle.std.proofs.Common.{◌≡◌, ◌++◌, map, drop}
use Rattle.cp_sexpr.specs.Syntax.{forms_of}
use Rattle.cp_sexpr.specs.View.{view}
use Rattle.cp_report.specs.Spelled.{terms_in}
use Rattle.cp_scope.proofs.Sizes.{form_size}
use Rattle.cp_spelled.specs.Views.{scope_view}
use Rattle.cp_spelled.proofs.terms.+term_in.Given as goal

abbrev pub decreases-term_in : goal.decreases-term_in
decreases-term_in l = form_size (view l.form.now)

abbrev pub invariant-loop-item : goal.invariant-loop-item
invariant-loop-item l =
    l.terms.items ++ terms_in (scope_view l.scope) (forms_of (map view (drop l.item-index l.list.items.now)))
    ≡ terms_in (scope_view l.scope) (forms_of (map view l.list.items.now))
