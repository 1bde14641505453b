use Rattle.std.proofs.Common.{◌≡◌, ◌++◌, map, drop}
use Rattle.cp_sexpr.specs.Syntax.{forms_of}
use Rattle.cp_sexpr.specs.View.{view}
use Rattle.cp_language.specs.Terms.{terms_of}
use Rattle.cp_scope.proofs.Sizes.{form_size}
use Rattle.cp_scope.proofs.terms.+term_of.Given as goal

abbrev pub decreases-term_of : goal.decreases-term_of
decreases-term_of l = form_size (view l.form.now)

abbrev pub invariant-loop-item : goal.invariant-loop-item
invariant-loop-item l =
    l.terms.items ++ terms_of l.variables (forms_of (map view (drop l.item-index l.list.items.now)))
    ≡ terms_of l.variables (forms_of (map view l.list.items.now))
