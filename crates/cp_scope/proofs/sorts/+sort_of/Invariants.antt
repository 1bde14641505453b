use Rattle.cp_sexpr.specs.View.{view}
use Rattle.cp_scope.proofs.Sizes.{form_size}
use Rattle.cp_scope.proofs.sorts.+sort_of.Given as goal

abbrev pub decreases-sort_of : goal.decreases-sort_of
decreases-sort_of l = form_size (view l.form.now)
