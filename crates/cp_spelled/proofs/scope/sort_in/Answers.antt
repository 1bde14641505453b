use Rattle.std.proofs.Common.{◌∙◌}
use Rattle.cp_sexpr.specs.View.{view}
use Rattle.cp_spelled.specs.Views.{scope_view}
use Rattle.cp_spelled.proofs.Scoped.{sort-variable, sort-shape}
use Rattle.cp_spelled.proofs.scope.sort_in.Goals as goal

pub returns-in-Some : goal.returns-in-Some
returns-in-Some c = sort-variable (scope_view c.args.scope) (view c.args.form.now) c.in-Some.sort c.in-Some.ensures

pub returns-in-None : goal.returns-in-None
returns-in-None c = c.sort_by_shape.ensures ∙ sort-shape (scope_view c.args.scope) (view c.args.form.now) c.in-None.ensures
