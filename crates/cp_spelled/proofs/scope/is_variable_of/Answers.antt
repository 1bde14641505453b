use Rattle.std.proofs.Common.{◌∙◌}
use Rattle.cp_sexpr.specs.View.{view}
use Rattle.cp_report.specs.Spelled.{variable_in}
use Rattle.cp_spelled.specs.Views.{scope_view}
use Rattle.cp_spelled.proofs.Scoped.{of-sort, of-no-sort}
use Rattle.cp_spelled.proofs.scope.is_variable_of.Goals as goal

pub returns-in-Some : goal.returns-in-Some
returns-in-Some c =
    c.is_same_sort.ensures ∙ of-sort c.args.sort c.in-Some.other (variable_in (scope_view c.args.scope) (view c.args.form.now)) c.in-Some.ensures

pub returns-in-None : goal.returns-in-None
returns-in-None c = of-no-sort c.args.sort (variable_in (scope_view c.args.scope) (view c.args.form.now)) c.in-None.ensures
