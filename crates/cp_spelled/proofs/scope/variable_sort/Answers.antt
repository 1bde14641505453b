use Rattle.std.proofs.Common.{ap, ◌∙◌}
use Rattle.std.specs.Prelude.{option_map}
use Rattle.cp_sexpr.specs.View.{view}
use Rattle.cp_spelled.specs.Views.{scope_view}
use Rattle.cp_spelled.proofs.Scoped.{variable-symbol, variable-other}
use Rattle.cp_spelled.proofs.scope.variable_sort.Goals as goal

pub returns-in-Some : goal.returns-in-Some
returns-in-Some c =
    c.named_sort.ensures ∙ ap (option_map (λ x. x.sort)) (variable-symbol (scope_view c.args.scope) (view c.args.form.now) c.in-Some.identifier.now c.in-Some.ensures)

pub returns-in-None : goal.returns-in-None
returns-in-None c = c.local_sort.ensures ∙ ap (option_map (λ x. x.sort)) (variable-other (scope_view c.args.scope) (view c.args.form.now) c.in-None.ensures)
