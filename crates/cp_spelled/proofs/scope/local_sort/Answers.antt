use Rattle.std.proofs.Common.{sym, ap, ◌∙◌}
use Rattle.std.specs.Prelude.{option_map}
use Rattle.cp_sexpr.specs.View.{view}
use Rattle.cp_report.specs.Spelled.{local_by}
use Rattle.cp_spelled.specs.Views.{scope_view}
use Rattle.cp_spelled.proofs.Scoped.{local-sort, no-local-sort}
use Rattle.cp_spelled.proofs.scope.local_sort.Goals as goal

pub returns-then-is_local : goal.returns-then-is_local
returns-then-is_local c =
    c.sort_of_local.ensures ∙ ap (option_map (λ l. l.sort)) c.local_by.ensures ∙ ap (λ fs. option_map (λ l. l.sort) (local_by fs)) c.items_behind.ensures
    ∙ local-sort (scope_view c.args.scope) (view c.args.form.now) (sym c.is_local.ensures ∙ c.if-is_local.true)

pub returns-else-is_local : goal.returns-else-is_local
returns-else-is_local c = no-local-sort (scope_view c.args.scope) (view c.args.form.now) (sym c.is_local.ensures ∙ c.if-is_local.false)
