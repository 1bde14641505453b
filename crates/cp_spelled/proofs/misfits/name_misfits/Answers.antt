use Rattle.std.proofs.Common.{map, ap, ◌∙◌}
use Rattle.std.specs.Prelude.{[], ◌∷◌}
use Rattle.cp_model.specs.declared.sort.Sort.TheVariants.{Name as name_sort}
use Rattle.cp_sexpr.specs.View.{view}
use Rattle.cp_report.specs.Spelled.{variables_misfits}
use Rattle.cp_spelled.specs.FirstMisfit.{first_onto}
use Rattle.cp_spelled.specs.Views.{scope_view}
use Rattle.cp_spelled.proofs.JudgedLists.{name-behind}
use Rattle.cp_spelled.proofs.misfits.name_misfits.Goals as goal

pub returns : goal.returns
returns c =
    c.one_variable_misfits.ensures
    ∙ ap (λ fs. first_onto c.args.first.now (variables_misfits (scope_view c.args.scope) (name_sort ∷ []) c.args.place fs)) c.behind_purpose.ensures
    ∙ ap (first_onto c.args.first.now) (name-behind (scope_view c.args.scope) c.args.place (map view c.args.items.now))
