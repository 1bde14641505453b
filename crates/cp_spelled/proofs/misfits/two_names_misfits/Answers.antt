use Rattle.std.specs.Prelude.{[], ◌∷◌}
use Rattle.cp_model.specs.declared.sort.Sort.TheVariants.{Name as name_sort}
use Rattle.cp_report.specs.Spelled.{variable_misfits}
use Rattle.cp_spelled.specs.Views.{scope_view}
use Rattle.cp_spelled.proofs.InOrder.{entry-taken}
use Rattle.cp_spelled.proofs.misfits.two_names_misfits.Goals as goal

pub returns : goal.returns
returns c =
    entry-taken (variable_misfits (scope_view c.args.scope) name_sort) (variable_misfits (scope_view c.args.scope) name_sort ∷ []) c.args.place c.args.items.now c.in-Some.rest.now c.in-Some.item.now c.args.first.now c.variable_misfits.new.first c.one_variable_misfits.new.first
    c.in-Some.ensures.cases.0 c.variable_misfits.ensures c.one_variable_misfits.ensures
