use Rattle.std.specs.Prelude.{[]}
use Rattle.cp_report.specs.Spelled.{variable_misfits}
use Rattle.cp_spelled.specs.Views.{scope_view}
use Rattle.cp_spelled.proofs.InOrder.{entry-taken}
use Rattle.cp_spelled.proofs.misfits.one_variable_misfits.Goals as goal

pub returns : goal.returns
returns c =
    entry-taken (variable_misfits (scope_view c.args.scope) c.args.sort) ([]) c.args.place c.args.items.now c.in-Some.rest.now c.in-Some.item.now c.args.first.now c.variable_misfits.new.first c.no_more.new.first
    c.in-Some.ensures.cases.0 c.variable_misfits.ensures (c.no_more.ensures c.args.place)
