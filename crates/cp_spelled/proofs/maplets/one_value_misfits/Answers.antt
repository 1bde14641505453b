use Rattle.std.specs.Prelude.{[]}
use Rattle.cp_report.specs.Spelled.{value_misfits}
use Rattle.cp_spelled.specs.Views.{scope_view}
use Rattle.cp_spelled.proofs.InOrder.{entry-taken}
use Rattle.cp_spelled.proofs.maplets.one_value_misfits.Goals as goal

pub returns : goal.returns
returns c =
    entry-taken (value_misfits (scope_view c.args.scope) c.args.variable) ([]) c.args.place c.args.items.now c.in-Some.rest.now c.in-Some.term.now c.args.first.now c.value_misfits.new.first c.no_more.new.first
    c.in-Some.ensures.cases.0 c.value_misfits.ensures (c.no_more.ensures c.args.place)
