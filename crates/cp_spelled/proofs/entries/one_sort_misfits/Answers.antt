use Rattle.std.specs.Prelude.{[]}
use Rattle.cp_report.specs.Misfits.{symbol_misfits}
use Rattle.cp_report.specs.Spelled.{names_sort}
use Rattle.cp_spelled.proofs.InOrder.{entry-taken}
use Rattle.cp_spelled.proofs.entries.one_sort_misfits.Goals as goal

pub returns : goal.returns
returns c =
    entry-taken (symbol_misfits names_sort) ([]) c.args.place c.args.items.now c.in-Some.rest.now c.in-Some.sort.now c.args.first.now c.sort_symbol_misfits.new.first c.no_more.new.first
    c.in-Some.ensures.cases.0 c.sort_symbol_misfits.ensures (c.no_more.ensures c.args.place)
