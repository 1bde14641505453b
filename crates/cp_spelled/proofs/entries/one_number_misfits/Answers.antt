use Rattle.std.specs.Prelude.{[]}
use Rattle.cp_report.specs.Misfits.{any_number_misfits}
use Rattle.cp_spelled.proofs.InOrder.{entry-taken}
use Rattle.cp_spelled.proofs.entries.one_number_misfits.Goals as goal

pub returns : goal.returns
returns c =
    entry-taken (any_number_misfits) ([]) c.args.place c.args.items.now c.in-Some.rest.now c.in-Some.number.now c.args.first.now c.any_number_misfits.new.first c.no_more.new.first
    c.in-Some.ensures.cases.0 c.any_number_misfits.ensures (c.no_more.ensures c.args.place)
