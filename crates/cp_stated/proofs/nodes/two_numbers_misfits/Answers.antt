use Rattle.std.proofs.Common.{[], ◌∷◌}
use Rattle.cp_report.specs.Misfits.{any_number_misfits}
use Rattle.cp_spelled.proofs.InOrder.{entry-taken}
use Rattle.cp_stated.proofs.nodes.two_numbers_misfits.Goals as goal

pub returns : goal.returns
returns c =
    entry-taken any_number_misfits (any_number_misfits ∷ []) c.args.place c.args.items.now c.in-Some.rest.now c.in-Some.number.now c.args.first.now c.any_number_misfits.new.first c.one_number_misfits.new.first
    c.in-Some.ensures.cases.0 c.any_number_misfits.ensures c.one_number_misfits.ensures
