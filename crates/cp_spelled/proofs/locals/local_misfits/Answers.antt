use Rattle.std.specs.Prelude.{[], ◌∷◌}
use Rattle.cp_report.specs.Misfits.{symbol_misfits, any_number_misfits}
use Rattle.cp_report.specs.Spelled.{names_sort}
use Rattle.cp_spelled.proofs.InOrder.{entry-taken}
use Rattle.cp_spelled.proofs.locals.local_misfits.Goals as goal

pub returns : goal.returns
returns c =
    entry-taken (symbol_misfits names_sort) (any_number_misfits ∷ []) c.args.place c.args.items.now c.in-Some.rest.now c.in-Some.sort.now c.args.first.now c.sort_symbol_misfits.new.first c.one_number_misfits.new.first
    c.in-Some.ensures.cases.0 c.sort_symbol_misfits.ensures c.one_number_misfits.ensures
