use Rattle.std.specs.Prelude.{[], ◌∷◌, not}
use Rattle.cp_language.specs.Words.{is_one_of}
use Rattle.cp_language.specs.Names.{identifiers_in}
use Rattle.cp_report.specs.Misfits.{symbol_misfits}
use Rattle.cp_report.specs.Spelled.{names_sort}
use Rattle.cp_spelled.proofs.InOrder.{entry-taken}
use Rattle.cp_spelled.proofs.variables.declaration_entries_misfits.Goals as goal

pub returns : goal.returns
returns c =
    entry-taken (symbol_misfits (λ t. not (is_one_of t (identifiers_in c.args.before.now)))) (symbol_misfits names_sort ∷ []) c.args.place c.args.items.now c.in-Some.rest.now c.in-Some.identifier.now c.args.first.now c.identifier_misfits.new.first c.one_sort_misfits.new.first
    c.in-Some.ensures.cases.0 c.identifier_misfits.ensures c.one_sort_misfits.ensures
