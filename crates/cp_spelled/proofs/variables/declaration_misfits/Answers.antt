use Rattle.std.specs.Prelude.{[], ◌∷◌, not}
use Rattle.std.proofs.Common.{ap, ◌∙◌}
use Rattle.cp_language.specs.Words.{is_one_of}
use Rattle.cp_language.specs.Names.{identifiers_in}
use Rattle.cp_report.specs.Misfits.{entries_misfits, symbol_misfits}
use Rattle.cp_report.specs.Spelled.{names_sort}
use Rattle.cp_spelled.specs.FirstMisfit.{first_onto}
use Rattle.cp_spelled.proofs.InOrder.{list-read}
use Rattle.cp_spelled.proofs.variables.declaration_misfits.Goals as goal

pub returns : goal.returns
returns c =
    c.declaration_entries_misfits.ensures
    ∙ ap (first_onto c.args.first.now)
    (list-read (entries_misfits (symbol_misfits (λ t. not (is_one_of t (identifiers_in c.args.before.now))) ∷ symbol_misfits names_sort ∷ []))
    c.args.form.now c.in-List.place c.in-List.items c.as_slice.result.now c.in-List.is c.as_slice.ensures.value)
