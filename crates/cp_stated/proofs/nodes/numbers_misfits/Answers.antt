use Rattle.std.proofs.Common.{[], ◌∷◌, ap, ◌∙◌}
use Rattle.cp_report.specs.Misfits.{any_number_misfits, entries_misfits}
use Rattle.cp_spelled.specs.FirstMisfit.{first_onto}
use Rattle.cp_spelled.proofs.InOrder.{list-read}
use Rattle.cp_stated.proofs.nodes.numbers_misfits.Goals as goal

pub returns : goal.returns
returns c =
    c.two_numbers_misfits.ensures
    ∙ ap (first_onto c.args.first.now) (list-read (entries_misfits (any_number_misfits ∷ any_number_misfits ∷ [])) c.args.form.now c.in-List.place c.in-List.items c.as_slice.result.now c.in-List.is c.as_slice.ensures.value)
