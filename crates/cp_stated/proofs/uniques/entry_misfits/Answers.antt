use Rattle.std.proofs.Common.{[], ◌∷◌, ap, ◌∙◌}
use Rattle.cp_report.specs.Misfits.{entries_misfits}
use Rattle.cp_report.specs.Spelled.{atom_misfits}
use Rattle.cp_report.specs.Skeletons.{node_misfits}
use Rattle.cp_spelled.specs.FirstMisfit.{first_onto}
use Rattle.cp_spelled.specs.Views.{scope_view}
use Rattle.cp_spelled.proofs.InOrder.{list-read}
use Rattle.cp_stated.proofs.uniques.entry_misfits.Goals as goal

pub returns : goal.returns
returns c =
    c.value_and_node_misfits.ensures
    ∙ ap (first_onto c.args.first.now) (list-read (entries_misfits (atom_misfits (scope_view c.args.scope) ∷ node_misfits c.args.strands.now ∷ [])) c.args.form.now c.in-List.place c.in-List.items
    c.as_slice.result.now c.in-List.is c.as_slice.ensures.value)
