use Rattle.std.proofs.Common.{[], ◌∷◌, ap, ◌∙◌}
use Rattle.cp_report.specs.Misfits.{entries_misfits}
use Rattle.cp_report.specs.Skeletons.{node_misfits}
use Rattle.cp_spelled.specs.FirstMisfit.{first_onto}
use Rattle.cp_spelled.proofs.InOrder.{list-read}
use Rattle.cp_stated.proofs.order.nodes_misfits.Goals as goal

pub returns : goal.returns
returns c =
    let kind = node_misfits c.args.strands.now in
    c.two_nodes_misfits.ensures
    ∙ ap (first_onto c.args.first.now) (list-read (entries_misfits (kind ∷ kind ∷ [])) c.args.form.now c.in-List.place c.in-List.items c.as_slice.result.now c.in-List.is c.as_slice.ensures.value)
