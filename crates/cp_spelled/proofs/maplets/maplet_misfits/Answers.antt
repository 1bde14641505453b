use Rattle.std.proofs.Common.{ap, ◌∙◌}
use Rattle.cp_report.specs.Skeletons.{maplet_misfits}
use Rattle.cp_spelled.specs.FirstMisfit.{first_onto}
use Rattle.cp_spelled.specs.Views.{scope_view}
use Rattle.cp_spelled.proofs.InOrder.{list-read}
use Rattle.cp_spelled.proofs.maplets.maplet_misfits.Goals as goal

pub returns : goal.returns
returns c =
    c.maplet_entries_misfits.ensures
    ∙ ap (first_onto c.args.first.now)
    (list-read (maplet_misfits (scope_view c.args.scope) c.args.wanted.now c.args.before.now)
    c.args.form.now c.in-List.place c.in-List.items c.as_slice.result.now c.in-List.is c.as_slice.ensures.value)
