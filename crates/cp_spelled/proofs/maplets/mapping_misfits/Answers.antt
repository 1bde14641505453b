use Rattle.std.proofs.Common.{map, ap, ◌∙◌}
use Rattle.std.specs.Prelude.{[]}
use Rattle.cp_sexpr.specs.View.{view}
use Rattle.cp_report.specs.Misfits.{misfit_unless}
use Rattle.cp_report.specs.Skeletons.{identifier_of, maplets_misfits, are_mapped}
use Rattle.cp_spelled.specs.FirstMisfit.{first_onto, onto_none}
use Rattle.cp_spelled.specs.Views.{scope_view}
use Rattle.cp_spelled.proofs.Firsts.{merged-unless}
use Rattle.cp_spelled.proofs.maplets.mapping_misfits.Goals as goal

pub returns : goal.returns
returns c =
    let wanted = c.args.wanted.now in
    let maplets = map view c.args.maplets.now in
    let mapped = c.are_mapped.ensures ∙ ap (λ ds. are_mapped ds c.in_ok-mapped.mapped) c.as_slice.ensures ∙ ap (are_mapped wanted) c.in_ok-mapped.ensures.mapped in
    merged-unless c.args.first.now c.maplets_misfits.new.first c.note_unless_misfit.new.self c.merge.new.self
    (maplets_misfits (scope_view c.args.scope) wanted [] maplets) (misfit_unless (are_mapped wanted (map identifier_of maplets)) c.args.place)
    (c.in_ok-mapped.ensures.misfits ∙ ap (λ o. first_onto o (maplets_misfits (scope_view c.args.scope) wanted [] maplets)) c.new-inner.ensures)
    (c.note_unless_misfit.ensures ∙ ap (λ b. onto_none c.maplets_misfits.new.first (misfit_unless b c.args.place)) mapped)
    c.merge.ensures
