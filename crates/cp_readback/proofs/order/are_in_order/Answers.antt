use Rattle.std.proofs.Common.{map, ap, ◌∙◌}
use Rattle.std.specs.Prelude.{is_none}
use Rattle.cp_sexpr.specs.View.{view}
use Rattle.cp_report.specs.Heads.{lines_of_label, order_misfits}
use Rattle.cp_spelled.specs.FirstMisfit.{first_onto}
use Rattle.cp_items.proofs.FitItems.{fitting-found}
use Rattle.cp_readback.proofs.order.are_in_order.Goals as goal

pub returns : goal.returns
returns c =
    let asked = order_misfits lines_of_label (map view c.args.items.now) in
    c.is_none.ensures ∙ ap is_none (c.order_misfits.ensures ∙ ap (λ o. first_onto o asked) c.new-inside.ensures) ∙ fitting-found asked
