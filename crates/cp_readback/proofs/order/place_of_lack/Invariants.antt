use Rattle.std.proofs.Common.{◌≡◌, map, drop}
use Rattle.cp_sexpr.specs.View.{view}
use Rattle.cp_report.specs.Misfits.{first_or}
use Rattle.cp_report.specs.Heads.{lines_of_label, order_misfits}
use Rattle.cp_readback.specs.Lines.{line_view}
use Rattle.cp_readback.proofs.order.place_of_lack.Given as goal

abbrev pub invariant-loop-item : goal.invariant-loop-item
invariant-loop-item l =
    first_or l.place (order_misfits (map line_view l.lines) (map view (drop l.item-index l.items))) ≡ first_or l.place (order_misfits lines_of_label (map view l.items))
