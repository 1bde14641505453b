use Rattle.std.proofs.Common.{◌≡◌, map, drop}
use Rattle.cp_sexpr.specs.View.{view}
use Rattle.cp_report.specs.Heads.{item_with, mark_heads}
use Rattle.cp_items.proofs.heads.mark_item.Given as goal

abbrev pub invariant-loop-item : goal.invariant-loop-item
invariant-loop-item l = item_with mark_heads (map view (drop l.item-index l.items)) ≡ item_with mark_heads (map view l.items)
