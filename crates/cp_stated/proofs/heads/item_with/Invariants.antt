use Rattle.std.proofs.Common.{◌≡◌, ◌∷◌, [], map, drop}
use Rattle.cp_sexpr.specs.View.{view}
use Rattle.cp_report.specs.Heads.{item_with}
use Rattle.cp_stated.proofs.heads.item_with.Given as goal

abbrev pub invariant-loop-item : goal.invariant-loop-item
invariant-loop-item l = item_with (l.word ∷ []) (map view (drop l.item-index l.items)) ≡ item_with (l.word ∷ []) (map view l.items)
