use Rattle.std.proofs.Common.{◌≡◌, drop, map}
use Rattle.cp_sexpr.specs.View.{view}
use Rattle.cp_language.specs.Problems.{has_strand}
use Rattle.cp_load.proofs.items.has_strand.Given as goal

abbrev pub invariant-loop-item : goal.invariant-loop-item
invariant-loop-item l = has_strand (map view (drop l.item-index l.items)) ≡ has_strand (map view l.items)
