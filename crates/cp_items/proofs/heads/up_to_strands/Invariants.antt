use Rattle.std.proofs.Common.{◌≡◌, ◌++◌, map, take, drop}
use Rattle.cp_sexpr.specs.View.{view}
use Rattle.cp_report.specs.Heads.{up_to_strands}
use Rattle.cp_items.proofs.heads.up_to_strands.Given as goal

abbrev pub invariant-loop-place : goal.invariant-loop-place
invariant-loop-place l = take l.place (map view l.items) ++ up_to_strands (map view (drop l.place l.items)) ≡ up_to_strands (map view l.items)
