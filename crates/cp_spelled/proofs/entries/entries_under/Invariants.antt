use Rattle.std.proofs.Common.{◌≡◌, drop, map}
use Rattle.cp_sexpr.specs.View.{view}
use Rattle.cp_report.specs.Heads.{entries_under}
use Rattle.cp_spelled.proofs.entries.entries_under.Given as goal

abbrev pub invariant-loop-item : goal.invariant-loop-item
invariant-loop-item l = entries_under l.word (map view (drop l.item-index l.items)) ≡ entries_under l.word (map view l.items)
