use Rattle.std.proofs.Common.{◌≡◌, ◌++◌, map, take, drop}
use Rattle.cp_sexpr.specs.View.{view}
use Rattle.cp_language.specs.Problems.{before_items}
use Rattle.cp_load.proofs.items.before_items.Given as goal

abbrev pub invariant-loop-number : goal.invariant-loop-number
invariant-loop-number l = take l.number (map view l.body) ++ before_items (map view (drop l.number l.body)) ≡ before_items (map view l.body)
