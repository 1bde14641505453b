use Rattle.std.proofs.Common.{◌≡◌, ◌++◌, map, drop}
use Rattle.cp_load.proofs.acyclic.in_order.Given as goal

abbrev pub invariant-loop-number : goal.invariant-loop-number
invariant-loop-number l =
    map (λ r. r.pair) l.ranked.items ++ (drop l.number l.pairs) ≡ l.pairs
