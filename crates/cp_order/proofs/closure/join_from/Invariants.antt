use Rattle.std.proofs.Common.{◌≡◌, drop}
use Rattle.cp_order.specs.Composed.{all_joined, pairs_past}
use Rattle.cp_order.proofs.closure.join_from.Given as goal

abbrev pub invariant-loop-next : goal.invariant-loop-next
invariant-loop-next l =
    all_joined l.pairs.items (pairs_past l.earlier l.later (drop l.next-index l.closed))
    ≡ all_joined l.initial.pairs.items (pairs_past l.earlier l.later l.closed)
