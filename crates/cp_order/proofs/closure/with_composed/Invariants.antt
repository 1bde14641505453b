use Rattle.std.proofs.Common.{◌≡◌, drop}
use Rattle.cp_order.specs.Composed.{all_joined, pairs_to}
use Rattle.cp_order.proofs.closure.with_composed.Given as goal

abbrev pub invariant-loop-before : goal.invariant-loop-before
invariant-loop-before l =
    all_joined l.pairs.items (pairs_to l.closed l.pair (drop l.before-index l.closed))
    ≡ all_joined l.initial.pairs.items (pairs_to l.closed l.pair l.closed)
