use Rattle.std.proofs.Common.{◌≡◌, ◌≤◌, ◌⊎◌, drop}
use Rattle.cp_lists.specs.Lists.{IsIn}
use Rattle.cp_model.specs.declared.node.OrderPair.{OrderPair}
use Rattle.cp_order.proofs.closed.last_end.Given as goal

abbrev pub invariant-loop-pair : goal.invariant-loop-pair
invariant-loop-pair l =
    (p : OrderPair) → IsIn p l.pairs → p.later.strand ≡ l.strand → (p.later.index ≤ l.last) ⊎ IsIn p (drop l.pair-index l.pairs)
