use Rattle.std.proofs.Common.{◌≡◌, ◌++◌, drop}
use Rattle.cp_order.specs.Sorted.{first_nodes}
use Rattle.cp_order.proofs.predecessors.push_first.Given as goal

abbrev pub invariant-loop-pair : goal.invariant-loop-pair
invariant-loop-pair l =
    l.work.items ++ first_nodes l.node (drop l.pair-index l.pairs)
    ≡ l.initial.work.items ++ first_nodes l.node l.pairs
