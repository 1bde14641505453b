use Rattle.std.proofs.Common.{◌≡◌, false, ◌++◌, ◌-◌}
use Rattle.cp_print.specs.Order.{nodes_counted}
use Rattle.cp_print.proofs.order.add_nodes_on.Given as goal

abbrev pub invariant-loop-index : goal.invariant-loop-index
invariant-loop-index l =
    l.nodes.ran_out ≡ false → (l.fn.nodes.ran_out ≡ false) × (l.nodes.items ++ nodes_counted l.strand l.index (l.count - l.index) ≡ l.fn.nodes.items ++ nodes_counted l.strand 0 l.count)
