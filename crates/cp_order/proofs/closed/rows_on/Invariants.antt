use Rattle.std.proofs.Common.{◌+◌, ◌-◌, map, length}
use Rattle.cp_order.specs.PredecessorNodes.{tops_of}
use Rattle.cp_order.specs.Rows.{AreRows}
use Rattle.cp_order.proofs.closed.rows_on.Given as goal

abbrev pub invariant-loop-alloc : goal.invariant-loop-alloc
invariant-loop-alloc l = AreRows l.pairs l.strand (map (λ r. tops_of r.value) l.rows.items)

abbrev pub decreases-loop-alloc : goal.decreases-loop-alloc
decreases-loop-alloc l = l.last + 1 - length l.rows.items
