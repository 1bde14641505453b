use Rattle.std.proofs.Common.{◌≡◌, ◌||◌, drop}
use Rattle.cp_model.specs.declared.node.Node.{Node}
use Rattle.cp_model.specs.OrderTests.{any_pair}
use Rattle.cp_order.specs.Composed.{is_between}
use Rattle.cp_order.specs.PredecessorNodes.{tops_of, is_under_tops}
use Rattle.cp_order.proofs.closed.row_to.Given as goal

abbrev pub invariant-loop-pair : goal.invariant-loop-pair
invariant-loop-pair l =
    (x : Node) → (is_under_tops (tops_of l.row) x || any_pair (is_between x l.fn.node) (drop l.pair-index l.pairs)) ≡ any_pair (is_between x l.fn.node) l.pairs
