use Rattle.std.proofs.Common.{◌++◌, drop}
use Rattle.cp_order.specs.Closed.{IsTransitive, KeepsOrder}
use Rattle.cp_order.proofs.closure.closed_pairs.Given as goal

abbrev pub invariant-loop-pair : goal.invariant-loop-pair
invariant-loop-pair l = record {
  closed : IsTransitive l.closed.items;
  keeps : KeepsOrder l.pairs (l.closed.items ++ (drop l.pair-index l.pairs));
}
