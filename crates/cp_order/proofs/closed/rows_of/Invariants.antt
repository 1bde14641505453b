use Rattle.std.proofs.Common.{map, drop}
use Rattle.std.specs.Prelude.{nat_eq}
use Rattle.std.specs.HashMap.{get}
use Rattle.cp_order.specs.PredecessorNodes.{tops_of}
use Rattle.cp_order.specs.Rows.{AreRowsSoFar}
use Rattle.cp_order.proofs.closed.rows_of.Given as goal

abbrev pub invariant-loop-pair : goal.invariant-loop-pair
invariant-loop-pair l = AreRowsSoFar l.pairs (drop l.pair-index l.pairs) (λ s. get nat_eq l.rows s) (λ v. map (λ r. tops_of r.value) v.items)
