use Rattle.std.proofs.Common.{List, map, subst}
use Rattle.cp_model.specs.declared.node.OrderPair.{OrderPair}
use Rattle.cp_order.specs.PredecessorNodes.{tops_of}
use Rattle.cp_order.specs.Rows.{AreRowsOf, rows_by}
use Rattle.cp_order.proofs.closed.ClosedPairs.new.Goals as goal

pub invariant_of-closed : goal.invariant_of-closed
invariant_of-closed c = (
  c.requires,
  subst (λ (ps : List OrderPair). AreRowsOf ps (rows_by c.in_ok-rows.rows (λ v. map (λ r. tops_of r.value) v.items))) c.deref.ensures.value c.in_ok-rows.ensures,
)
