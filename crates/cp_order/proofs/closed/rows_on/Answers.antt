use Rattle.cp_order.specs.PredecessorNodes.{tops_of}
use Rattle.cp_order.proofs.LookedUp.{rows_pushed}
use Rattle.cp_order.proofs.closed.rows_on.Goals as goal

pub loop-alloc-preserved : goal.loop-alloc-preserved
loop-alloc-preserved c =
    rows_pushed c.args.pairs.now c.args.strand (λ r. tops_of r.value) c.loop-alloc.rows.items c.loop-alloc.invariant c.deref.result.now c.push.new.self.items c.in_ok-row.row
    c.deref.ensures.value c.in_ok-push.ensures.items c.in_ok-row.ensures
