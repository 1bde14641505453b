use Rattle.cp_order.proofs.JoinedPairs.{keeps_item}
use Rattle.cp_order.proofs.closure.closed_pairs.Goals as goal

pub loop-pair-preserved : goal.loop-pair-preserved
loop-pair-preserved c = record {
  closed = c.in_ok-closed.ensures.closed;
  keeps = keeps_item c.args.pairs.now c.args.pairs.now c.loop-pair.closed.items c.deref.result.now c.in_ok-closed.closed.items c.loop-pair.pair-index
      (record { earlier = record { strand = 0; index = 0 }; later = record { strand = 0; index = 0 } }) c.loop-pair-test.true c.deref.ensures.value c.in_ok-closed.ensures.keeps c.loop-pair.invariant.keeps;
}
