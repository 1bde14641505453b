use Rattle.std.proofs.Common.{arith}
use Rattle.cp_order.proofs.LookedUp.{end_next, end_all}
use Rattle.cp_order.proofs.closed.last_end.Goals as goal
use Rattle.cp_order.proofs.closed.last_end.Goals.{then-pair-strand-via-then-pair-strand, then-pair-strand-via-else-pair-strand+then-pair-last}

pub loop-pair-preserved-then-pair-strand : goal.loop-pair-preserved-then-pair-strand
loop-pair-preserved-then-pair-strand c =
    end_next c.args.pairs.now c.args.strand c.loop-pair.pair-index (record { earlier = record { strand = 0; index = 0 }; later = record { strand = 0; index = 0 } }) c.loop-pair-test.true c.loop-pair.last
    c.loop-pair.last (omega arith)
    (λ e. elim c.then-pair-strand.branch [ then-pair-strand-via-then-pair-strand w ↦ absurd (w.if-pair-strand.true e) | then-pair-strand-via-else-pair-strand+then-pair-last w ↦ w.if-pair-last.true ])
    c.loop-pair.invariant

pub loop-pair-preserved : goal.loop-pair-preserved
loop-pair-preserved c =
    end_next c.args.pairs.now c.args.strand c.loop-pair.pair-index (record { earlier = record { strand = 0; index = 0 }; later = record { strand = 0; index = 0 } }) c.loop-pair-test.true c.loop-pair.last
    _ (omega (arith, c.if-pair-last.false)) (λ e. omega arith) c.loop-pair.invariant

pub returns : goal.returns
returns c = end_all c.args.pairs.now c.args.strand c.loop-pair.pair-index c.loop-pair.last c.loop-pair-test.false c.loop-pair.invariant
