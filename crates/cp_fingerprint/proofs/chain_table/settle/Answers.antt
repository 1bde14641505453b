use Rattle.cp_fingerprint.proofs.ChainRounds.{risen_more, settled_by}
use Rattle.cp_fingerprint.proofs.chain_table.settle.Goals as goal

pub returns-then-not-raise_onward : goal.returns-then-not-raise_onward
returns-then-not-raise_onward c =
    let back = risen_more c.args.starts.now c.args.pairs.now c.args.weights.now c.loop-weights.weights c.raise_back.new.weights c.loop-weights.invariant c.raise_back.ensures.risen in
    settled_by c.args.starts.now c.args.pairs.now c.args.weights.now c.raise_back.new.weights c.raise_onward.new.weights c.raise_onward.result c.if-not-raise_onward.true back c.raise_onward.ensures

pub loop-weights-preserved : goal.loop-weights-preserved
loop-weights-preserved c =
    let back = risen_more c.args.starts.now c.args.pairs.now c.args.weights.now c.loop-weights.weights c.raise_back.new.weights c.loop-weights.invariant c.raise_back.ensures.risen in
    risen_more c.args.starts.now c.args.pairs.now c.args.weights.now c.raise_back.new.weights c.raise_onward.new.weights back c.raise_onward.ensures.risen
