use Rattle.cp_normal.proofs.OwnPairs.{next_key, all_keys}
use Rattle.cp_normal.proofs.own_pairs.keys_of.Goals as goal

pub loop-pair-preserved : goal.loop-pair-preserved
loop-pair-preserved c = next_key c.args.pairs.now c.loop-pair.pair-index c.loop-pair.keys _ c.insert.new.self c.loop-pair-test.true _ c.key_of.ensures c.in_ok-insert.ensures.updates.0 c.loop-pair.invariant

pub returns : goal.returns
returns c = all_keys c.args.pairs.now c.loop-pair.pair-index c.loop-pair.keys c.loop-pair-test.false c.loop-pair.invariant
