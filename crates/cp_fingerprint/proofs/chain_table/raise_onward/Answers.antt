use Rattle.std.proofs.Common.{get_or}
use Rattle.std.proofs.lemmas.List.{drop_all}
use Rattle.cp_lists.proofs.Members.{item_in}
use Rattle.cp_fingerprint.proofs.ChainRounds.{no_pair, place_there, first_or_rest, one_raised, all_raised}
use Rattle.cp_fingerprint.proofs.chain_table.raise_onward.Goals as goal

pub raise_along-rose-requires : goal.raise_along-rose-requires
raise_along-rose-requires c =
    record { within = place_there c.args.starts.now c.args.pairs.now _ _ c.args.weights.now c.loop-pair.weights _ (item_in c.args.pairs.now c.loop-pair.pair-index no_pair c.loop-pair-test.true) c.requires.within c.loop-pair.invariant }

pub loop-pair-preserved : goal.loop-pair-preserved
loop-pair-preserved c =
    let i = c.loop-pair.pair-index in
    one_raised c.args.starts.now c.args.pairs.now _ _ (get_or c.args.pairs.now i no_pair) c.args.weights.now c.loop-pair.weights c.raise_along-rose.new.weights c.loop-pair.rose c.raise_along-rose.result
    (λ q m. first_or_rest c.args.pairs.now i no_pair q c.loop-pair-test.true m) (item_in c.args.pairs.now i no_pair c.loop-pair-test.true) c.loop-pair.invariant c.raise_along-rose.ensures

pub returns : goal.returns
returns c = all_raised c.args.starts.now c.args.pairs.now _ c.args.weights.now c.loop-pair.weights c.loop-pair.rose (drop_all c.loop-pair.pair-index c.args.pairs.now c.loop-pair-test.false) c.loop-pair.invariant
