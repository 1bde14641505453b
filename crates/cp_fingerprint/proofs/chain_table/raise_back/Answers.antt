use Rattle.std.proofs.Common.{◌≡◌, ◌<◌, ◌-◌, ℕ, get_or, length, take, ap, arith}
use Rattle.cp_lists.proofs.Members.{item_in}
use Rattle.cp_model.specs.declared.node.OrderPair.{OrderPair}
use Rattle.cp_fingerprint.proofs.ChainRounds.{no_pair, place_there, last_or_rest, one_raised, all_raised}
use Rattle.cp_fingerprint.proofs.chain_table.raise_back.Goals as goal

pub raise_along-rose-requires : goal.raise_along-rose-requires
raise_along-rose-requires c =
    let l : c.loop-number.number - 1 < length c.args.pairs.now = omega (arith, c.loop-number-test.true, c.loop-number.auto.number) in
    record { within = place_there c.args.starts.now c.args.pairs.now _ _ c.args.weights.now c.loop-number.weights _ (item_in c.args.pairs.now (c.loop-number.number - 1) no_pair l) c.requires.within c.loop-number.invariant }

pub loop-number-preserved : goal.loop-number-preserved
loop-number-preserved c =
    let n = c.loop-number.number in
    let last : OrderPair = get_or c.args.pairs.now (n - 1) no_pair in
    let l : n - 1 < length c.args.pairs.now = omega (arith, c.loop-number-test.true, c.loop-number.auto.number) in
    one_raised c.args.starts.now c.args.pairs.now _ _ last c.args.weights.now c.loop-number.weights c.raise_along-rose.new.weights c.loop-number.rose c.raise_along-rose.result
    (λ q m. last_or_rest c.args.pairs.now n no_pair q c.loop-number-test.true c.loop-number.auto.number m) (item_in c.args.pairs.now (n - 1) no_pair l) c.loop-number.invariant c.raise_along-rose.ensures

pub returns : goal.returns
returns c =
    let none_left : c.loop-number.number ≡ 0 = omega (arith, c.loop-number-test.false) in
    all_raised c.args.starts.now c.args.pairs.now _ c.args.weights.now c.loop-number.weights c.loop-number.rose (ap (λ (n : ℕ). take n c.args.pairs.now) none_left) c.loop-number.invariant
