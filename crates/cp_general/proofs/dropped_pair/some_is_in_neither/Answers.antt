use Rattle.cp_collapse.proofs.ItemsWithProperty.{no_item}
use Rattle.cp_general.specs.ListedPairs.{IsInNeither}
use Rattle.cp_general.proofs.FreePairs.{passed_first, passed_second, in_neither}
use Rattle.cp_general.proofs.dropped_pair.some_is_in_neither.Goals as goal

pub loop-pair-init : goal.loop-pair-init
loop-pair-init c = λ h. h

pub loop-pair-preserved-in-Some : goal.loop-pair-preserved-in-Some
loop-pair-preserved-in-Some c =
    passed_first c.args.first.now c.args.second.now c.args.pairs.now c.loop-pair.pair-index c.loop-pair-test.true (rw c.in-Some.is at c.place_from.ensures.some) c.loop-pair.invariant

pub loop-pair-preserved-in-Some-place_from : goal.loop-pair-preserved-in-Some-place_from
loop-pair-preserved-in-Some-place_from c =
    passed_second c.args.first.now c.args.second.now c.args.pairs.now c.loop-pair.pair-index c.loop-pair-test.true (rw c.in-Some-place_from.is at c.place_from-in-loop-pair.ensures.some) c.loop-pair.invariant

pub loop-pair-preserved-in-Some-place_from-2 : goal.loop-pair-preserved-in-Some-place_from-2
loop-pair-preserved-in-Some-place_from-2 c =
    passed_first c.args.first.now c.args.second.now c.args.pairs.now c.loop-pair.pair-index c.loop-pair-test.true (rw c.in-Some-place_from-2.is at c.place_from-in-loop-pair-2.ensures.some) c.loop-pair.invariant

pub returns-in_default-place_from-3 : goal.returns-in_default-place_from-3
returns-in_default-place_from-3 c =
    in_neither c.args.first.now c.args.second.now c.args.pairs.now c.loop-pair.pair-index c.loop-pair-test.true (rw c.in_default-place_from-2.is at c.place_from-in-loop-pair-2.ensures.none)
    (rw c.in_default-place_from-3.is at c.place_from-in-loop-pair-3.ensures.none)

pub loop-pair-preserved : goal.loop-pair-preserved
loop-pair-preserved c =
    passed_second c.args.first.now c.args.second.now c.args.pairs.now c.loop-pair.pair-index c.loop-pair-test.true (rw c.in-Some-place_from-3.is at c.place_from-in-loop-pair-3.ensures.some) c.loop-pair.invariant

pub returns : goal.returns
returns c = no_item (IsInNeither c.args.first.now c.args.second.now) c.args.pairs.now c.loop-pair.pair-index c.loop-pair-test.false c.loop-pair.invariant
