use Rattle.std.proofs.Common.{◌∙◌, get_or}
use Rattle.std.proofs.lemmas.List.{get_or_default}
use Rattle.cp_general.proofs.FitTests.{no_pair}
use Rattle.cp_general.proofs.FreePairs.{none_free}
use Rattle.cp_general.proofs.Stepped.{all_left_yet, passed_one, all_passed}
use Rattle.cp_general.proofs.dropped_pair.some_may_drop.Goals as goal

pub returns-then-not-some_is_free : goal.returns-then-not-some_is_free
returns-then-not-some_is_free c = λ _. none_free c.args.k.now c.some_is_free.result c.some_is_free.ensures c.if-not-some_is_free.true

pub loop-pair-init : goal.loop-pair-init
loop-pair-init c = all_left_yet c.args.k.now c.pairs-pair-items.result.now (c.pairs-pair-items.ensures ∙ c.order.ensures)

pub loop-pair-preserved : goal.loop-pair-preserved
loop-pair-preserved c =
    let items = c.pairs-pair-items.result.now in
    let p = get_or items c.loop-pair.pair-index no_pair in
    let at = get_or_default items c.loop-pair.pair-index no_pair p c.loop-pair-test.true in
    passed_one c.args.k.now items c.loop-pair.pair-index p c.loop-pair-test.true at c.loop-pair.invariant (c.in_ok-is_spare.ensures c.if-branch.false)

pub returns : goal.returns
returns c = λ _. all_passed c.args.k.now c.pairs-pair-items.result.now c.loop-pair.pair-index c.loop-pair-test.false c.loop-pair.invariant
