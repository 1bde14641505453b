use Rattle.std.proofs.Common.{◌∙◌, get_or, subst}
use Rattle.std.proofs.lemmas.List.{get_or_default}
use Rattle.cp_lists.specs.Lists.{IsIn}
use Rattle.cp_lists.proofs.Members.{item_in}
use Rattle.cp_general.proofs.FitTests.{no_pair}
use Rattle.cp_general.proofs.Dropped.{never_may}
use Rattle.cp_general.proofs.Stepped.{all_left_yet, passed_one, none_lower, all_passed}
use Rattle.cp_general.proofs.dropped_pair.first_drop.Goals as goal

pub loop-pair-init : goal.loop-pair-init
loop-pair-init c = all_left_yet c.args.k.now c.pairs-pair-items.result.now (c.pairs-pair-items.ensures ∙ c.order.ensures)

pub may_drop-requires-clause-listed : goal.may_drop-requires-clause-listed
may_drop-requires-clause-listed c = subst (IsIn _) (c.pairs-pair-items.ensures ∙ c.order.ensures) (item_in c.pairs-pair-items.result.now c.loop-pair.pair-index no_pair c.loop-pair-test.true)

pub loop-pair-preserved-then-not-may_drop : goal.loop-pair-preserved-then-not-may_drop
loop-pair-preserved-then-not-may_drop c =
    let items = c.pairs-pair-items.result.now in
    let i = c.loop-pair.pair-index in
    let p = get_or items i no_pair in
    passed_one c.args.k.now items i p c.loop-pair-test.true (get_or_default items i no_pair p c.loop-pair-test.true) c.loop-pair.invariant
    (never_may p c.args.k.now c.may_drop.result c.may_drop.ensures c.if-not-may_drop.true)

pub returns-in-Some-clause-some : goal.returns-in-Some-clause-some
returns-in-Some-clause-some c =
    let items = c.pairs-pair-items.result.now in
    let i = c.loop-pair.pair-index in
    let p = get_or items i no_pair in
    record {
      pair = p;
      leaves = rw c.in-Some.is at c.in_ok-less.ensures.some;
      lower =
          none_lower c.args.k.now items i p c.loop-pair-test.true (get_or_default items i no_pair p c.loop-pair-test.true) c.loop-pair.invariant (c.pairs-pair-items.ensures ∙ c.order.ensures)
          c.requires.lists;
    }

pub loop-pair-preserved : goal.loop-pair-preserved
loop-pair-preserved c =
    let items = c.pairs-pair-items.result.now in
    let i = c.loop-pair.pair-index in
    let p = get_or items i no_pair in
    passed_one c.args.k.now items i p c.loop-pair-test.true (get_or_default items i no_pair p c.loop-pair-test.true) c.loop-pair.invariant (rw c.in-None.is at c.in_ok-less.ensures.none)

pub returns-clause-none : goal.returns-clause-none
returns-clause-none c = all_passed c.args.k.now c.pairs-pair-items.result.now c.loop-pair.pair-index c.loop-pair-test.false c.loop-pair.invariant
