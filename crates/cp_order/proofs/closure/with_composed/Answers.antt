use Rattle.std.proofs.Common.{drop, ◌+◌, sym, ◌∙◌}
use Rattle.std.proofs.lemmas.List.{drop_more, drop_all}
use Rattle.cp_order.proofs.JoinedPairs.{to_next, to_end}
use Rattle.cp_order.proofs.closure.with_composed.Goals as goal

pub loop-before-preserved : goal.loop-before-preserved
loop-before-preserved c =
    to_next c.args.closed.now c.args.pair _ _ (drop (c.loop-before.before-index + 1) c.args.closed.now) c.loop-before.pairs.items _ _
    (drop_more c.args.closed.now c.loop-before.before-index _ c.loop-before-test.true) (sym c.is_at_or_before.ensures ∙ c.if-not-is_at_or_before.false)
    c.in_ok-join_from-2.ensures c.loop-before.invariant

pub returns : goal.returns
returns c =
    to_end c.args.closed.now c.args.pair _ c.in_ok-pairs.pairs.items c.join_from.new.pairs.items c.loop-before.pairs.items
    (drop_all c.loop-before.before-index c.args.closed.now c.loop-before-test.false) c.in_ok-pairs.ensures.items c.in_ok-join_from.ensures c.loop-before.invariant
