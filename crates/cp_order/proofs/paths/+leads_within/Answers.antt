use Rattle.std.proofs.Common.{sym, ◌∙◌}
use Rattle.cp_order.proofs.JoinedPairs.{within_found, within_none}
use Rattle.cp_order.proofs.paths.+leads_within.Goals as goal

pub returns-then-leads_within : goal.returns-then-leads_within
returns-then-leads_within t c =
    within_found c.args.count c.loop-pair.pair-index c.args.pairs.now c.args.x c.args.y c.if-count-eq0.false (sym c.is_at_or_before.ensures ∙ c.if-is_at_or_before.false) c.loop-pair.invariant
    _ c.loop-pair-test.true (sym c.is_at_or_before-in-loop-pair.ensures ∙ c.if-is_at_or_before-2.true) (sym c.leads_within.ensures ∙ c.if-leads_within.true)

pub returns : goal.returns
returns t c =
    within_none c.args.count c.loop-pair.pair-index c.args.pairs.now c.args.x c.args.y c.if-count-eq0.false (sym c.is_at_or_before.ensures ∙ c.if-is_at_or_before.false) c.loop-pair.invariant c.loop-pair-test.false
