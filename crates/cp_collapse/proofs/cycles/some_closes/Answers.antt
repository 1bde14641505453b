use Rattle.std.proofs.lemmas.List.{get_or_default}
use Rattle.cp_collapse.specs.Cycles.{ClosesCycleAt}
use Rattle.cp_collapse.proofs.ItemsWithProperty.{item_found, item_passed, no_item}
use Rattle.cp_collapse.proofs.cycles.some_closes.Goals as goal

pub returns-then-branch : goal.returns-then-branch
returns-then-branch c = item_found (λ q. ClosesCycleAt c.args.pairs.now q.earlier) _ _ _ c.loop-pair-test.true (get_or_default c.args.pairs.now c.loop-pair.pair-index _ _ c.loop-pair-test.true) c.in_ok-is_closed_at.ensures c.if-branch.true

pub loop-pair-preserved : goal.loop-pair-preserved
loop-pair-preserved c = item_passed (λ q. ClosesCycleAt c.args.pairs.now q.earlier) _ _ _ c.loop-pair-test.true (get_or_default c.args.pairs.now c.loop-pair.pair-index _ _ c.loop-pair-test.true) c.in_ok-is_closed_at.ensures c.if-branch.false c.loop-pair.invariant

pub returns : goal.returns
returns c = no_item (λ q. ClosesCycleAt c.args.pairs.now q.earlier) _ _ c.loop-pair-test.false c.loop-pair.invariant
