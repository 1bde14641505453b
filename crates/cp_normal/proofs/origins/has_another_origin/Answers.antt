use Rattle.cp_normal.specs.Events.{HasOtherOrigin}
use Rattle.cp_collapse.proofs.ItemsWithProperty.{item_found, item_passed, no_item}
use Rattle.cp_normal.proofs.origins.has_another_origin.Goals as goal

pub returns-then-is_elsewhere : goal.returns-then-is_elsewhere
returns-then-is_elsewhere c = item_found (λ w. HasOtherOrigin c.args.unique.now w) _ _ _ c.loop-other-test.true c.other-item.is c.is_elsewhere.ensures c.if-is_elsewhere.true

pub loop-other-preserved : goal.loop-other-preserved
loop-other-preserved c = item_passed (λ w. HasOtherOrigin c.args.unique.now w) _ _ _ c.loop-other-test.true c.other-item.is c.is_elsewhere.ensures c.if-is_elsewhere.false c.loop-other.invariant

pub returns : goal.returns
returns c = no_item (λ w. HasOtherOrigin c.args.unique.now w) _ _ c.loop-other-test.false c.loop-other.invariant
