use Rattle.cp_collapse.specs.Property.{Has}
use Rattle.cp_normal.specs.Events.{HasOtherOrigin}
use Rattle.cp_collapse.proofs.ItemsWithProperty.{item_found, item_passed, no_item}
use Rattle.cp_normal.proofs.origins.some_has_two_origins.Goals as goal

pub returns-then-has_another_origin : goal.returns-then-has_another_origin
returns-then-has_another_origin c = item_found (λ u. Has (λ w. HasOtherOrigin u w) c.args.uniques.now) _ _ _ c.loop-unique-test.true c.unique-item.is c.has_another_origin.ensures c.if-has_another_origin.true

pub loop-unique-preserved : goal.loop-unique-preserved
loop-unique-preserved c = item_passed (λ u. Has (λ w. HasOtherOrigin u w) c.args.uniques.now) _ _ _ c.loop-unique-test.true c.unique-item.is c.has_another_origin.ensures c.if-has_another_origin.false c.loop-unique.invariant

pub returns : goal.returns
returns c = no_item (λ u. Has (λ w. HasOtherOrigin u w) c.args.uniques.now) _ _ c.loop-unique-test.false c.loop-unique.invariant
