use Rattle.std.proofs.lemmas.List.{get_or_default}
use Rattle.cp_collapse.specs.Cycles.{StartsPath}
use Rattle.cp_collapse.proofs.ItemsWithProperty.{item_found, item_passed, no_item}
use Rattle.cp_collapse.proofs.cycles.some_leads_on.Goals as goal

pub returns-then-leads_on : goal.returns-then-leads_on
returns-then-leads_on c = item_found (λ p. StartsPath c.args.leading.now.pairs c.args.node c.args.leading.now.node p) _ _ _ c.loop-pair-test.true (get_or_default c.args.pairs.now c.loop-pair.pair-index _ _ c.loop-pair-test.true) c.leads_on.ensures c.if-leads_on.true

pub loop-pair-preserved : goal.loop-pair-preserved
loop-pair-preserved c = item_passed (λ p. StartsPath c.args.leading.now.pairs c.args.node c.args.leading.now.node p) _ _ _ c.loop-pair-test.true (get_or_default c.args.pairs.now c.loop-pair.pair-index _ _ c.loop-pair-test.true) c.leads_on.ensures c.if-leads_on.false c.loop-pair.invariant

pub returns : goal.returns
returns c = no_item (λ p. StartsPath c.args.leading.now.pairs c.args.node c.args.leading.now.node p) _ _ c.loop-pair-test.false c.loop-pair.invariant
