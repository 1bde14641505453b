use Rattle.std.proofs.lemmas.List.{get_or_default}
use Rattle.cp_lists.proofs.Items.{item_of_read}
use Rattle.cp_model.proofs.CarriedParts.{not_both}
use Rattle.cp_collapse.proofs.ImagesOnce.{pairs_first, pair_dropped, pair_put, pairs_all}
use Rattle.cp_collapse.proofs.images.pair_images.Goals as goal

pub loop-pair-init : goal.loop-pair-init
loop-pair-init c = pairs_first c.args.lowest.now c.args.pairs.now _ c.new-images.ensures.items

pub loop-pair-preserved-then-lies_on_one : goal.loop-pair-preserved-then-lies_on_one
loop-pair-preserved-then-lies_on_one c =
    pair_dropped c.args.lowest.now c.args.pairs.now c.loop-pair.pair-index _ c.loop-pair.images.items
    (item_of_read c.args.pairs.now c.loop-pair.pair-index _ c.loop-pair-test.true (get_or_default c.args.pairs.now c.loop-pair.pair-index _ _ c.loop-pair-test.true))
    c.loop-pair.invariant (c.lies_on_one.ensures.0 c.if-lies_on_one.true)

pub loop-pair-preserved : goal.loop-pair-preserved
loop-pair-preserved c =
    pair_put c.args.lowest.now c.args.pairs.now c.loop-pair.pair-index _ c.loop-pair.images.items
    (item_of_read c.args.pairs.now c.loop-pair.pair-index _ c.loop-pair-test.true (get_or_default c.args.pairs.now c.loop-pair.pair-index _ _ c.loop-pair-test.true))
    c.loop-pair.invariant c.pair_in.result _ c.pair_in.ensures (λ e. not_both c.if-lies_on_one.false (c.lies_on_one.ensures.1 e)) c.in_ok-put_pair.ensures

pub returns : goal.returns
returns c = pairs_all c.args.lowest.now c.args.pairs.now c.loop-pair.pair-index _ c.loop-pair-test.false c.loop-pair.invariant
