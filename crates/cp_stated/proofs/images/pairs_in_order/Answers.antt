use Rattle.cp_model.specs.Stated.{pair_image}
use Rattle.cp_report.specs.Skeletons.{map_by, is_in_order}
use Rattle.cp_stated.proofs.FormLists.{copy-taken, copy-left, kept-done}
use Rattle.cp_stated.proofs.images.pairs_in_order.Goals as goal

pub loop-pair-preserved-then-not-is_ordered : goal.loop-pair-preserved-then-not-is_ordered
loop-pair-preserved-then-not-is_ordered c =
    copy-left (pair_image (map_by c.args.to_strands.now c.args.values.now)) (is_in_order c.args.strands.now c.args.pairs.now) c.args.own.now c.loop-pair.pair-index _ c.loop-pair-test.true
    c.pair_image-image.result c.in_ok-is_ordered.is_ordered (c.pair_image-image.ensures c.args.values.now) c.in_ok-is_ordered.ensures c.if-not-is_ordered.true c.loop-pair.images.items _ c.loop-pair.invariant

pub loop-pair-preserved : goal.loop-pair-preserved
loop-pair-preserved c =
    copy-taken (pair_image (map_by c.args.to_strands.now c.args.values.now)) (is_in_order c.args.strands.now c.args.pairs.now) c.args.own.now c.loop-pair.pair-index _ c.loop-pair-test.true
    c.pair_image-image.result c.in_ok-is_ordered.is_ordered (c.pair_image-image.ensures c.args.values.now) c.in_ok-is_ordered.ensures c.if-not-is_ordered.false c.loop-pair.images.items c.push.new.self.items _
    c.in_ok-push.ensures.items c.loop-pair.invariant

pub returns : goal.returns
returns c =
    kept-done (pair_image (map_by c.args.to_strands.now c.args.values.now)) (is_in_order c.args.strands.now c.args.pairs.now) c.args.own.now c.loop-pair.pair-index c.loop-pair-test.false
    c.loop-pair.images.items _ c.loop-pair.invariant
