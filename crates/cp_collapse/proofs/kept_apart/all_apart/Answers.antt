use Rattle.std.proofs.Common.{◌∙◌, sym}
use Rattle.std.proofs.lemmas.List.{get_or_default}
use Rattle.cp_lists.proofs.Items.{item_of_read, at_place}
use Rattle.cp_collapse.proofs.RuledOut.{later_node}
use Rattle.cp_collapse.proofs.kept_apart.all_apart.Goals as goal

pub loop-pair-preserved : goal.loop-pair-preserved
loop-pair-preserved c =
    let order_pairs = c.is_sound.ensures.skeleton.order_pairs in
    let qs = c.pairs-pairs.result.now in
    let are = c.pairs-pairs.ensures ∙ c.order.ensures in
    c.in_ok-put_reaching.ensures c.args.k.now (sym (c.in_ok-order.ensures ∙ are)) order_pairs
    (later_node c.args.k.now order_pairs qs _ are (at_place qs c.loop-pair.pair-index _ (item_of_read qs c.loop-pair.pair-index _ c.loop-pair-test.true (get_or_default qs c.loop-pair.pair-index _ _ c.loop-pair-test.true))))
    c.loop-pair.invariant
