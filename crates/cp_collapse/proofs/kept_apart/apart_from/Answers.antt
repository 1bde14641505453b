use Rattle.std.proofs.Common.{rules}
use Rattle.std.proofs.lemmas.List.{get_or_default}
use Rattle.cp_lists.proofs.Items.{item_of_read, at_place}
use Rattle.cp_collapse.proofs.RuledOut.{one_more_apart}
use Rattle.cp_collapse.proofs.kept_apart.apart_from.Goals as goal

pub loop-two-preserved : goal.loop-two-preserved
loop-two-preserved c = λ k apart.
    one_more_apart k c.args.number c.loop-two.strands.items _ c.args.all.now _ apart
    (at_place c.args.all.now c.loop-two.two-index _ (item_of_read c.args.all.now c.loop-two.two-index _ c.loop-two-test.true (get_or_default c.args.all.now c.loop-two.two-index _ _ c.loop-two-test.true)))
    (search rules) (c.loop-two.invariant k apart) c.in_ok-push.ensures.items
