use Rattle.std.proofs.Common.{◌≡◌, Some}
use Rattle.std.proofs.lemmas.Result.{IfOk-weaker}
use Rattle.cp_lists.specs.Lists.{item_at}
use Rattle.cp_lists.proofs.Items.{item_of_read}
use Rattle.cp_general.proofs.NeededParts.{passed_apart, held_apart, all_apart}
use Rattle.cp_general.proofs.needed.all_sent_apart.Goals as goal

pub loop-located-preserved : goal.loop-located-preserved
loop-located-preserved c =
    let os = c.args.events.now in
    let i = c.loop-located.located-index in
    let o = c.located-item.result in
    let at : item_at os i ≡ Some o = item_of_read os i o c.loop-located-test.true c.located-item.is in
    held_apart (λ m. m.now) c.args.part c.args.preceding.now os i o at c.sent_apart.result c.sent_apart.ensures c.copy.result c.loop-located.sent c.push_made.new.self c.in-Some.message c.in-Some.is
    c.push_made.ensures.ok c.push_made.ensures.err c.copy.ensures c.loop-located.invariant

pub loop-located-preserved-in-None : goal.loop-located-preserved-in-None
loop-located-preserved-in-None c =
    let os = c.args.events.now in
    let i = c.loop-located.located-index in
    let o = c.located-item.result in
    let at : item_at os i ≡ Some o = item_of_read os i o c.loop-located-test.true c.located-item.is in
    passed_apart (λ m. m.now) c.args.part c.args.preceding.now os i o at c.sent_apart.result c.sent_apart.ensures c.loop-located.sent c.in-None.is c.loop-located.invariant

pub returns : goal.returns
returns c =
    IfOk-weaker c.finish.result _ _ (λ ts is. all_apart c.args.part c.args.preceding.now c.args.events.now c.loop-located.located-index c.loop-located.sent ts.items c.loop-located-test.false c.loop-located.invariant is)
    c.finish.ensures.ok
