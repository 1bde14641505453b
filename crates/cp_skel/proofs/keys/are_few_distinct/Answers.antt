use Rattle.std.proofs.Common.{sym, subst}
use Rattle.std.proofs.lemmas.Bool.{both_ways}
use Rattle.cp_lists.specs.Lists.{IsIn}
use Rattle.cp_skel.proofs.KeyLaws.{once_first, once_more}
use Rattle.cp_skel.proofs.keys.are_few_distinct.Goals as goal

pub loop-index-init : goal.loop-index-init
loop-index-init g c = once_first c.args.items.now

pub loop-index-preserved : goal.loop-index-preserved
loop-index-preserved g c =
    let item = c.index-items-index.result in
    once_more c.args.items.now c.loop-index.index item c.loop-index-test.true c.index-items-index.is
    (λ i. both_ways c.has.result c.if-has.false (c.has.ensures.1 (subst (IsIn item) (sym c.split_at.ensures.front) i))) c.loop-index.invariant
