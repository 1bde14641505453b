use Rattle.std.proofs.Common.{subst}
use Rattle.cp_lists.specs.Lists.{IsIn}
use Rattle.cp_lists.proofs.Items.{item_of_read}
use Rattle.cp_collapse.specs.Partials.{lists}
use Rattle.cp_collapse.proofs.PartialLists.{listed_at, partition_at, exact_item, next_partly, round_done}
use Rattle.cp_collapse.proofs.partitions.round.Goals as goal

pub extend-requires-clause-partition : goal.extend-requires-clause-partition
extend-requires-clause-partition c =
    partition_at c.args.k.now c.args.number c.args.partials.now c.loop-partial.partial-index c.partial-item.result c.requires.partials (item_of_read _ _ _ c.loop-partial-test.true c.partial-item.is)

pub extend-requires-clause-exact : goal.extend-requires-clause-exact
extend-requires-clause-exact c =
    exact_item c.args.k.now c.args.number c.args.partials.now c.loop-partial.partial-index c.partial-item.result c.requires.partials (item_of_read _ _ _ c.loop-partial-test.true c.partial-item.is)

pub extend-requires-clause-apart : goal.extend-requires-clause-apart
extend-requires-clause-apart c = λ t i. c.in_ok-apart.ensures c.args.k.now c.requires.apart t (subst (IsIn t) c.deref.ensures.value i)

pub loop-partial-preserved : goal.loop-partial-preserved
loop-partial-preserved c =
    next_partly c.args.k.now c.args.number (lists c.args.partials.now) c.loop-partial.partial-index _
    (c.in_ok-extend.ensures (lists c.args.partials.now) c.loop-partial.partial-index (listed_at c.args.partials.now c.loop-partial.partial-index c.partial-item.result (item_of_read _ _ _ c.loop-partial-test.true c.partial-item.is)) c.requires.partials.partitions.descending c.loop-partial.invariant)

pub returns : goal.returns
returns c = round_done c.args.k.now c.args.number c.args.partials.now c.loop-partial.next.items c.loop-partial.partial-index c.loop-partial-test.false c.requires.partials c.loop-partial.invariant
