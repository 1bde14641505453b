use Rattle.std.proofs.Common.{rules, ◌<◌, ◌≤◌, length, arith}
use Rattle.std.proofs.lemmas.List.{length-map}
use Rattle.cp_lists.proofs.Items.{item_of_read}
use Rattle.cp_skel.proofs.SoundSkeletons.{sound_prefixes}
use Rattle.cp_collapse.specs.Partials.{lists}
use Rattle.cp_collapse.proofs.CollapsesCover.{collapses_are_complete, standings_go_through}
use Rattle.cp_collapse.proofs.AllPartitions.{first_done, whole, none_more, one_more, all_done, none_of_these, one_of_these}
use Rattle.cp_collapse.proofs.PartialLists.{listed_at, exact_item}
use Rattle.cp_collapse.proofs.merged_skeletons.collapses.Goals as goal

pub partitions-requires : goal.partitions-requires
partitions-requires c = sound_prefixes c.args.k.now c.is_sound.ensures

pub loop-number-init : goal.loop-number-init
loop-number-init c = (first_done c.args.k.now (lists c.in_ok-partials.partials.items) c.in_ok-partials.ensures.partitions _ (c.new-collapses.ensures.items), omega arith, none_of_these c.args.k.now _ c.new-collapses.ensures.items)

pub collapse-requires-clause-declared : goal.collapse-requires-clause-declared
collapse-requires-clause-declared c = sound_prefixes c.args.k.now c.is_sound.ensures

pub collapse-requires-clause-partition : goal.collapse-requires-clause-partition
collapse-requires-clause-partition c =
    let below : c.loop-number.number < length c.in_ok-partials.partials.items = search rules in
    whole c.args.k.now (lists c.in_ok-partials.partials.items) c.in_ok-partials.ensures.partitions c.loop-number.number _ (listed_at c.in_ok-partials.partials.items c.loop-number.number c.index.result.now (item_of_read _ _ _ below c.index.ensures))

pub collapse-requires-clause-exact : goal.collapse-requires-clause-exact
collapse-requires-clause-exact c =
    let below : c.loop-number.number < length c.in_ok-partials.partials.items = search rules in
    exact_item c.args.k.now _ c.in_ok-partials.partials.items c.loop-number.number c.index.result.now c.in_ok-partials.ensures (item_of_read _ _ _ below c.index.ensures)

pub loop-number-preserved-in-None : goal.loop-number-preserved-in-None
loop-number-preserved-in-None c =
    let below : c.loop-number.number < length c.in_ok-partials.partials.items = search rules in
    let le = c.loop-number.invariant.1 in (
      none_more c.args.k.now (lists c.in_ok-partials.partials.items) c.in_ok-partials.ensures.partitions c.loop-number.number c.index.result.now.lowest.items (listed_at c.in_ok-partials.partials.items c.loop-number.number c.index.result.now (item_of_read _ _ _ below c.index.ensures))
          c.loop-number.collapses.items c.loop-number.invariant.0 (rw c.in-None.is at c.in_ok-collapsed.ensures),
      omega (arith, le),
      c.loop-number.invariant.2,
    )

pub loop-number-preserved : goal.loop-number-preserved
loop-number-preserved c =
    let below : c.loop-number.number < length c.in_ok-partials.partials.items = search rules in
    let le = c.loop-number.invariant.1 in
    let r = (rw c.in-Some.is at c.in_ok-collapsed.ensures) in (
      one_more c.args.k.now (lists c.in_ok-partials.partials.items) c.in_ok-partials.ensures.partitions c.loop-number.number c.index.result.now.lowest.items (listed_at c.in_ok-partials.partials.items c.loop-number.number c.index.result.now (item_of_read _ _ _ below c.index.ensures))
          c.loop-number.collapses.items c.loop-number.invariant.0 le c.in-Some.collapsed _ r.0 r.1 (c.in_ok-push.ensures.items),
      omega (arith, le),
      one_of_these c.args.k.now c.loop-number.collapses.items _ c.in-Some.collapsed c.loop-number.invariant.2 r.2 c.in_ok-push.ensures.items,
    )

pub returns-clause-exact : goal.returns-clause-exact
returns-clause-exact c =
    let done : length c.in_ok-partials.partials.items ≤ c.loop-number.number = search rules in
    let e = length-map c.in_ok-partials.partials.items (λ p. p.lowest.items) in
    all_done c.args.k.now (lists c.in_ok-partials.partials.items) c.in_ok-partials.ensures.partitions c.loop-number.number _ (omega (arith, done, e)) c.loop-number.invariant.0

pub returns-clause-covers : goal.returns-clause-covers
returns-clause-covers c =
    let done : length c.in_ok-partials.partials.items ≤ c.loop-number.number = search rules in
    let e = length-map c.in_ok-partials.partials.items (λ p. p.lowest.items) in
    λ protocol sk. collapses_are_complete protocol c.args.k.now _ sk (all_done c.args.k.now (lists c.in_ok-partials.partials.items) c.in_ok-partials.ensures.partitions c.loop-number.number _ (omega (arith, done, e)) c.loop-number.invariant.0)

pub returns-clause-through : goal.returns-clause-through
returns-clause-through c =
    let done : length c.in_ok-partials.partials.items ≤ c.loop-number.number = search rules in
    let e = length-map c.in_ok-partials.partials.items (λ p. p.lowest.items) in
    λ protocol b h sk. standings_go_through protocol c.args.k.now _ b h sk (all_done c.args.k.now (lists c.in_ok-partials.partials.items) c.in_ok-partials.ensures.partitions c.loop-number.number _ (omega (arith, done, e)) c.loop-number.invariant.0)

pub returns-clause-variables : goal.returns-clause-variables
returns-clause-variables c = λ l i. c.loop-number.invariant.2 l i
