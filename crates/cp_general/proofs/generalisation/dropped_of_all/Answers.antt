use Rattle.std.proofs.Common.{◌∙◌}
use Rattle.cp_general.proofs.Stepped.{way_goes_on, way_ends, added_still}
use Rattle.cp_general.proofs.generalisation.dropped_of_all.Goals as goal

pub loop-left-init : goal.loop-left-init
loop-left-init c =
    let all = c.args.all.now in
    let first = rw c.in-Some.is at c.in_ok-left.ensures.some in
    record {
      lists = first.leaves.lists;
      fit = first.leaves.fit;
      added = added_still all c.in-Some.left first.leaves.drops.same c.args.added.now c.requires.added;
      way = λ k begins. begins c.in-Some.left first;
      variables = rw c.in-Some.is at c.in_ok-left.ensures.variables;
    }

pub loop-left-preserved : goal.loop-left-preserved
loop-left-preserved c =
    let left = c.loop-left.left in
    let drops = rw c.in-Some-2.is at c.in_ok-next.ensures.some in
    record {
      lists = drops.leaves.lists;
      fit = drops.leaves.fit;
      added = added_still left c.in-Some-2.next drops.leaves.drops.same c.args.added.now c.loop-left.invariant.added;
      way = λ first begins. way_goes_on first left c.in-Some-2.next (c.loop-left.invariant.way first begins) drops;
      variables = (rw c.in-Some-2.is at c.in_ok-next.ensures.variables) ∙ c.loop-left.invariant.variables;
    }

pub returns-clause-some : goal.returns-clause-some
returns-clause-some c = λ k begins. way_ends k c.loop-left.left (c.loop-left.invariant.way k begins) (rw c.in_default-2.is at c.in_ok-next.ensures.none)
