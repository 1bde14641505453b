use Rattle.std.proofs.Common.{◌+◌, length}
use Rattle.cp_order.specs.PredecessorNodes.{tops_in, waiting, IsGathered}
use Rattle.cp_order.proofs.predecessors.SortedPairs.predecessors_of.Given as goal

abbrev pub invariant-loop-next : goal.invariant-loop-next
invariant-loop-next l = IsGathered l.sorted l.fn.node (tops_in l.tops) l.work.items

abbrev pub decreases-loop-next : goal.decreases-loop-next
decreases-loop-next l = waiting (tops_in l.tops) l.sorted + length l.work.items
