use Rattle.std.proofs.Common.{◌≡◌, ◌≤◌, List, length}
use Rattle.cp_model.specs.Strand.{Protocol}
use Rattle.cp_tree.specs.Made as plain
use Rattle.cp_search.specs.ResolvedLabels.{HasSearched}
use Rattle.cp_search.specs.WaitingRecords.{AreKept}
use Rattle.cp_search.proofs.WaitingLabels.{steps_waiting, left}
use Rattle.cp_search.proofs.label_search.resolve_leaves.Given as goal

abbrev pub invariant-loop-alloc : goal.invariant-loop-alloc
invariant-loop-alloc l = record {
  searched : (protocol : Protocol) (made : List plain.Made) → HasSearched protocol l.fn.limits made l.fn.search → HasSearched protocol l.fn.limits made l.search;
  within : length l.fn.search.settled.items ≤ length l.fn.search.queue.made → length l.search.settled.items ≤ length l.search.queue.made;
  expanded : l.search.expanded ≡ l.fn.search.expanded;
  kept : AreKept (length l.search.settled.items) l.search.queue;
}

abbrev pub decreases-loop-alloc : goal.decreases-loop-alloc
decreases-loop-alloc l = steps_waiting (left l.search.queue.made l.search.settled.items)
