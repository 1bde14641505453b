use Rattle.std.proofs.Common.{◌-◌, length, map}
use Rattle.cp_tree.specs.Made.{made_of_root}
use Rattle.cp_search.specs.ResolvedLabels.{HasSearched}
use Rattle.cp_search.specs.WaitingRecords.{AreKept}
use Rattle.cp_search.proofs.label_search.search_from.Given as goal

abbrev pub invariant-loop-search : goal.invariant-loop-search
invariant-loop-search l = HasSearched l.fn.protocol l.fn.limits (map made_of_root l.fn.roots.items) l.search × AreKept (length l.search.settled.items) l.search.queue

abbrev pub decreases-loop-search : goal.decreases-loop-search
decreases-loop-search l = l.fn.limits.steps - l.search.expanded
