use Rattle.std.proofs.Common.{◌≤◌}
use Rattle.cp_collapse.specs.FirstPartitions.{AreCollapsedTo}
use Rattle.cp_collapse.specs.Partials.{lists}
use Rattle.cp_collapse.proofs.AllPartitions.{HaveVariablesOf}
use Rattle.cp_collapse.proofs.merged_skeletons.collapses.Given as goal

abbrev pub invariant-loop-number : goal.invariant-loop-number
invariant-loop-number l = AreCollapsedTo l.k (lists l.partials.items) l.number l.collapses.items × (1 ≤ l.number) × HaveVariablesOf l.k l.collapses.items
