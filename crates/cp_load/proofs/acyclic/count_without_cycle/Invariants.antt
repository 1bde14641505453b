use Rattle.std.proofs.Common.{◌≤◌, ◌-◌, length}
use Rattle.cp_load.specs.Acyclic.{IsAcyclicUpTo}
use Rattle.cp_load.proofs.acyclic.count_without_cycle.Given as goal

abbrev pub invariant-loop-known : goal.invariant-loop-known
invariant-loop-known l = (l.known ≤ l.refused) × (l.refused ≤ length l.pairs) × IsAcyclicUpTo l.known l.pairs

abbrev pub decreases-loop-known : goal.decreases-loop-known
decreases-loop-known l = l.refused - l.known
