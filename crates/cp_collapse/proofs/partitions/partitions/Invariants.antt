use Rattle.std.proofs.Common.{◌≤◌, length}
use Rattle.cp_collapse.specs.Partials.{ArePartials}
use Rattle.cp_collapse.proofs.partitions.partitions.Given as goal

abbrev pub invariant-loop-number : goal.invariant-loop-number
invariant-loop-number l = (l.number ≤ length l.k.strands) × ArePartials l.k l.number l.partials.items
