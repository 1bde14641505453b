use Rattle.std.proofs.Common.{◌+◌}
use Rattle.cp_collapse.specs.Partials.{lists, ArePartlyExtended}
use Rattle.cp_collapse.proofs.partitions.round.Given as goal

abbrev pub invariant-loop-partial : goal.invariant-loop-partial
invariant-loop-partial l = ArePartlyExtended l.k l.number (lists l.partials) l.partial-index (l.number + 1) l.next.items
