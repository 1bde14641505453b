use Rattle.std.proofs.Common.{◌<◌, length}
use Rattle.cp_derive.proofs.receptions.start_of_last.Given as goal

abbrev pub invariant-loop-start : goal.invariant-loop-start
invariant-loop-start l = l.start < length l.occurrences

abbrev pub decreases-loop-start : goal.decreases-loop-start
decreases-loop-start l = l.start
