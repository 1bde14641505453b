use Rattle.std.proofs.Common.{drop}
use Rattle.cp_lists.specs.Lists.{IsIn}
use Rattle.cp_general.proofs.dropped_pair.place_from.Given as goal

abbrev pub invariant-loop-place : goal.invariant-loop-place
invariant-loop-place l = IsIn l.pair (drop l.from l.pairs) → IsIn l.pair (drop l.place l.pairs)
