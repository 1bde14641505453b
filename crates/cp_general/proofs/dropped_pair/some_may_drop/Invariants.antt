use Rattle.std.proofs.Common.{drop}
use Rattle.cp_general.proofs.Stepped.{PassedOrLeft}
use Rattle.cp_general.proofs.dropped_pair.some_may_drop.Given as goal

abbrev pub invariant-loop-pair : goal.invariant-loop-pair
invariant-loop-pair l = PassedOrLeft l.k (drop l.pair-index l.pair-items)
