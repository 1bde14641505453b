use Rattle.std.proofs.Common.{drop}
use Rattle.cp_collapse.specs.Property.{Has}
use Rattle.cp_general.specs.ListedPairs.{IsInNeither}
use Rattle.cp_general.proofs.dropped_pair.some_is_in_neither.Given as goal

abbrev pub invariant-loop-pair : goal.invariant-loop-pair
invariant-loop-pair l = Has (IsInNeither l.first l.second) l.pairs → Has (IsInNeither l.first l.second) (drop l.pair-index l.pairs)
