use Rattle.std.proofs.Common.{◌≡◌, drop}
use Rattle.cp_model.specs.OrderTests.{any_pair}
use Rattle.cp_general.specs.ListedPairs.{is_same_pair}
use Rattle.cp_general.proofs.dropped_pair.is_among.Given as goal

abbrev pub invariant-loop-other : goal.invariant-loop-other
invariant-loop-other l = any_pair (is_same_pair l.pair) (drop l.other-index l.pairs) ≡ any_pair (is_same_pair l.pair) l.pairs
