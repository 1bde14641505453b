use Rattle.std.proofs.Common.{◌≡◌, drop}
use Rattle.cp_report.specs.Skeletons.{has_pair}
use Rattle.cp_stated.proofs.order.has_pair.Given as goal

abbrev pub invariant-loop-other : goal.invariant-loop-other
invariant-loop-other l = has_pair (drop l.other-index l.pairs) l.pair ≡ has_pair l.pairs l.pair
