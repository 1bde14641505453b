use Rattle.std.proofs.Common.{◌≡◌, drop}
use Rattle.cp_model.specs.OrderTests.{any_pair}
use Rattle.cp_print.specs.Order.{enters_too}
use Rattle.cp_print.proofs.order.some_enters_too.Given as goal

abbrev pub invariant-loop-other : goal.invariant-loop-other
invariant-loop-other l = any_pair (enters_too l.pair) (drop l.other-index l.pairs) ≡ any_pair (enters_too l.pair) l.pairs
