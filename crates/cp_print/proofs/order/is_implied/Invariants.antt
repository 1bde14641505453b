use Rattle.std.proofs.Common.{◌≡◌, drop}
use Rattle.cp_print.specs.Order.{is_implied}
use Rattle.cp_print.proofs.order.is_implied.Given as goal

abbrev pub invariant-loop-entry : goal.invariant-loop-entry
invariant-loop-entry l = is_implied (drop l.entry-index l.entries) l.pair ≡ is_implied l.entries l.pair
