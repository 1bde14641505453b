use Rattle.std.proofs.Common.{◌≡◌, drop}
use Rattle.cp_model.specs.OrderTests.{any_pair}
use Rattle.cp_order.specs.Rows.{ends_at}
use Rattle.cp_order.proofs.closed.some_ends_at.Given as goal

abbrev pub invariant-loop-pair : goal.invariant-loop-pair
invariant-loop-pair l = any_pair (ends_at l.node) (drop l.pair-index l.pairs) ≡ any_pair (ends_at l.node) l.pairs
