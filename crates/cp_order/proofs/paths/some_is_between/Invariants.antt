use Rattle.std.proofs.Common.{◌≡◌, drop}
use Rattle.cp_model.specs.OrderTests.{any_pair}
use Rattle.cp_order.specs.Composed.{is_between}
use Rattle.cp_order.proofs.paths.some_is_between.Given as goal

abbrev pub invariant-loop-pair : goal.invariant-loop-pair
invariant-loop-pair l =
    any_pair (is_between l.x l.y) (drop l.pair-index l.pairs)
    ≡ any_pair (is_between l.x l.y) l.pairs
