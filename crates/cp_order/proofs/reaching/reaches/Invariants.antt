use Rattle.std.proofs.Common.{◌≡◌, drop}
use Rattle.cp_model.specs.OrderTests.{any_pair, at_or_after}
use Rattle.cp_order.proofs.reaching.reaches.Given as goal

abbrev pub invariant-loop-pair : goal.invariant-loop-pair
invariant-loop-pair l = any_pair (λ p. at_or_after p.later l.second) (drop l.pair-index l.pairs) ≡ any_pair (λ p. at_or_after p.later l.second) l.pairs
