use Rattle.std.proofs.Common.{◌≡◌, drop}
use Rattle.cp_language.specs.Problems.{at_or_after, any_pair}
use Rattle.cp_load.proofs.orders.some_ends_before.Given as goal

abbrev pub invariant-loop-pair : goal.invariant-loop-pair
invariant-loop-pair l =
    any_pair (λ p. at_or_after p.later l.node) (drop l.pair-index l.pairs)
    ≡ any_pair (λ p. at_or_after p.later l.node) l.pairs
