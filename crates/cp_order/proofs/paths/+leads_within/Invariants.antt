use Rattle.std.proofs.Common.{◌≡◌, ◌-◌, ◌&&◌, drop}
use Rattle.cp_model.specs.OrderTests.{at_or_after, any_pair, reaches_within}
use Rattle.cp_order.proofs.paths.+leads_within.Given as goal

abbrev pub decreases-leads_within : goal.decreases-leads_within
decreases-leads_within l = l.count

abbrev pub invariant-loop-pair : goal.invariant-loop-pair
invariant-loop-pair l =
    any_pair (λ p. at_or_after l.x p.earlier && reaches_within (l.count - 1) l.pairs p.later l.y) (drop l.pair-index l.pairs)
    ≡ any_pair (λ p. at_or_after l.x p.earlier && reaches_within (l.count - 1) l.pairs p.later l.y) l.pairs
