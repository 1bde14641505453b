use Rattle.std.proofs.Common.{drop}
use Rattle.cp_model.specs.declared.node.OrderPair.{OrderPair}
use Rattle.cp_model.specs.Order.{ReachesAlong}
use Rattle.cp_normal.proofs.AllItems.{HasOrLeft}
use Rattle.cp_normal.proofs.own_pairs.lead_along.Given as goal

abbrev pub invariant-loop-pair : goal.invariant-loop-pair
invariant-loop-pair l = HasOrLeft (λ (p : OrderPair). ReachesAlong l.order p.earlier p.later) l.pairs (drop l.pair-index l.pairs)
