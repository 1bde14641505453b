use Rattle.std.proofs.Common.{List, map, drop}
use Rattle.cp_model.specs.declared.node.OrderPair.{OrderPair}
use Rattle.cp_order.specs.PredecessorNodes.{tops_of}
use Rattle.cp_load.specs.Acyclic.{IsSwept}
use Rattle.cp_load.proofs.acyclic.none_leads_back.Given as goal

abbrev pub invariant-loop-next : goal.invariant-loop-next
invariant-loop-next l =
    (done : List OrderPair) × IsSwept (map (λ r. r.pair) l.ranked) (map (λ r. r.pair) (drop l.next-index l.ranked)) done (tops_of l.tops)
