use Rattle.std.proofs.Common.{◌≡◌}
use Rattle.cp_lists.specs.Lists.{IsIn}
use Rattle.cp_model.specs.Skeleton.{Skeleton, IsNodeOf, IsOrderPair}
use Rattle.cp_model.specs.declared.node.OrderPair.{OrderPair}
use Rattle.cp_collapse.specs.FirstPartitions.{AreApart}
use Rattle.cp_collapse.proofs.kept_apart.put_reaching.Given as goal

abbrev pub invariant-loop-strand : goal.invariant-loop-strand
invariant-loop-strand l = (k : Skeleton) → k.pairs ≡ l.order → ((q : OrderPair) → IsIn q k.pairs → IsOrderPair k q) → IsNodeOf k.strands l.node → AreApart k l.fn.all.items → AreApart k l.all.items
