-- The order that a problem states itself.
use Rattle.std.proofs.Common.{◌≡◌, sym, subst}
use Rattle.cp_lists.specs.Lists.{IsIn, one_step}
use Rattle.cp_model.specs.declared.node.OrderPair.{OrderPair}
use Rattle.cp_model.specs.Skeleton.{Skeleton, along_pair, Before, IsOrderPair}
use Rattle.cp_model.specs.PointOfView.{HasOwnOrder}

-- A skeleton whose problem states its pairs has the order that its problem states.
pub own_if_same : (k : Skeleton) → ((p : OrderPair) → IsIn p k.pairs → IsOrderPair k p) → k.from_problem.pairs ≡ k.pairs → HasOwnOrder k
own_if_same k order_pairs same = record {
  between = λ p i. (order_pairs p (subst (IsIn p) same i)).between_strands;
  order = λ x y. (subst (λ ps. Before (record k { pairs = ps }) x y) same, subst (λ ps. Before (record k { pairs = ps }) x y) (sym same));
}

-- A pair that the problem states is in the skeleton's order.
pub own_before : (k : Skeleton) → HasOwnOrder k → (p : OrderPair) → IsIn p k.from_problem.pairs → Before k p.earlier p.later
own_before k own p i = (own.order p.earlier p.later).0 (one_step (along_pair i))
