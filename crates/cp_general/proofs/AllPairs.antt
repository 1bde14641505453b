-- A skeleton with all pairs of its order.
use Rattle.std.proofs.Common.{◌≡◌, ◌↔◌, List, sym, ap, ◌∙◌, subst}
use Rattle.cp_lists.specs.Lists.{one_step, more_steps}
use Rattle.cp_model.specs.Skeleton.{Skeleton, OrderStep, along_strand_of, along_pair, Before, IsOrderPair}
use Rattle.cp_model.specs.declared.node.Node.{Node}
use Rattle.cp_model.specs.declared.node.OrderPair.{OrderPair}
use Rattle.cp_skel.specs.Ordered.{IsOrdered, ordered_by}
use Rattle.cp_skel.specs.Sound.{IsSound}
use Rattle.cp_skel.proofs.SoundSkeletons.{sound_ordered, reordered_sound}
use Rattle.cp_general.specs.ListedPairs.{ListsOrder}
use Rattle.cp_general.proofs.Dropped.{way_back}

module _ (k : Skeleton) (sound : IsSound k) (ps : List OrderPair) (lists : ListsOrder k ps) where
  abbrev whole : Skeleton
  whole = ordered_by k ps

  step_to : (x y : Node) → OrderStep k x y → OrderStep whole x y
  step_to x y (along_strand_of e) = along_strand_of e
  step_to x y (along_pair {p = q} m) = along_pair ((lists.each q).1 (record { pair = sound.skeleton.order_pairs q m; ordered = one_step (along_pair m) }))

  way_to : (x y : Node) → Before k x y → Before whole x y
  way_to x y (one_step s) = one_step (step_to x y s)
  way_to x z (more_steps {y = y} s r) = more_steps (step_to x y s) (way_to y z r)

  way_from : (x y : Node) → Before whole x y → Before k x y
  way_from = way_back k ps (λ q m. ((lists.each q).0 m).ordered)

  pair_to : (q : OrderPair) → IsOrderPair k q → IsOrderPair whole q
  pair_to q o = record { sent = o.sent; received = o.received; transmission = o.transmission; reception = o.reception; between_strands = o.between_strands }

  pair_from : (q : OrderPair) → IsOrderPair whole q → IsOrderPair k q
  pair_from q o = record { sent = o.sent; received = o.received; transmission = o.transmission; reception = o.reception; between_strands = o.between_strands }

  whole_ordered : IsOrdered whole
  whole_ordered = record { order_pairs = λ q m. pair_to q ((lists.each q).0 m).pair; no_cycle = λ n b. (sound_ordered k sound).no_cycle n (way_from n n b) }

  pub whole_sound : IsSound whole
  whole_sound = reordered_sound k ps sound whole_ordered way_to

  pub whole_lists : ListsOrder whole ps
  whole_lists = record {
    each = λ q. (
      λ m. let o = (lists.each q).0 m in record { pair = pair_to q o.pair; ordered = way_to q.earlier q.later o.ordered },
      λ h. (lists.each q).1 (record { pair = pair_from q h.pair; ordered = way_from q.earlier q.later h.ordered }),
    );
    rising = lists.rising;
  }

  pub whole_before : (x y : Node) → Before whole x y ↔ Before k x y
  whole_before x y = (way_from x y, way_to x y)

-- ---- as the program makes it

pub sound_by : (k : Skeleton) (ps order : List OrderPair) → IsSound k → ListsOrder k ps → order ≡ ps → IsSound (ordered_by k order)
sound_by k ps order sound lists same = subst (λ qs. IsSound (ordered_by k qs)) (sym same) (whole_sound k sound ps lists)

-- The skeleton, and the same with all pairs of its order.
pub record HasAllPairs (k h : Skeleton) : Type 0 where
  pub same : h ≡ record k { pairs = h.pairs }
  pub before : (x y : Node) → Before h x y ↔ Before k x y
  pub lists : ListsOrder h h.pairs

module _ (k h : Skeleton) (ps order : List OrderPair) (sound : IsSound k) (lists : ListsOrder k ps) (same : order ≡ ps) (made : h ≡ record k { pairs = order }) where
  order_is : h.pairs ≡ order
  order_is = ap (λ (d : Skeleton). d.pairs) made

  to_whole : h ≡ ordered_by k ps
  to_whole = made ∙ ap (ordered_by k) same

  pub made_whole : HasAllPairs k h
  made_whole = record {
    same = made ∙ ap (λ (qs : List OrderPair). record k { pairs = qs }) (sym order_is);
    before = λ x y. subst (λ (z : Skeleton). Before z x y ↔ Before k x y) (sym to_whole) (whole_before k sound ps lists x y);
    lists = subst (ListsOrder h) (sym (order_is ∙ same)) (subst (λ (z : Skeleton). ListsOrder z ps) (sym to_whole) (whole_lists k sound ps lists));
  }
