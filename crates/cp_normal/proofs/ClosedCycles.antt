-- With the pairs that are added, a cycle of the order is one that such a pair closes.
use Rattle.std.proofs.Common.{◌≡◌, ◌⊎◌, inl, inr, List, Some, refl, sym, subst, ap, arith}
use Rattle.cp_lists.specs.Lists.{IsIn, one_step, more_steps}
use Rattle.cp_model.specs.declared.strand.Event.TheVariants.{Send as send}
use Rattle.cp_model.specs.declared.node.Node.{Node}
use Rattle.cp_model.specs.Skeleton.{UniqueAt, Skeleton, OrderStep, along_strand_of, along_pair, Before, IsOrderPair, IsOrigin, IsNodeOf, term_event_at}
use Rattle.cp_model.specs.declared.node.OrderPair.{OrderPair}
use Rattle.cp_model.specs.Order.{ReachesAlong, on_strand}
use Rattle.cp_model.proofs.LawOrder.{before_leads, leads_before, before_wider}
use Rattle.cp_theory.specs.Normal.{with_pairs}
use Rattle.cp_collapse.specs.Property.{Has}
use Rattle.cp_collapse.specs.Cycles.{ClosesCycleAt}
use Rattle.cp_normal.specs.Findings.{IsAddedPair, AreNormalPairs, ClosesCycle}

module _ (k : Skeleton) (pairs : List OrderPair) (normal : AreNormalPairs k pairs) where
  -- y is x or comes after it.
  abbrev Reaches : Node → Node → Type 0
  Reaches x y = (x ≡ y) ⊎ Before (with_pairs k pairs) x y

  -- The way from x to y goes over a pair that is added.
  record IsOver (x y : Node) : Type 0 where
    pair : OrderPair
    added : IsAddedPair k pair
    from : Reaches x pair.earlier
    to : Reaches pair.later y

  abbrev Splits : Node → Node → Type 0
  Splits x y = Before k x y ⊎ IsOver x y

  then_reaches : (x y z : Node) → OrderStep (with_pairs k pairs) x y → Reaches y z → Reaches x z
  then_reaches x y z s (inl e) = inr (one_step (subst (OrderStep (with_pairs k pairs) x) e s))
  then_reaches x y z s (inr b) = inr (more_steps s b)

  split_then : (x y z : Node) → OrderStep (with_pairs k pairs) x y → OrderStep k x y → Splits y z → Splits x z
  split_then x y z s t (inl b) = inl (more_steps t b)
  split_then x y z s t (inr o) = inr (record { pair = o.pair; added = o.added; from = then_reaches x y o.pair.earlier s o.from; to = o.to })

  pair_alone : (p : OrderPair) → IsIn p k.pairs ⊎ IsAddedPair k p → Splits p.earlier p.later
  pair_alone p (inl own) = inl (one_step (along_pair own))
  pair_alone p (inr added) = inr (record { pair = p; added = added; from = inl refl; to = inl refl })

  pair_then : (p : OrderPair) (z : Node) → IsIn p pairs → Before (with_pairs k pairs) p.later z → Splits p.later z → IsIn p k.pairs ⊎ IsAddedPair k p → Splits p.earlier z
  pair_then p z inp b rest (inl own) = split_then p.earlier p.later z (along_pair inp) (along_pair own) rest
  pair_then p z inp b rest (inr added) = inr (record { pair = p; added = added; from = inl refl; to = inr b })

  step_alone : (x y : Node) → OrderStep (with_pairs k pairs) x y → Splits x y
  step_alone x y (along_strand_of e) = inl (one_step (along_strand_of e))
  step_alone x y (along_pair {p} inp) = pair_alone p ((normal p).0 inp)

  step_then : (x y z : Node) → OrderStep (with_pairs k pairs) x y → Before (with_pairs k pairs) y z → Splits y z → Splits x z
  step_then x y z (along_strand_of e) b rest = split_then x y z (along_strand_of e) (along_strand_of e) rest
  step_then x y z (along_pair {p} inp) b rest = pair_then p z inp b rest ((normal p).0 inp)

  splits : (x y : Node) → Before (with_pairs k pairs) x y → Splits x y
  splits x y (one_step s) = step_alone x y s
  splits x z (more_steps {y} s b) = step_then x y z s b (splits y z b)

  joined : (x y z : Node) → Before (with_pairs k pairs) x y → Before (with_pairs k pairs) y z → Before (with_pairs k pairs) x z
  joined x y z (one_step s) b = more_steps s b
  joined x y z (more_steps {y = w} s a) b = more_steps s (joined w y z a b)

  reaches_both : (x y z : Node) → Reaches x y → Reaches y z → Reaches x z
  reaches_both x y z (inl e) r = subst (λ (w : Node). Reaches w z) (sym e) r
  reaches_both x y z (inr a) (inl e) = inr (subst (Before (with_pairs k pairs) x) e a)
  reaches_both x y z (inr a) (inr b) = inr (joined x y z a b)

  leads : (x y : Node) → Reaches x y → ReachesAlong pairs x y
  leads x y (inl e) = on_strand (ap (λ n. n.strand) e, let i = ap (λ (n : Node). n.index) e in omega (arith, i))
  leads x y (inr b) = before_leads (with_pairs k pairs) x y b

  -- A cycle is closed at the recorded origin of a unique value.
  closed_of_over : (n : Node) → IsOver n n → Has (λ u. ClosesCycleAt pairs u.origin) k.assumptions.uniquely_originating
  closed_of_over n o =
      let back : Reaches o.pair.later o.pair.earlier = reaches_both o.pair.later n o.pair.earlier o.to o.from in
      let origin = o.added.0 in (
        origin.entry,
        origin.listed,
        (o.pair, (normal o.pair).1 (inr o.added), (origin.from_origin, subst (ReachesAlong pairs o.pair.later) origin.from_origin (leads o.pair.later o.pair.earlier back))),
      )

  closed_of_splits : ((n : Node) → Before k n n → ⊥) → (n : Node) → Splits n n → Has (λ u. ClosesCycleAt pairs u.origin) k.assumptions.uniquely_originating
  closed_of_splits no_cycle n (inl b) = absurd (no_cycle n b)
  closed_of_splits no_cycle n (inr o) = closed_of_over n o

  pub closed_if_cycle : ((n : Node) → Before k n n → ⊥) → (n : Node) → Before (with_pairs k pairs) n n → Has (λ u. ClosesCycleAt pairs u.origin) k.assumptions.uniquely_originating
  closed_if_cycle no_cycle n b = closed_of_splits no_cycle n (splits n n b)

  -- ---- what is closed is a cycle

  is_order_pair : ((p : OrderPair) → IsIn p k.pairs → IsOrderPair k p) → ((u : UniqueAt) → IsIn u k.assumptions.uniquely_originating → IsOrigin k u) → (p : OrderPair) → IsIn p k.pairs ⊎ IsAddedPair k p → IsOrderPair (with_pairs k pairs) p
  is_order_pair own origins p (inl inp) =
      let o = own p inp in
      record { sent = o.sent; received = o.received; transmission = o.transmission; reception = o.reception; between_strands = o.between_strands }
  is_order_pair own origins p (inr added) =
      let a = added.0 in
      let o = origins a.entry a.listed in
      record {
        sent = o.sent;
        received = a.received;
        transmission = subst (λ (n : Node). term_event_at k.strands n ≡ Some (send o.sent)) (sym a.from_origin) o.transmission;
        reception = a.reception;
        between_strands = added.1;
      }

  closes : (p : OrderPair) → IsIn p pairs → (n : Node) → p.earlier ≡ n → (p.later ≡ n) ⊎ Before (with_pairs k pairs) p.later n → Before (with_pairs k pairs) n n
  closes p inp n e (inl f) = subst (λ (m : Node). Before (with_pairs k pairs) m n) e (subst (Before (with_pairs k pairs) p.earlier) f (one_step (along_pair inp)))
  closes p inp n e (inr b) = subst (λ (m : Node). Before (with_pairs k pairs) m n) e (more_steps (along_pair inp) b)

  pub cycle_if_closed : ((p : OrderPair) → IsIn p k.pairs → IsOrderPair k p) → ((u : UniqueAt) → IsIn u k.assumptions.uniquely_originating → IsOrigin k u) →
      Has (λ u. ClosesCycleAt pairs u.origin) k.assumptions.uniquely_originating → ClosesCycle k
  cycle_if_closed own origins h =
      let o = origins h.0 h.1 in
      let c : ClosesCycleAt pairs h.0.origin = h.2 in
      let node : IsNodeOf k.strands h.0.origin = (send o.sent, o.transmission) in
      let back = leads_before (with_pairs k pairs) (λ p inp. is_order_pair own origins p ((normal p).0 inp)) c.0.later h.0.origin node c.2.1 in
      record { pairs = pairs; normal = normal; node = h.0.origin; cycle = closes c.0 c.1 h.0.origin c.2.0 back }

-- ---- the pairs of a normal form are known up to their order

pub cycle_of_these : (k : Skeleton) (pairs : List OrderPair) → AreNormalPairs k pairs → (c : ClosesCycle k) → Before (with_pairs k pairs) c.node c.node
cycle_of_these k pairs normal c = before_wider (with_pairs k c.pairs) (with_pairs k pairs) refl (λ p inp. (normal p).1 ((c.normal p).0 inp)) c.cycle
