-- A skeleton whose pairs are replaced by such as order in the same way, and one with a pair that closes no cycle.
use Rattle.std.proofs.Common.{◌≡◌, ◌≢◌, ◌↔◌, ◌⊎◌, inl, inr, ℕ, ◌≤◌, List, ◌∷◌, Bool, true, false, refl, sym, ap, subst, arith}
use Rattle.std.specs.Prelude.{Some}
use Rattle.cp_lists.specs.Lists.{IsIn, here, there, one_step, more_steps}
use Rattle.cp_model.specs.declared.strand.Event.TheVariants.{Send as send, Receive as recv}
use Rattle.cp_model.specs.declared.node.Node.{Node}
use Rattle.cp_model.specs.Skeleton.{term_event_at, IsNodeOf, Skeleton, OrderStep, along_strand_of, along_pair, Before, IsOrderPair}
use Rattle.cp_model.specs.declared.node.OrderPair.{OrderPair}
use Rattle.cp_model.specs.Order.{IsAtOrAfter, ReachesAlong, on_strand}
use Rattle.cp_lists.proofs.Reached.{steps_append}
use Rattle.cp_model.proofs.CarriedParts.{not_both}
use Rattle.cp_model.proofs.LawOrder.{before_by_pairs}
use Rattle.cp_order.specs.Closed.{IsComposedOf, KeepsOrder}
use Rattle.cp_skel.specs.Ordered.{IsOrdered, ordered_by}
use Rattle.cp_order.proofs.AlongPairs.{pair_led}

-- ---- what an order tells

pub asked_before : (k : Skeleton) (x y : Node) (leads : Bool) → IsOrdered k → IsNodeOf k.strands y → (x ≡ y → ⊥) → (leads ≡ true) ↔ ReachesAlong k.pairs x y → (leads ≡ true) ↔ Before k x y
asked_before k x y leads ordered at other l =
    let law = before_by_pairs k ordered.order_pairs ordered.no_cycle x y at in
    (λ h. law.1 (l.0 h, other), λ b. l.1 (law.0 b).0)

-- Whether a pair's later node is before its earlier one.
asked_back : (k : Skeleton) (p : OrderPair) (leads : Bool) → IsOrdered k → IsOrderPair k p → (leads ≡ true) ↔ ReachesAlong k.pairs p.later p.earlier → (leads ≡ true) ↔ Before k p.later p.earlier
asked_back k p leads ordered pair l =
    asked_before k p.later p.earlier leads ordered (send pair.sent, pair.transmission) (λ e. pair.between_strands (sym (ap (λ (n : Node). n.strand) e))) l

pub leads_back : (k : Skeleton) (p : OrderPair) (leads : Bool) → IsOrdered k → IsOrderPair k p → (leads ≡ true) ↔ ReachesAlong k.pairs p.later p.earlier → leads ≡ true → Before k p.later p.earlier
leads_back k p leads ordered pair l h = (asked_back k p leads ordered pair l).0 h

pub leads_not_back : (k : Skeleton) (p : OrderPair) (leads : Bool) → IsOrdered k → IsOrderPair k p → (leads ≡ true) ↔ ReachesAlong k.pairs p.later p.earlier → leads ≡ false → Before k p.later p.earlier → ⊥
leads_not_back k p leads ordered pair l h b = not_both h ((asked_back k p leads ordered pair l).1 b)

-- ---- pairs that order in the same way

pair_at : (k : Skeleton) (p : OrderPair) → IsOrderPair k p → IsNodeOf k.strands p.later
pair_at k p h = (recv h.received, h.reception)

apart : (k : Skeleton) (p : OrderPair) → IsOrderPair k p → p.earlier ≡ p.later → ⊥
apart k p h e = h.between_strands (ap (λ (n : Node). n.strand) e)

-- one pair of an ordered skeleton, by what reaches what
before_of : (k : Skeleton) → IsOrdered k → (x y : Node) → IsNodeOf k.strands y → ReachesAlong k.pairs x y → (x ≡ y → ⊥) → Before k x y
before_of k ordered x y at l other = (before_by_pairs k ordered.order_pairs ordered.no_cycle x y at).1 (l, other)

other_way : (i j : ℕ) → (i ≤ j → ⊥) → j ≤ i
other_way i j h = omega arith

module _ (k : Skeleton) (ordered : IsOrdered k) (ps : List OrderPair) (keeps : KeepsOrder k.pairs ps) where
  pair_leads : (p : OrderPair) → IsIn p ps → ReachesAlong k.pairs p.earlier p.later
  pair_leads p m = (keeps.leads p.earlier p.later).0 (pair_led ps p m)

  -- against the order of a strand there is no pair
  no_descent : (p : OrderPair) → IsIn p ps → IsNodeOf k.strands p.earlier → IsNodeOf k.strands p.later → (IsAtOrAfter p.earlier p.later → ⊥) → p.earlier.strand ≢ p.later.strand
  no_descent p m first last h s =
      let l : p.later.index ≤ p.earlier.index = other_way p.earlier.index p.later.index (λ a. h (s, a)) in
      let other : p.earlier ≡ p.later → ⊥ = λ e. h (s, subst (λ (n : Node). p.earlier.index ≤ n.index) e (omega arith)) in
      let up : Before k p.earlier p.later = before_of k ordered p.earlier p.later last (pair_leads p m) other in
      let down : Before k p.later p.earlier = before_of k ordered p.later p.earlier first (on_strand (sym s, l)) (λ e. other (sym e)) in
      ordered.no_cycle p.earlier (steps_append up down)

  module _ (p : OrderPair) (m : IsIn p ps) where
    made : IsComposedOf k.pairs p
    made = keeps.composed p m

    first_of : IsOrderPair k made.first.0
    first_of = ordered.order_pairs made.first.0 made.first.1

    last_of : IsOrderPair k made.last.0
    last_of = ordered.order_pairs made.last.0 made.last.1

    sent_at : term_event_at k.strands p.earlier ≡ Some (send first_of.sent)
    sent_at = subst (λ (n : Node). term_event_at k.strands n ≡ Some (send first_of.sent)) made.first.2 first_of.transmission

    received_at : term_event_at k.strands p.later ≡ Some (recv last_of.received)
    received_at = subst (λ (n : Node). term_event_at k.strands n ≡ Some (recv last_of.received)) made.last.2 last_of.reception

    between : IsIn p k.pairs ⊎ (IsAtOrAfter p.earlier p.later → ⊥) → p.earlier.strand ≢ p.later.strand
    between (inl i) = (ordered.order_pairs p i).between_strands
    between (inr h) = no_descent p m (send first_of.sent, sent_at) (recv last_of.received, received_at) h

    new_pair : IsOrderPair (ordered_by k ps) p
    new_pair = record { sent = first_of.sent; received = last_of.received; transmission = sent_at; reception = received_at; between_strands = between made.is_one }

  step_back : (x y : Node) → OrderStep (ordered_by k ps) x y → Before k x y
  step_back x y (along_strand_of e) = one_step (along_strand_of e)
  step_back x y (along_pair {p} m) = before_of k ordered p.earlier p.later (pair_at (ordered_by k ps) p (new_pair p m)) (pair_leads p m) (apart (ordered_by k ps) p (new_pair p m))

  back : (x y : Node) → Before (ordered_by k ps) x y → Before k x y
  back x y (one_step s) = step_back x y s
  back x z (more_steps {y} s r) = steps_append (step_back x y s) (back y z r)

  pub kept_ordered : IsOrdered (ordered_by k ps)
  kept_ordered = record { order_pairs = new_pair; no_cycle = λ n b. ordered.no_cycle n (back n n b) }

  step_on : (x y : Node) → OrderStep k x y → Before (ordered_by k ps) x y
  step_on x y (along_strand_of e) = one_step (along_strand_of e)
  step_on x y (along_pair {p} m) =
      let at = ordered.order_pairs p m in
      before_of (ordered_by k ps) kept_ordered p.earlier p.later (pair_at k p at) ((keeps.leads p.earlier p.later).1 (pair_led k.pairs p m)) (apart k p at)

  on : (x y : Node) → Before k x y → Before (ordered_by k ps) x y
  on x y (one_step s) = step_on x y s
  on x z (more_steps {y} s r) = steps_append (step_on x y s) (on y z r)

  pub kept_before : (x y : Node) → Before (ordered_by k ps) x y ↔ Before k x y
  kept_before x y = (back x y, on x y)

-- ---- a pair that closes no cycle

module _ (k : Skeleton) (p : OrderPair) where
  abbrev more : Skeleton
  more = ordered_by k (p ∷ k.pairs)

  abbrev UpTo : Node → Node → Type 0
  UpTo x y = (x ≡ y) ⊎ Before k x y

  -- before, without the pair, or to it and from it
  abbrev Around : Node → Node → Type 0
  Around x y = Before k x y ⊎ (UpTo x p.earlier × UpTo p.later y)

  one_pair : (q : OrderPair) → IsIn q (p ∷ k.pairs) → Around q.earlier q.later
  one_pair q here = inr (inl refl, inl refl)
  one_pair q (there m) = inl (one_step (along_pair m))

  one : (x y : Node) → OrderStep more x y → Around x y
  one x y (along_strand_of e) = inl (one_step (along_strand_of e))
  one x y (along_pair {p = q} m) = one_pair q m

  then_up : (x y z : Node) → UpTo x y → Before k y z → Before k x z
  then_up x y z (inl e) b = subst (λ (n : Node). Before k n z) (sym e) b
  then_up x y z (inr a) b = steps_append a b

  up_then : (x y z : Node) → Before k x y → UpTo y z → UpTo x z
  up_then x y z b (inl e) = inr (subst (Before k x) e b)
  up_then x y z b (inr a) = inr (steps_append b a)

  both : (x y z : Node) → Around x y → Around y z → Around x z
  both x y z (inl a) (inl b) = inl (steps_append a b)
  both x y z (inl a) (inr b) = inr (up_then x y p.earlier a b.0, b.1)
  both x y z (inr a) (inl b) = inr (a.0, inr (then_up p.later y z a.1 b))
  both x y z (inr a) (inr b) = inr (a.0, b.1)

  around : (x y : Node) → Before more x y → Around x y
  around x y (one_step s) = one x y s
  around x z (more_steps {y} s r) = both x y z (one x y s) (around y z r)

  module _ (ordered : IsOrdered k) (pair : IsOrderPair k p) (free : Before k p.later p.earlier → ⊥) where
    no_return : UpTo p.later p.earlier → ⊥
    no_return (inl e) = pair.between_strands (sym (ap (λ (n : Node). n.strand) e))
    no_return (inr b) = free b

    up_both : (x y z : Node) → UpTo x y → UpTo y z → UpTo x z
    up_both x y z (inl e) b = subst (λ (n : Node). UpTo n z) (sym e) b
    up_both x y z (inr a) b = up_then x y z a b

    no_circle : (n : Node) → Around n n → ⊥
    no_circle n (inl b) = ordered.no_cycle n b
    no_circle n (inr h) = no_return (up_both p.later n p.earlier h.1 h.0)

    each_pair : (q : OrderPair) → IsIn q (p ∷ k.pairs) → IsOrderPair more q
    each_pair q here = record { sent = pair.sent; received = pair.received; transmission = pair.transmission; reception = pair.reception; between_strands = pair.between_strands }
    each_pair q (there m) =
        let o = ordered.order_pairs q m in
        record { sent = o.sent; received = o.received; transmission = o.transmission; reception = o.reception; between_strands = o.between_strands }

    pub more_ordered : IsOrdered more
    more_ordered = record { order_pairs = each_pair; no_cycle = λ n b. no_circle n (around n n b) }
