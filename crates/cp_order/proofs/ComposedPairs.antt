-- What a pair makes with closed pairs: these are closed, and order as all of them do.
use Rattle.std.proofs.Common.{◌≡◌, ◌⊎◌, inl, inr, List, [], ◌∷◌, ◌++◌, Bool, true, false, if◌then◌else◌, refl, sym, ap, subst, arith}
use Rattle.cp_lists.specs.Lists.{IsIn, here, there}
use Rattle.cp_lists.proofs.Members.{only_item, in_append_left, in_append_right, in_append, in_if_behind}
use Rattle.cp_model.specs.declared.node.Node.{Node}
use Rattle.cp_model.specs.declared.node.OrderPair.{OrderPair}
use Rattle.cp_model.specs.Order.{IsAtOrAfter, ReachesAlong, on_strand, over_pair}
use Rattle.cp_model.specs.OrderTests.{at_or_after}
use Rattle.cp_order.specs.Closed.{LeadsAlongOne, IsTransitive, IsComposedOf, KeepsOrder}
use Rattle.cp_order.specs.Composed.{leads_along_one, joined_pair, all_joined, pairs_past, composed_from, pairs_to, composed_pairs}
use Rattle.cp_model.proofs.BoundedSearch.{after_true, true_after, leads_both, around_first}
use Rattle.cp_order.proofs.AlongPairs.{each_led, pair_led, one_in, in_one, one_leads, one_wider, one_more}

-- ---- pairs behind others

abbrev kept_if : Bool → List OrderPair → OrderPair → List OrderPair
kept_if b ps q = if b then ps else ps ++ (q ∷ [])

kept_by : (b : Bool) (ps : List OrderPair) (q p : OrderPair) → IsIn p ps → IsIn p (kept_if b ps q)
kept_by true ps q p m = m
kept_by false ps q p m = in_append_left (q ∷ []) m

joined_kept : (ps : List OrderPair) (q p : OrderPair) → IsIn p ps → IsIn p (joined_pair ps q)
joined_kept ps q p m = kept_by (leads_along_one ps q.earlier q.later) ps q p m

led_by : (b : Bool) (ps : List OrderPair) (q : OrderPair) → leads_along_one ps q.earlier q.later ≡ b → LeadsAlongOne (kept_if b ps q) q.earlier q.later
led_by true ps q e = one_in ps q.earlier q.later e
led_by false ps q e = inr (q, in_append_right ps here, (refl, omega arith), (refl, omega arith))

joined_led : (ps : List OrderPair) (q : OrderPair) → LeadsAlongOne (joined_pair ps q) q.earlier q.later
joined_led ps q = led_by (leads_along_one ps q.earlier q.later) ps q refl

only_by : (b : Bool) (ps : List OrderPair) (q p : OrderPair) → leads_along_one ps q.earlier q.later ≡ b → IsIn p (kept_if b ps q) → IsIn p ps ⊎ ((p ≡ q) × (IsAtOrAfter p.earlier p.later → ⊥))
only_by true ps q p e m = inl m
only_by false ps q p e m = elim (in_append ps (q ∷ []) m) as (λ _. IsIn p ps ⊎ ((p ≡ q) × (IsAtOrAfter p.earlier p.later → ⊥))) [
  | inl i ↦ inl i
  | inr i ↦
      let same : p ≡ q = only_item i in
      inr (same, λ a. differ (in_one ps q.earlier q.later (inl (subst (λ (o : OrderPair). IsAtOrAfter o.earlier o.later) same a))))
]
  where
    differ : leads_along_one ps q.earlier q.later ≡ true → ⊥
    differ h = cc

joined_only : (ps : List OrderPair) (q p : OrderPair) → IsIn p (joined_pair ps q) → IsIn p ps ⊎ ((p ≡ q) × (IsAtOrAfter p.earlier p.later → ⊥))
joined_only ps q p m = only_by (leads_along_one ps q.earlier q.later) ps q p refl m

all_kept : (ps qs : List OrderPair) (p : OrderPair) → IsIn p ps → IsIn p (all_joined ps qs)
all_kept ps [] p m = m
all_kept ps (q ∷ qs) p m = all_kept (joined_pair ps q) qs p (joined_kept ps q p m)

all_led : (ps qs : List OrderPair) (p : OrderPair) → IsIn p qs → LeadsAlongOne (all_joined ps qs) p.earlier p.later
all_led ps [] p m = elim m [ ]
all_led ps (q ∷ qs) p here = one_more (joined_pair ps p) (all_joined (joined_pair ps p) qs) p.earlier p.later (all_kept (joined_pair ps p) qs) (joined_led ps p)
all_led ps (q ∷ qs) p (there m) = all_led (joined_pair ps q) qs p m

all_only : (ps qs : List OrderPair) (p : OrderPair) → IsIn p (all_joined ps qs) → IsIn p ps ⊎ (IsIn p qs × (IsAtOrAfter p.earlier p.later → ⊥))
all_only ps [] p m = inl m
all_only ps (q ∷ qs) p m = sort (all_only (joined_pair ps q) qs p m)
  where
    first : IsIn p ps ⊎ ((p ≡ q) × (IsAtOrAfter p.earlier p.later → ⊥)) → IsIn p ps ⊎ (IsIn p (q ∷ qs) × (IsAtOrAfter p.earlier p.later → ⊥))
    first (inl i) = inl i
    first (inr r) = inr (subst (λ (o : OrderPair). IsIn o (q ∷ qs)) (sym r.0) here, r.1)

    sort : IsIn p (joined_pair ps q) ⊎ (IsIn p qs × (IsAtOrAfter p.earlier p.later → ⊥)) → IsIn p ps ⊎ (IsIn p (q ∷ qs) × (IsAtOrAfter p.earlier p.later → ⊥))
    sort (inl i) = first (joined_only ps q p i)
    sort (inr r) = inr (there r.0, r.1)

pub joined-append : (ps qs rs : List OrderPair) → all_joined (all_joined ps qs) rs ≡ all_joined ps (qs ++ rs)
joined-append ps [] rs = refl
joined-append ps (q ∷ qs) rs = joined-append (joined_pair ps q) qs rs

-- ---- beginnings and ends

-- The node is y, or a pair that y reaches ends there.
abbrev IsEnd : List OrderPair → Node → Node → Type 0
IsEnd pairs y n = (n ≡ y) ⊎ ((q : OrderPair) × IsIn q pairs × IsAtOrAfter y q.earlier × (n ≡ q.later))

-- The node is x, or a pair that reaches x begins there.
abbrev IsBeginning : List OrderPair → Node → Node → Type 0
IsBeginning pairs x n = (n ≡ x) ⊎ ((q : OrderPair) × IsIn q pairs × IsAtOrAfter q.later x × (n ≡ q.earlier))

abbrev pair_of : Node → Node → OrderPair
pair_of x y = record { earlier = x; later = y }

put_if : (b : Bool) (p q : OrderPair) (ps : List OrderPair) → b ≡ true → p ≡ q → IsIn p (if b then q ∷ ps else ps)
put_if true p q ps e s = subst (λ (o : OrderPair). IsIn o (q ∷ ps)) (sym s) here
put_if false p q ps e s = absurd (cc)

past_has : (x y : Node) (ps : List OrderPair) (q : OrderPair) → IsIn q ps → IsAtOrAfter y q.earlier → IsIn (pair_of x q.later) (pairs_past x y ps)
past_has x y [] q m a = elim m [ ]
past_has x y (p ∷ ps) q here a = put_if (at_or_after y q.earlier) (pair_of x q.later) (pair_of x q.later) (pairs_past x y ps) (true_after y q.earlier a) refl
past_has x y (p ∷ ps) q (there m) a = in_if_behind (at_or_after y p.earlier) (pair_of x p.later) (pair_of x q.later) (pairs_past x y ps) (past_has x y ps q m a)

-- A pair from x to the end of one that y reaches.
abbrev IsPast : Node → Node → List OrderPair → OrderPair → Type 0
IsPast x y ps p = (q : OrderPair) × IsIn q ps × IsAtOrAfter y q.earlier × (p ≡ pair_of x q.later)

past_next : (x y : Node) (q : OrderPair) (ps : List OrderPair) (p : OrderPair) → (IsIn p (pairs_past x y ps) → IsPast x y ps p) → (b : Bool) → at_or_after y q.earlier ≡ b
    → IsIn p (if b then pair_of x q.later ∷ pairs_past x y ps else pairs_past x y ps) → IsPast x y (q ∷ ps) p
past_next x y q ps p rest true e here = (q, here, after_true y q.earlier e, refl)
past_next x y q ps p rest true e (there m) = let h = rest m in (h.0, there h.1, h.2, h.3)
past_next x y q ps p rest false e m = let h = rest m in (h.0, there h.1, h.2, h.3)

past_is : (x y : Node) (ps : List OrderPair) (p : OrderPair) → IsIn p (pairs_past x y ps) → IsPast x y ps p
past_is x y [] p m = elim m [ ]
past_is x y (q ∷ ps) p m = past_next x y q ps p (past_is x y ps p) (at_or_after y q.earlier) refl m

from_has : (pairs : List OrderPair) (x y n : Node) → IsEnd pairs y n → IsIn (pair_of x n) (composed_from pairs x y)
from_has pairs x y n (inl e) = subst (λ (m : Node). IsIn (pair_of x m) (composed_from pairs x y)) (sym e) here
from_has pairs x y n (inr (q, m, a, e)) = subst (λ (m : Node). IsIn (pair_of x m) (composed_from pairs x y)) (sym e) (there (past_has x y pairs q m a))

-- A pair from one of some beginnings to an end.
abbrev IsFrom : List OrderPair → Node → Node → OrderPair → Type 0
IsFrom pairs x y p = (p.earlier ≡ x) × IsEnd pairs y p.later

from_is : (pairs : List OrderPair) (x y : Node) (p : OrderPair) → IsIn p (composed_from pairs x y) → IsFrom pairs x y p
from_is pairs x y p here = (refl, inl refl)
from_is pairs x y p (there m) =
    let r = past_is x y pairs p m in
    (ap (λ (o : OrderPair). o.earlier) r.3, inr (r.0, r.1, r.2, ap (λ (o : OrderPair). o.later) r.3))

-- A pair from one of some beginnings to an end.
abbrev IsTo : List OrderPair → OrderPair → List OrderPair → OrderPair → Type 0
IsTo pairs p qs o = (q : OrderPair) × IsIn q qs × IsAtOrAfter q.later p.earlier × IsFrom pairs q.earlier p.later o

abbrev first_to : Bool → List OrderPair → OrderPair → OrderPair → List OrderPair → List OrderPair
first_to b pairs p q qs = if b then composed_from pairs q.earlier p.later ++ pairs_to pairs p qs else pairs_to pairs p qs

first_has : (b : Bool) (pairs : List OrderPair) (p q : OrderPair) (qs : List OrderPair) (n : Node) → b ≡ true → IsEnd pairs p.later n → IsIn (pair_of q.earlier n) (first_to b pairs p q qs)
first_has true pairs p q qs n t e = in_append_left (pairs_to pairs p qs) (from_has pairs q.earlier p.later n e)
first_has false pairs p q qs n t e = absurd (cc)

next_has : (b : Bool) (pairs : List OrderPair) (p q : OrderPair) (qs : List OrderPair) (o : OrderPair) → IsIn o (pairs_to pairs p qs) → IsIn o (first_to b pairs p q qs)
next_has true pairs p q qs o m = in_append_right (composed_from pairs q.earlier p.later) m
next_has false pairs p q qs o m = m

to_has : (pairs : List OrderPair) (p : OrderPair) (qs : List OrderPair) (q : OrderPair) (n : Node) → IsIn q qs → IsAtOrAfter q.later p.earlier → IsEnd pairs p.later n → IsIn (pair_of q.earlier n) (pairs_to pairs p qs)
to_has pairs p [] q n m a e = elim m [ ]
to_has pairs p (q ∷ qs) _ n here a e = first_has (at_or_after q.later p.earlier) pairs p q qs n (true_after q.later p.earlier a) e
to_has pairs p (o ∷ qs) q n (there m) a e = next_has (at_or_after o.later p.earlier) pairs p o qs (pair_of q.earlier n) (to_has pairs p qs q n m a e)

to_further : (pairs : List OrderPair) (p q : OrderPair) (qs : List OrderPair) (o : OrderPair) → IsTo pairs p qs o → IsTo pairs p (q ∷ qs) o
to_further pairs p q qs o h = (h.0, there h.1, h.2, h.3)

to_next : (pairs : List OrderPair) (p q : OrderPair) (qs : List OrderPair) (o : OrderPair) → (IsIn o (pairs_to pairs p qs) → IsTo pairs p qs o) → (b : Bool) → at_or_after q.later p.earlier ≡ b
    → IsIn o (first_to b pairs p q qs) → IsTo pairs p (q ∷ qs) o
to_next pairs p q qs o rest true t m = elim (in_append (composed_from pairs q.earlier p.later) (pairs_to pairs p qs) m) as (λ _. IsTo pairs p (q ∷ qs) o) [
  | inl i ↦ (q, here, after_true q.later p.earlier t, from_is pairs q.earlier p.later o i)
  | inr i ↦ to_further pairs p q qs o (rest i)
]
to_next pairs p q qs o rest false t m = to_further pairs p q qs o (rest m)

to_is : (pairs : List OrderPair) (p : OrderPair) (qs : List OrderPair) (o : OrderPair) → IsIn o (pairs_to pairs p qs) → IsTo pairs p qs o
to_is pairs p [] o m = elim m [ ]
to_is pairs p (q ∷ qs) o m = to_next pairs p q qs o (to_is pairs p qs o) (at_or_after q.later p.earlier) refl m

-- ---- the pairs with what one pair makes with them

module _ (pairs : List OrderPair) (p : OrderPair) where
  composed_has : (m n : Node) → IsBeginning pairs p.earlier m → IsEnd pairs p.later n → IsIn (pair_of m n) (composed_pairs pairs p)
  composed_has m n (inl s) e = in_append_left (pairs_to pairs p pairs) (subst (λ (o : Node). IsIn (pair_of o n) (composed_from pairs p.earlier p.later)) (sym s) (from_has pairs p.earlier p.later n e))
  composed_has m n (inr (q, i, a, s)) e = in_append_right (composed_from pairs p.earlier p.later) (subst (λ (o : Node). IsIn (pair_of o n) (pairs_to pairs p pairs)) (sym s) (to_has pairs p pairs q n i a e))

  composed_is : (o : OrderPair) → IsIn o (composed_pairs pairs p) → IsBeginning pairs p.earlier o.earlier × IsEnd pairs p.later o.later
  composed_is o m = by_either (in_append (composed_from pairs p.earlier p.later) (pairs_to pairs p pairs) m)
    where
      by_either : IsIn o (composed_from pairs p.earlier p.later) ⊎ IsIn o (pairs_to pairs p pairs) → IsBeginning pairs p.earlier o.earlier × IsEnd pairs p.later o.later
      by_either (inl i) = let r = from_is pairs p.earlier p.later o i in (inl r.0, r.1)
      by_either (inr i) = let r = to_is pairs p pairs o i in (inr (r.0, r.1, r.2, r.3.0), r.3.1)

  abbrev whole : List OrderPair
  whole = all_joined pairs (composed_pairs pairs p)

  itself : (n : Node) → IsAtOrAfter n n
  itself n = (refl, omega arith)

  -- what reaches the pair, and what it reaches
  beginning_leads : (n : Node) → IsBeginning pairs p.earlier n → ReachesAlong (p ∷ pairs) n p.earlier
  beginning_leads n (inl e) = subst (λ (m : Node). ReachesAlong (p ∷ pairs) m p.earlier) (sym e) (on_strand (itself p.earlier))
  beginning_leads n (inr (q, m, a, e)) = subst (λ (o : Node). ReachesAlong (p ∷ pairs) o p.earlier) (sym e) (over_pair (there m) (itself q.earlier) (on_strand a))

  end_led : (n : Node) → IsEnd pairs p.later n → ReachesAlong (p ∷ pairs) p.later n
  end_led n (inl e) = subst (λ (m : Node). ReachesAlong (p ∷ pairs) p.later m) (sym e) (on_strand (itself p.later))
  end_led n (inr (q, m, a, e)) = subst (λ (o : Node). ReachesAlong (p ∷ pairs) p.later o) (sym e) (over_pair (there m) a (on_strand (itself q.later)))

  one_of_whole : (q : OrderPair) → IsIn q whole → ReachesAlong (p ∷ pairs) q.earlier q.later
  one_of_whole q m = by_either (all_only pairs (composed_pairs pairs p) q m)
    where
      by_either : IsIn q pairs ⊎ (IsIn q (composed_pairs pairs p) × (IsAtOrAfter q.earlier q.later → ⊥)) → ReachesAlong (p ∷ pairs) q.earlier q.later
      by_either (inl i) = pair_led (p ∷ pairs) q (there i)
      by_either (inr r) =
          let parts = composed_is q r.0 in
          leads_both (p ∷ pairs) q.earlier p.earlier q.later (beginning_leads q.earlier parts.0) (over_pair here (itself p.earlier) (end_led q.later parts.1))

  whole_leads : (x y : Node) → ReachesAlong whole x y → ReachesAlong (p ∷ pairs) x y
  whole_leads x y l = each_led whole (p ∷ pairs) one_of_whole x y l

  to_beginning : (x : Node) → LeadsAlongOne pairs x p.earlier → (m : Node) × IsBeginning pairs p.earlier m × IsAtOrAfter x m
  to_beginning x (inl a) = (p.earlier, inl refl, a)
  to_beginning x (inr (q, i, a, b)) = (q.earlier, inr (q, i, b, refl), a)

  from_end : (y : Node) → LeadsAlongOne pairs p.later y → (n : Node) × IsEnd pairs p.later n × IsAtOrAfter n y
  from_end y (inl a) = (p.later, inl refl, a)
  from_end y (inr (q, i, a, b)) = (q.later, inr (q, i, a, refl), b)

  module _ (closed : IsTransitive pairs) where
    along_whole : (x y : Node) → ReachesAlong pairs x y ⊎ (ReachesAlong pairs x p.earlier × ReachesAlong pairs p.later y) → LeadsAlongOne whole x y
    along_whole x y (inl l) = one_more pairs whole x y (all_kept pairs (composed_pairs pairs p)) (closed x y l)
    along_whole x y (inr r) =
        let m = to_beginning x (closed x p.earlier r.0) in
        let n = from_end y (closed p.later y r.1) in
        one_wider whole x m.0 n.0 y m.2 (all_led pairs (composed_pairs pairs p) (pair_of m.0 n.0) (composed_has m.0 n.0 m.1 n.1)) n.2

    along_one : (x y : Node) → ReachesAlong (p ∷ pairs) x y → LeadsAlongOne whole x y
    along_one x y l = along_whole x y (around_first p pairs x y l)

    pub composed_closed : IsTransitive whole
    composed_closed x y l = along_one x y (whole_leads x y l)

    pub composed_keeps : KeepsOrder (p ∷ pairs) whole
    composed_keeps = record {
      leads = λ x y. (whole_leads x y, λ l. one_leads whole x y (along_one x y l));
      composed = λ q m. made q (all_only pairs (composed_pairs pairs p) q m);
    }
      where
        first_by : (q : OrderPair) → IsBeginning pairs p.earlier q.earlier → (o : OrderPair) × IsIn o (p ∷ pairs) × (o.earlier ≡ q.earlier)
        first_by q (inl e) = (p, here, sym e)
        first_by q (inr (o, m, a, e)) = (o, there m, sym e)

        last_by : (q : OrderPair) → IsEnd pairs p.later q.later → (o : OrderPair) × IsIn o (p ∷ pairs) × (o.later ≡ q.later)
        last_by q (inl e) = (p, here, sym e)
        last_by q (inr (o, m, a, e)) = (o, there m, sym e)

        made : (q : OrderPair) → IsIn q pairs ⊎ (IsIn q (composed_pairs pairs p) × (IsAtOrAfter q.earlier q.later → ⊥)) → IsComposedOf (p ∷ pairs) q
        made q (inl m) = record { first = (q, there m, refl); last = (q, there m, refl); is_one = inl (there m) }
        made q (inr r) = let parts = composed_is q r.0 in record { first = first_by q parts.0; last = last_by q parts.1; is_one = inr r.1 }
