-- Ways along pairs: those along pairs in place of others, and those along one pair.
use Rattle.std.proofs.Common.{◌≡◌, ◌↔◌, inl, inr, List, true, refl, arith}
use Rattle.std.proofs.lemmas.Bool.{or_cases, or_left, or_right, and_from, and_parts}
use Rattle.cp_lists.specs.Lists.{IsIn}
use Rattle.cp_model.specs.declared.node.Node.{Node}
use Rattle.cp_model.specs.declared.node.OrderPair.{OrderPair}
use Rattle.cp_model.specs.Order.{IsAtOrAfter, ReachesAlong, on_strand, over_pair}
use Rattle.cp_model.specs.OrderTests.{at_or_after, any_pair}
use Rattle.cp_model.proofs.BoundedSearch.{after_true, true_after, some_in, in_some, after_both, after_leads, leads_both}
use Rattle.cp_order.specs.Closed.{LeadsAlongOne, IsTransitive}
use Rattle.cp_order.specs.Composed.{is_between, leads_along_one}

-- ---- ways

-- the later node of each pair of the first list is reached along the second
pub each_led : (ps qs : List OrderPair) → ((p : OrderPair) → IsIn p ps → ReachesAlong qs p.earlier p.later) → (x y : Node) → ReachesAlong ps x y → ReachesAlong qs x y
each_led ps qs f x y (on_strand a) = on_strand a
each_led ps qs f x y (over_pair {p} m a l) = after_leads qs x p.earlier y a (leads_both qs p.earlier p.later y (f p m) (each_led ps qs f p.later y l))

pub pair_led : (ps : List OrderPair) (p : OrderPair) → IsIn p ps → ReachesAlong ps p.earlier p.later
pair_led ps p m = over_pair m (refl, omega arith) (on_strand (refl, omega arith))

pub leads_within_more : (ps qs : List OrderPair) → ((p : OrderPair) → IsIn p ps → IsIn p qs) → (x y : Node) → ReachesAlong ps x y → ReachesAlong qs x y
leads_within_more ps qs f x y l = each_led ps qs (λ p m. pair_led qs p (f p m)) x y l

-- ---- along one pair

pub one_in : (pairs : List OrderPair) (x y : Node) → leads_along_one pairs x y ≡ true → LeadsAlongOne pairs x y
one_in pairs x y h = elim (or_cases (at_or_after x y) (any_pair (is_between x y) pairs) h) as (λ _. LeadsAlongOne pairs x y) [
  | inl e ↦ inl (after_true x y e)
  | inr e ↦
      let r = some_in (is_between x y) pairs e in
      let p = r.0 in
      let both = and_parts (at_or_after x p.earlier) (at_or_after p.later y) r.2 in
      inr (p, r.1, after_true x p.earlier both.0, after_true p.later y both.1)
]

pub in_one : (pairs : List OrderPair) (x y : Node) → LeadsAlongOne pairs x y → leads_along_one pairs x y ≡ true
in_one pairs x y (inl a) = or_left (at_or_after x y) (any_pair (is_between x y) pairs) (true_after x y a)
in_one pairs x y (inr (p, m, a, b)) =
    or_right (at_or_after x y) (any_pair (is_between x y) pairs)
    (in_some (is_between x y) pairs p m (and_from (at_or_after x p.earlier) (at_or_after p.later y) (true_after x p.earlier a) (true_after p.later y b)))

pub one_leads : (pairs : List OrderPair) (x y : Node) → LeadsAlongOne pairs x y → ReachesAlong pairs x y
one_leads pairs x y (inl a) = on_strand a
one_leads pairs x y (inr (p, m, a, b)) = over_pair m a (on_strand b)

pub one_wider : (pairs : List OrderPair) (w x y z : Node) → IsAtOrAfter w x → LeadsAlongOne pairs x y → IsAtOrAfter y z → LeadsAlongOne pairs w z
one_wider pairs w x y z a (inl b) c = inl (after_both w x z a (after_both x y z b c))
one_wider pairs w x y z a (inr (p, m, b, d)) c = inr (p, m, after_both w x p.earlier a b, after_both p.later y z d c)

pub one_more : (ps qs : List OrderPair) (x y : Node) → ((p : OrderPair) → IsIn p ps → IsIn p qs) → LeadsAlongOne ps x y → LeadsAlongOne qs x y
one_more ps qs x y f (inl a) = inl a
one_more ps qs x y f (inr (p, m, a, b)) = inr (p, f p m, a, b)

pub closed_search : (pairs : List OrderPair) (x y : Node) → IsTransitive pairs → (leads_along_one pairs x y ≡ true) ↔ ReachesAlong pairs x y
closed_search pairs x y closed = (λ h. one_leads pairs x y (one_in pairs x y h), λ l. in_one pairs x y (closed x y l))
