-- The bounded search along pairs finds what reaches a node: each pair needs to be taken at most once.
use Rattle.std.proofs.Common.{◌≡◌, ◌↔◌, ◌⊎◌, inl, inr, ℕ, zero, suc, List, [], ◌∷◌, length, Bool, true, false, ◌&&◌, sym, ◌∙◌, subst, arith}
use Rattle.std.proofs.lemmas.Bool.{both_ways, false_from_ne_true, or_cases, or_left, or_right, and_from, and_parts}
use Rattle.cp_lists.specs.Lists.{IsIn, here, there}
use Rattle.cp_lists.proofs.Members.{in_cases}
use Rattle.cp_lists.proofs.Without.{Without, without, no_fewer}
use Rattle.cp_model.specs.declared.node.Node.{Node}
use Rattle.cp_model.specs.declared.node.OrderPair.{OrderPair}
use Rattle.cp_model.specs.Order.{IsAtOrAfter, ReachesAlong, on_strand, over_pair}
use Rattle.cp_model.specs.OrderTests.{at_or_after, any_pair, reaches_within}
use Rattle.cp_model.proofs.NodeTests.{within_strand, strand_within}

-- ---- tests

pub after_true : (x y : Node) → at_or_after x y ≡ true → IsAtOrAfter x y
after_true x y h = within_strand x.strand y.strand x.index y.index h

pub true_after : (x y : Node) → IsAtOrAfter x y → at_or_after x y ≡ true
true_after x y a = strand_within x.strand y.strand x.index y.index a.0 a.1

pub some_in : (test : OrderPair → Bool) (ps : List OrderPair) → any_pair test ps ≡ true → (p : OrderPair) × IsIn p ps × (test p ≡ true)
some_in test [] h = absurd (cc)
some_in test (q ∷ ps) h = elim (or_cases (test q) (any_pair test ps) h) as (λ _. (p : OrderPair) × IsIn p (q ∷ ps) × (test p ≡ true)) [
  | inl e ↦ (q, here, e)
  | inr e ↦ let r = some_in test ps e in (r.0, there r.1, r.2)
]

pub in_some : (test : OrderPair → Bool) (ps : List OrderPair) (p : OrderPair) → IsIn p ps → test p ≡ true → any_pair test ps ≡ true
in_some test [] p m e = elim m [ ]
in_some test (q ∷ ps) p here e = or_left (test p) (any_pair test ps) e
in_some test (q ∷ ps) p (there m) e = or_right (test q) (any_pair test ps) (in_some test ps p m e)

-- Where no pair passes a test, each fails it.
pub none_in : (test : OrderPair → Bool) (ps : List OrderPair) (p : OrderPair) → any_pair test ps ≡ false → IsIn p ps → test p ≡ false
none_in test ps p none m = false_from_ne_true (test p) (λ e. both_ways (any_pair test ps) none (in_some test ps p m e))

-- ---- paths

pub after_both : (x y z : Node) → IsAtOrAfter x y → IsAtOrAfter y z → IsAtOrAfter x z
after_both x y z a b = (a.0 ∙ b.0, omega (arith, a.1, b.1))

pub after_leads : (pairs : List OrderPair) (x y z : Node) → IsAtOrAfter x y → ReachesAlong pairs y z → ReachesAlong pairs x z
after_leads pairs x y z a (on_strand b) = on_strand (after_both x y z a b)
after_leads pairs x y z a (over_pair {p} m b l) = over_pair m (after_both x y p.earlier a b) l

pub leads_both : (pairs : List OrderPair) (x y z : Node) → ReachesAlong pairs x y → ReachesAlong pairs y z → ReachesAlong pairs x z
leads_both pairs x y z (on_strand a) r = after_leads pairs x y z a r
leads_both pairs x y z (over_pair {p} m a l) r = over_pair m a (leads_both pairs p.later y z l r)

-- ---- what is found along some pairs reaches the node

within_leads : (n : ℕ) (pairs : List OrderPair) (x y : Node) → reaches_within n pairs x y ≡ true → ReachesAlong pairs x y
within_leads zero pairs x y h = on_strand (after_true x y h)
within_leads (suc n) pairs x y h = elim (or_cases (at_or_after x y) (any_pair (λ p. at_or_after x p.earlier && reaches_within n pairs p.later y) pairs) h) as (λ _. ReachesAlong pairs x y) [
  | inl e ↦ on_strand (after_true x y e)
  | inr e ↦
      let r = some_in (λ p. at_or_after x p.earlier && reaches_within n pairs p.later y) pairs e in
      let p = r.0 in
      let both = and_parts (at_or_after x p.earlier) (reaches_within n pairs p.later y) r.2 in
      over_pair r.1 (after_true x p.earlier both.0) (within_leads n pairs p.later y both.1)
]

-- ---- each pair needs to be taken only once

-- What reaches a node does so without the pair, or by way of it.
pub around : (used : OrderPair) (ps rest : List OrderPair) → ((q : OrderPair) → IsIn q ps → (used ≡ q) ⊎ IsIn q rest) → (x y : Node) → ReachesAlong ps x y
    → ReachesAlong rest x y ⊎ (ReachesAlong rest x used.earlier × ReachesAlong rest used.later y)
around used ps rest kept x y (on_strand a) = inl (on_strand a)
around used ps rest kept x y (over_pair {p} m a l) = by_rest (kept p m) (around used ps rest kept p.later y l)
  where
    by_rest : (used ≡ p) ⊎ IsIn p rest → ReachesAlong rest p.later y ⊎ (ReachesAlong rest p.later used.earlier × ReachesAlong rest used.later y)
        → ReachesAlong rest x y ⊎ (ReachesAlong rest x used.earlier × ReachesAlong rest used.later y)
    by_rest (inr i) (inl r) = inl (over_pair i a r)
    by_rest (inr i) (inr r) = inr (over_pair i a r.0, r.1)
    by_rest (inl e) (inl r) = inr (subst (λ (o : OrderPair). ReachesAlong rest x o.earlier) (sym e) (on_strand a), subst (λ (o : OrderPair). ReachesAlong rest o.later y) (sym e) r)
    by_rest (inl e) (inr r) = inr (subst (λ (o : OrderPair). ReachesAlong rest x o.earlier) (sym e) (on_strand a), r.1)

pub around_first : (p : OrderPair) (ps : List OrderPair) (x y : Node) → ReachesAlong (p ∷ ps) x y → ReachesAlong ps x y ⊎ (ReachesAlong ps x p.earlier × ReachesAlong ps p.later y)
around_first p ps x y l = around p (p ∷ ps) ps (λ q m. in_cases m) x y l

second_of : {P Q : Type 0} → P ⊎ (Q × P) → P
second_of (inl h) = h
second_of (inr h) = h.1

leads_found : (n : ℕ) (pairs ps : List OrderPair) (x y : Node) → length ps ≡ n → ((p : OrderPair) → IsIn p ps → IsIn p pairs) → ReachesAlong ps x y → reaches_within n pairs x y ≡ true
leads_found zero pairs ps x y e inside (on_strand a) = true_after x y a
leads_found zero pairs ps x y e inside (over_pair m a l) = absurd (no_fewer e m)
leads_found (suc n) pairs ps x y e inside (on_strand a) = or_left (at_or_after x y) (any_pair (λ p. at_or_after x p.earlier && reaches_within n pairs p.later y) pairs) (true_after x y a)
leads_found (suc n) pairs ps x y e inside (over_pair {p} m a l) =
    let w : Without p ps = without m in
    let fewer : length w.rest ≡ n = omega (arith, e, w.shorter) in
    let past : ReachesAlong w.rest p.later y = second_of (around p ps w.rest w.kept p.later y l) in
    let found = leads_found n pairs w.rest p.later y fewer (λ q i. inside q (w.only q i)) past in
    or_right (at_or_after x y) (any_pair (λ q. at_or_after x q.earlier && reaches_within n pairs q.later y) pairs)
    (in_some (λ q. at_or_after x q.earlier && reaches_within n pairs q.later y) pairs p (inside p m)
    (and_from (at_or_after x p.earlier) (reaches_within n pairs p.later y) (true_after x p.earlier a) found))

pub bounded_search : (n : ℕ) (pairs : List OrderPair) (x y : Node) → n ≡ length pairs → (reaches_within n pairs x y ≡ true) ↔ ReachesAlong pairs x y
bounded_search n pairs x y e = (within_leads n pairs x y, leads_found n pairs pairs x y (sym e) (λ p m. m))
