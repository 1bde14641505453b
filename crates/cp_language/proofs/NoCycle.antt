-- The order of a problem has no cycle: each of its pairs closes none with those before it.
use Rattle.std.proofs.Common.{◌≡◌, ◌<◌, ◌≤◌, List, [], ◌∷◌, ◌++◌, length, refl, sym, ◌∙◌, subst, arith, ◌⊎◌, inl, inr, append_assoc}
use Rattle.std.proofs.lemmas.Bool.{both_ways}
use Rattle.std.proofs.lemmas.List.{append-nil}
use Rattle.cp_lists.specs.Lists.{IsIn, here, there, one_step, more_steps}
use Rattle.cp_model.specs.declared.node.Node.{Node}
use Rattle.cp_model.specs.Skeleton.{SkeletonStrand, Skeleton, OrderStep, along_strand_of, along_pair, Before, IsOrderPair}
use Rattle.cp_model.specs.declared.node.OrderPair.{OrderPair}
use Rattle.cp_model.specs.Order.{IsAtOrAfter, ReachesAlong, on_strand, over_pair}
use Rattle.cp_lists.proofs.Members.{in_append, only_item}
use Rattle.cp_language.specs.Problems.{reaches_within}
use Rattle.cp_language.proofs.BoundedSearch.{reaches_all}
use Rattle.cp_language.proofs.Bodies.{AreBuilt}

at_itself : (x : Node) → IsAtOrAfter x x
at_itself x = (refl, omega arith)

after_after : (x y z : Node) → IsAtOrAfter x y → IsAtOrAfter y z → IsAtOrAfter x z
after_after x y z p q = let a : x.index ≤ y.index = p.1 in let b : y.index ≤ z.index = q.1 in (p.0 ∙ q.0, omega arith)

leads_before : (pairs : List OrderPair) (x y z : Node) → IsAtOrAfter x y → ReachesAlong pairs y z → ReachesAlong pairs x z
leads_before pairs x y z a (on_strand b) = on_strand (after_after x y z a b)
leads_before pairs x y z a (over_pair {p} i b r) = over_pair i (after_after x y p.earlier a b) r

leads_on : (pairs : List OrderPair) (x y z : Node) → ReachesAlong pairs x y → ReachesAlong pairs y z → ReachesAlong pairs x z
leads_on pairs x y z (on_strand a) q = leads_before pairs x y z a q
leads_on pairs x y z (over_pair {p} i a r) q = over_pair i a (leads_on pairs p.later y z r q)

-- ---- no cycle

-- No pair leads back to itself.
abbrev pub AreAcyclic : List OrderPair → Type 0
AreAcyclic pairs = (p : OrderPair) → IsIn p pairs → ReachesAlong pairs p.later p.earlier → ⊥

-- A way over one more pair p goes without it, or to p and from p.
split : (pairs : List OrderPair) (p : OrderPair) (x y : Node) → ReachesAlong (pairs ++ p ∷ []) x y → ReachesAlong pairs x y ⊎ (ReachesAlong pairs x p.earlier × ReachesAlong pairs p.later y)
split pairs p x y (on_strand a) = inl (on_strand a)
split pairs p x y (over_pair {p = q} i a r) = by (in_append pairs (p ∷ []) i) (split pairs p q.later y r)
  where
    by : IsIn q pairs ⊎ IsIn q (p ∷ []) → ReachesAlong pairs q.later y ⊎ (ReachesAlong pairs q.later p.earlier × ReachesAlong pairs p.later y) → ReachesAlong pairs x y ⊎ (ReachesAlong pairs x p.earlier × ReachesAlong pairs p.later y)
    by (inl j) (inl w) = inl (over_pair j a w)
    by (inl j) (inr w) = inr (over_pair j a w.0, w.1)
    by (inr j) (inl w) = inr (subst (λ (z : OrderPair). ReachesAlong pairs x z.earlier) (only_item j) (on_strand a), subst (λ (z : OrderPair). ReachesAlong pairs z.later y) (only_item j) w)
    by (inr j) (inr w) = inr (subst (λ (z : OrderPair). ReachesAlong pairs x z.earlier) (only_item j) (on_strand a), w.1)

one_more_acyclic : (pairs : List OrderPair) (p : OrderPair) → AreAcyclic pairs → (ReachesAlong pairs p.later p.earlier → ⊥) → AreAcyclic (pairs ++ p ∷ [])
one_more_acyclic pairs p acyclic no_way q i h = by (in_append pairs (p ∷ []) i) (split pairs p q.later q.earlier h)
  where
    by : IsIn q pairs ⊎ IsIn q (p ∷ []) → ReachesAlong pairs q.later q.earlier ⊎ (ReachesAlong pairs q.later p.earlier × ReachesAlong pairs p.later q.earlier) → ⊥
    by (inl j) (inl w) = acyclic q j w
    by (inl j) (inr w) = no_way (leads_on pairs p.later q.earlier p.earlier w.1 (over_pair j (at_itself q.earlier) w.0))
    by (inr j) (inl w) = no_way (subst (λ (z : OrderPair). ReachesAlong pairs z.later z.earlier) (only_item j) w)
    by (inr j) (inr w) = no_way (subst (λ (z : OrderPair). ReachesAlong pairs z.later p.earlier) (only_item j) w.0)

built_acyclic : (strands : List SkeletonStrand) (before pairs : List OrderPair) → AreBuilt strands before pairs → AreAcyclic before → AreAcyclic (before ++ pairs)
built_acyclic strands before [] h acyclic = subst AreAcyclic (sym (append-nil before)) acyclic
built_acyclic strands before (p ∷ ps) h acyclic =
    subst AreAcyclic (append_assoc before (p ∷ []) ps)
    (built_acyclic strands (before ++ p ∷ []) ps h.1
    (one_more_acyclic before p acyclic (λ w. both_ways (reaches_within (length before) before p.later p.earlier) h.0.no_way_back ((reaches_all before p.later p.earlier).1 w))))

-- ---- the order of a skeleton

module _ (k : Skeleton) where
  record OverPair (x y : Node) : Type 0 where
    pair : OrderPair
    listed : IsIn pair k.pairs
    before : IsAtOrAfter x pair.earlier
    after : ReachesAlong k.pairs pair.later y

  abbrev Goes : Node → Node → Type 0
  Goes x y = ((x.strand ≡ y.strand) × (x.index < y.index)) ⊎ OverPair x y

  step_goes : {x y : Node} → OrderStep k x y → Goes x y
  step_goes (along_strand_of e) = inl (refl, omega arith)
  step_goes (along_pair {p} i) = inr (record { pair = p; listed = i; before = at_itself p.earlier; after = on_strand (at_itself p.later) })

  goes_on : (x y z : Node) → Goes x y → Goes y z → Goes x z
  goes_on x y z (inl a) (inl b) = let p : x.index < y.index = a.1 in let q : y.index < z.index = b.1 in inl (a.0 ∙ b.0, omega arith)
  goes_on x y z (inl a) (inr b) =
      let p : x.index < y.index = a.1 in
      let q : y.index ≤ b.pair.earlier.index = b.before.1 in
      inr (record { pair = b.pair; listed = b.listed; before = (a.0 ∙ b.before.0, omega arith); after = b.after })
  goes_on x y z (inr a) (inl b) =
      let p : y.index < z.index = b.1 in
      inr (record { pair = a.pair; listed = a.listed; before = a.before; after = leads_on k.pairs a.pair.later y z a.after (on_strand (b.0, omega arith)) })
  goes_on x y z (inr a) (inr b) =
      inr (record { pair = a.pair; listed = a.listed; before = a.before; after = leads_on k.pairs a.pair.later y z a.after (over_pair b.listed b.before b.after) })

  path_goes : (x z : Node) → Before k x z → Goes x z
  path_goes x z (one_step s) = step_goes s
  path_goes x z (more_steps {y = y} s h) = goes_on x y z (step_goes s) (path_goes y z h)

  no_return : AreAcyclic k.pairs → (n : Node) → Goes n n → ⊥
  no_return acyclic n (inl a) = let p : n.index < n.index = a.1 in omega arith
  no_return acyclic n (inr a) = acyclic a.pair a.listed (leads_on k.pairs a.pair.later n a.pair.earlier a.after (on_strand a.before))

  -- The order has no cycle.
  pub no_cycle : AreBuilt k.strands [] k.pairs → (n : Node) → Before k n n → ⊥
  no_cycle h n p = no_return (built_acyclic k.strands [] k.pairs h (λ q i. elim i [ ])) n (path_goes n n p)

  is_pair : (before pairs : List OrderPair) → AreBuilt k.strands before pairs → (p : OrderPair) → IsIn p pairs → IsOrderPair k p
  is_pair before [] h p i = elim i [ ]
  is_pair before (q ∷ ps) h p here = record { sent = h.0.sent; received = h.0.received; transmission = h.0.transmission; reception = h.0.reception; between_strands = h.0.between }
  is_pair before (q ∷ ps) h p (there i) = is_pair (before ++ q ∷ []) ps h.1 p i

  -- Each pair goes from a transmission to a reception of another strand.
  pub are_pairs : AreBuilt k.strands [] k.pairs → (p : OrderPair) → IsIn p k.pairs → IsOrderPair k p
  are_pairs h = is_pair [] k.pairs h
