-- The unrealised receptions picked out of the list of events.
use Rattle.std.proofs.Common.{ℕ, suc, ◌+◌, ◌<◌, ◌≤◌, Bool, List, [], ◌∷◌, ◌++◌, map, ◌≡◌, ◌⊎◌, inl, inr, sym, subst, ap, ◌∙◌, arith}
use Rattle.std.proofs.lemmas.List.{map-append}
use Rattle.cp_lists.proofs.Members.{in_cases, in_append}
use Rattle.cp_lists.specs.Lists.{IsIn, here, there}
use Rattle.cp_model.specs.Term.{Term}
use Rattle.cp_model.specs.declared.strand.Event.{Event}
use Rattle.cp_model.specs.declared.strand.Event.TheVariants.{Receive as recv}
use Rattle.cp_model.specs.declared.node.Node.{Node}
use Rattle.cp_model.specs.Skeleton.{SkeletonStrand, skeleton_trace, Skeleton}
use Rattle.cp_skel.specs.Events.{LocatedEvent, is_role_strand, located_events_on, located_events_from, events_of}
use Rattle.cp_derive.specs.Picked.{Picks, no_more, picks, passes}
use Rattle.cp_derive.specs.Unrealised.{IsUnrealisedAt, IsRealisedAt, IsListedBefore, AreRising, ListsUnrealised}
use Rattle.cp_skel.proofs.EventLists.{stands_on, stands_among, event_listed}

abbrev pub node_of : LocatedEvent → Node
node_of o = o.node

-- ---- which are picked

picked_one : (k : Skeleton) (n m : Node) (ns : List Node) → IsUnrealisedAt k n → (IsIn m ns → IsUnrealisedAt k m) → IsIn m (n ∷ ns) → IsUnrealisedAt k m
picked_one k n m ns h more i = elim (in_cases i) [ inl e ↦ subst (IsUnrealisedAt k) e h | inr j ↦ more j ]

pub picked : (k : Skeleton) (os : List LocatedEvent) (ns : List Node) → Picks k os ns → (m : Node) → IsIn m ns → IsUnrealisedAt k m
picked k _ _ no_more m i = elim i [ ]
picked k _ _ (picks {o} {os} {ns} h more) m i = picked_one k o.node m ns h (picked k os ns more m) i
picked k _ _ (passes {o} {os} {ns} h more) m i = picked k os ns more m i

not_both_ways : (k : Skeleton) (n : Node) → IsRealisedAt k n → IsUnrealisedAt k n → ⊥
not_both_ways k n h u = u.underivable (h u.message u.reception)

pub all_picked : (k : Skeleton) (os : List LocatedEvent) (ns : List Node) → Picks k os ns → (o : LocatedEvent) → IsIn o os → IsUnrealisedAt k o.node → IsIn o.node ns
all_picked k _ _ no_more o i u = elim i [ ]
all_picked k _ _ (picks {o = x} {os} {ns} h more) o i u =
    elim (in_cases i) [ inl e ↦ subst (λ (y : LocatedEvent). IsIn y.node (x.node ∷ ns)) e here | inr j ↦ there (all_picked k os ns more o j u) ]
all_picked k _ _ (passes {o = x} {os} {ns} h more) o i u =
    elim (in_cases i) [ inl e ↦ absurd (not_both_ways k o.node (subst (λ (y : LocatedEvent). IsRealisedAt k y.node) e h) u) | inr j ↦ all_picked k os ns more o j u ]

-- what is not picked can be derived
pub others_passed : (k : Skeleton) (os : List LocatedEvent) (ns : List Node) → Picks k os ns → (o : LocatedEvent) → IsIn o os → IsIn o.node ns ⊎ IsRealisedAt k o.node
others_passed k _ _ no_more o i = elim i [ ]
others_passed k _ _ (picks {o = x} {os} {ns} h more) o i =
    elim (in_cases i) [
      | inl e ↦ inl (subst (λ (y : LocatedEvent). IsIn y.node (x.node ∷ ns)) e here)
      | inr j ↦ elim (others_passed k os ns more o j) [ inl a ↦ inl (there a) | inr b ↦ inr b ]
    ]
others_passed k _ _ (passes {o = x} {os} {ns} h more) o i =
    elim (in_cases i) [ inl e ↦ inr (subst (λ (y : LocatedEvent). IsRealisedAt k y.node) e h) | inr j ↦ others_passed k os ns more o j ]

-- what is picked of two lists, one behind the other
pub picked_both : (k : Skeleton) (os ps : List LocatedEvent) (ns ms : List Node) → Picks k os ns → Picks k ps ms → Picks k (os ++ ps) (ns ++ ms)
picked_both k _ ps _ ms no_more h = h
picked_both k _ ps _ ms (picks {o} {os} {ns} u more) h = picks {o = o} u (picked_both k os ps ns ms more h)
picked_both k _ ps _ ms (passes {o} {os} {ns} r more) h = passes {o = o} r (picked_both k os ps ns ms more h)

-- ---- in order

pub among_nodes : (k : Skeleton) (os : List LocatedEvent) (ns : List Node) → Picks k os ns → (m : Node) → IsIn m ns → IsIn m (map node_of os)
among_nodes k _ _ no_more m i = elim i [ ]
among_nodes k _ _ (picks {o} {os} {ns} h more) m i = elim (in_cases i) [ inl e ↦ subst (λ y. IsIn y (o.node ∷ map node_of os)) e here | inr j ↦ there (among_nodes k os ns more m j) ]
among_nodes k _ _ (passes {o} {os} {ns} h more) m i = there (among_nodes k os ns more m i)

pub picked_rise : (k : Skeleton) (os : List LocatedEvent) (ns : List Node) → Picks k os ns → AreRising (map node_of os) → AreRising ns
picked_rise k _ _ no_more r = tt
picked_rise k _ _ (picks {o} {os} {ns} h more) r = (λ m i. r.0 m (among_nodes k os ns more m i), picked_rise k os ns more r.1)
picked_rise k _ _ (passes {o} {os} {ns} h more) r = picked_rise k os ns more r.1

rise_both : (xs ys : List Node) → AreRising xs → AreRising ys → ((x y : Node) → IsIn x xs → IsIn y ys → IsListedBefore x y) → AreRising (xs ++ ys)
rise_both [] ys first second apart = second
rise_both (x ∷ xs) ys first second apart = (
  λ m i. elim (in_append xs ys i) [ inl j ↦ first.0 m j | inr j ↦ apart x m here j ],
  rise_both xs ys first.1 second (λ y z i j. apart y z (there i) j),
)

-- A node of the list is that of some event in it.
record IsNodeIn (os : List LocatedEvent) (n : Node) : Type 0 where
  occurrence : LocatedEvent
  listed : IsIn occurrence os
  same : occurrence.node ≡ n

node_in : (os : List LocatedEvent) (n : Node) → IsIn n (map node_of os) → IsNodeIn os n
node_in [] n h = elim h [ ]
node_in (o ∷ os) n h =
    elim (in_cases h) [
      | inl e ↦ record { occurrence = o; listed = here; same = e }
      | inr i ↦ let more = node_in os n i in record { occurrence = more.occurrence; listed = there more.listed; same = more.same }
    ]

on_strand_from : (s i : ℕ) (r : Bool) (es : List (Event Term)) (n : Node) → IsIn n (map node_of (located_events_on s i r es)) → (n.strand ≡ s) × (i ≤ n.index)
on_strand_from s i r es n h =
    let at = node_in (located_events_on s i r es) n h in
    let on = stands_on s i r es at.occurrence at.listed in
    let strand : n.strand ≡ s = ap (λ (x : Node). x.strand) (sym at.same) ∙ on.strand in
    let index : n.index ≡ i + on.place = ap (λ (x : Node). x.index) (sym at.same) ∙ on.index in
    (strand, omega arith)

on_rise : (s i : ℕ) (r : Bool) (es : List (Event Term)) → AreRising (map node_of (located_events_on s i r es))
on_rise s i r [] = tt
on_rise s i r (e ∷ es) = (
  λ m h. let at = on_strand_from s (suc i) r es m h in let later : i < m.index = let p = at.1 in omega arith in inr (sym at.0, later),
  on_rise s (suc i) r es,
)

strands_from : (s : ℕ) (xs : List SkeletonStrand) (n : Node) → IsIn n (map node_of (located_events_from s xs)) → s ≤ n.strand
strands_from s xs n h =
    let at = node_in (located_events_from s xs) n h in
    let on = stands_among s xs at.occurrence at.listed in
    let strand : n.strand ≡ s + on.place = ap (λ (x : Node). x.strand) (sym at.same) ∙ on.number in
    omega arith

pub all_rise : (s : ℕ) (xs : List SkeletonStrand) → AreRising (map node_of (located_events_from s xs))
all_rise s [] = tt
all_rise s (x ∷ xs) =
    let first : List LocatedEvent = located_events_on s 0 (is_role_strand x) (skeleton_trace x) in
    let rest : List LocatedEvent = located_events_from (suc s) xs in
    subst AreRising (sym (map-append node_of first rest))
    (rise_both (map node_of first) (map node_of rest) (on_rise s 0 (is_role_strand x) (skeleton_trace x)) (all_rise (suc s) xs)
    (λ y z i j.
    let low : y.strand ≡ s = (on_strand_from s 0 (is_role_strand x) (skeleton_trace x) y i).0 in
    let high : suc s ≤ z.strand = strands_from (suc s) xs z j in
    let below : y.strand < z.strand = omega arith in
    inl below))

-- ---- together

pub lists_unrealised : (k : Skeleton) (ns : List Node) → Picks k (events_of k) ns → ListsUnrealised k ns
lists_unrealised k ns h = record {
  each = λ n. (
    λ i. picked k (events_of k) ns h n i,
    λ u.
        let at = event_listed k n (recv u.message) u.reception in
        all_picked k (events_of k) ns h (record { node = n; event = recv u.message; by_role = is_role_strand at.0 }) at.1.listed u,
  );
  others = λ n t r.
      let at = event_listed k n (recv t) r in
      elim (others_passed k (events_of k) ns h (record { node = n; event = recv t; by_role = is_role_strand at.0 }) at.1.listed) [ inl a ↦ inl a | inr b ↦ inr (b t r) ];
  rising = picked_rise k (events_of k) ns h (all_rise 0 k.strands);
}
