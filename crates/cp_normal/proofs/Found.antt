-- What is found among the events of a skeleton is there.
use Rattle.std.proofs.Common.{ℕ, List, [], ◌≡◌, ◌↔◌, ◌⊎◌, inl, inr, Some, true, refl, sym, ap, subst, ◌∙◌, arith}
use Rattle.cp_lists.specs.Lists.{item_at, IsIn}
use Rattle.cp_model.specs.Term.{AtomTerm}
use Rattle.cp_model.specs.declared.strand.Event.TheVariants.{Send as send, Receive as recv}
use Rattle.cp_model.specs.Bundle.{node_at}
use Rattle.cp_model.specs.declared.node.Node.{Node}
use Rattle.cp_model.specs.Skeleton.{instance, skeleton_trace_or_none, term_event_at, UniqueAt, Skeleton}
use Rattle.cp_model.specs.declared.node.OrderPair.{OrderPair}
use Rattle.cp_model.specs.Derivable.{IsOnInstance}
use Rattle.cp_model.specs.Realisation.{OriginatesAtTerm}
use Rattle.cp_skel.specs.Events.{LocatedEvent, is_role_strand, events_of}
use Rattle.cp_collapse.specs.Property.{Has}
use Rattle.cp_normal.specs.Events.{Gathers, CarriesOne, HasOtherOrigin, IsSentAtOrigin, IsCarriedBefore, IsPairBetween}
use Rattle.cp_normal.specs.Findings.{CarriesNonOriginating, HasTwoOrigins, LosesOrigin, IsAddedPair}
use Rattle.cp_skel.proofs.EventLists.{stands_among, listed_event, located_event_at, listed_at}

module _ (k : Skeleton) (all read : List LocatedEvent) (listed : all ≡ events_of k) (is_read : read ≡ all) where
  the_events : read ≡ events_of k
  the_events = is_read ∙ listed

  -- An event with a property is among those that are listed.
  pub listed_has : (has : LocatedEvent → Type 0) → Has has read → Has has (events_of k)
  listed_has has h = subst (Has has) the_events h

  pub has_listed : (has : LocatedEvent → Type 0) → Has has (events_of k) → Has has read
  has_listed has h = subst (Has has) (sym the_events) h

  module _ (values : List AtomTerm) (are_non : values ≡ k.assumptions.non_originating) where
    pub carries_if_found : Has (CarriesOne values) read → CarriesNonOriginating k
    carries_if_found h =
        let r : Has (CarriesOne values) (events_of k) = listed_has (CarriesOne values) h in
        record { value = r.2.0; listed = subst (IsIn r.2.0) are_non r.2.1; node = r.0.node; carried = record { event = r.0.event; there = listed_event k r.0 r.1; carried = r.2.2 } }

    pub found_if_carries : CarriesNonOriginating k → Has (CarriesOne values) read
    found_if_carries c =
        has_listed (CarriesOne values)
        (located_event_at k c.node c.carried.event, listed_at k c.node c.carried.event c.carried.there, (c.value, subst (IsIn c.value) (sym are_non) c.listed, c.carried.carried))

  -- ---- origins

  pub originates_if_found : (u : UniqueAt) → IsOnInstance k u.origin → Has (IsSentAtOrigin u) read → (Has (IsCarriedBefore u) read → ⊥) → OriginatesAtTerm k u.value u.origin
  originates_if_found u on sent not =
      let r : Has (IsSentAtOrigin u) (events_of k) = listed_has (IsSentAtOrigin u) sent in
      let at : term_event_at k.strands r.0.node ≡ Some r.0.event = listed_event k r.0 r.1 in (
        on,
        record {
          sent = r.2.0;
          transmission = subst (λ (n : Node). term_event_at k.strands n ≡ Some (send r.2.0)) r.2.3 (at ∙ ap Some r.2.1);
          carried = r.2.2;
          first = λ j e l there c.
              not (has_listed (IsCarriedBefore u) (located_event_at k (node_at u.origin.strand j) e, listed_at k (node_at u.origin.strand j) e there, (refl, l, c)));
        },
      )

  pub sent_if_originates : (u : UniqueAt) → OriginatesAtTerm k u.value u.origin → Has (IsSentAtOrigin u) read
  sent_if_originates u or =
      has_listed (IsSentAtOrigin u) (located_event_at k u.origin (send or.1.sent), listed_at k u.origin (send or.1.sent) or.1.transmission, (or.1.sent, refl, or.1.carried, refl))

  -- There is an event where a value originates.
  pub there_if_originates : (v : AtomTerm) (n : Node) → OriginatesAtTerm k v n → Has (λ o. o.node ≡ n) read
  there_if_originates v n or = let sent = sent_if_originates (record { value = v; origin = n }) or in (sent.0, sent.1, sent.2.3)

  pub not_before_if_originates : (u : UniqueAt) → OriginatesAtTerm k u.value u.origin → Has (IsCarriedBefore u) read → ⊥
  not_before_if_originates u or before =
      let r : Has (IsCarriedBefore u) (events_of k) = listed_has (IsCarriedBefore u) before in
      let at : term_event_at k.strands r.0.node ≡ Some r.0.event = listed_event k r.0 r.1 in
      or.1.first r.0.node.index r.0.event r.2.1 (subst (λ (s : ℕ). item_at (skeleton_trace_or_none (item_at k.strands s)) r.0.node.index ≡ Some r.0.event) r.2.0 at) r.2.2

-- The value and the node are given by equations.
pub same_origination : (k : Skeleton) (v w : AtomTerm) (x y : Node) → v ≡ w → x ≡ y → OriginatesAtTerm k w y → OriginatesAtTerm k v x
same_origination k v w x y same at o = subst (λ (n : Node). OriginatesAtTerm k v n) (sym at) (subst (λ (u : AtomTerm). OriginatesAtTerm k u y) (sym same) o)

-- ---- an event that is listed

-- A listed event is on a role strand if its node is on an instance.
pub by_role_if_on : (k : Skeleton) (o : LocatedEvent) → IsIn o (events_of k) → IsOnInstance k o.node → o.by_role ≡ true
by_role_if_on k o i on =
    let h = stands_among 0 k.strands o i in
    let at : o.node.strand ≡ h.place = let n = h.number in omega (arith, n) in
    let found : item_at k.strands o.node.strand ≡ Some h.strand = ap (item_at k.strands) at ∙ h.there_is in
    let known : item_at k.strands o.node.strand ≡ Some (instance on.role on.height on.terms) = on.on_instance in
    let same : h.strand ≡ instance on.role on.height on.terms = cc in
    h.role ∙ ap is_role_strand same

-- A value that originates at its node is sent there.
pub sent_if_there : (k : Skeleton) (o : LocatedEvent) (v : AtomTerm) (n : Node) → IsIn o (events_of k) → n ≡ o.node → OriginatesAtTerm k v o.node → IsSentAtOrigin (record { value = v; origin = n }) o
sent_if_there k o v n i at or =
    let there : term_event_at k.strands o.node ≡ Some o.event = listed_event k o i in
    let sent : term_event_at k.strands o.node ≡ Some (send or.1.sent) = or.1.transmission in
    let same : o.event ≡ send or.1.sent = cc in
    (or.1.sent, same, or.1.carried, sym at)

-- ---- entries of unique values

module _ (k : Skeleton) (all read : List UniqueAt) (are_uniques : all ≡ k.assumptions.uniquely_originating) (is_read : read ≡ all) where
  the_uniques : read ≡ k.assumptions.uniquely_originating
  the_uniques = is_read ∙ are_uniques

  pub unique_has : (has : UniqueAt → Type 0) → Has has read → Has has k.assumptions.uniquely_originating
  unique_has has h = subst (Has has) the_uniques h

  pub has_unique : (has : UniqueAt → Type 0) → Has has k.assumptions.uniquely_originating → Has has read
  has_unique has h = subst (Has has) (sym the_uniques) h

  pub two_origins_if_found : Has (λ u. Has (λ w. HasOtherOrigin u w) read) read → HasTwoOrigins k
  two_origins_if_found h =
      let r : Has (λ u. Has (λ w. HasOtherOrigin u w) read) k.assumptions.uniquely_originating = unique_has (λ u. Has (λ w. HasOtherOrigin u w) read) h in
      let s : Has (HasOtherOrigin r.0) k.assumptions.uniquely_originating = unique_has (HasOtherOrigin r.0) r.2 in
      record { first = r.0; second = s.0; first_listed = r.1; second_listed = s.1; same_value = s.2.0; elsewhere = s.2.1 }

  pub found_if_two_origins : HasTwoOrigins k → Has (λ u. Has (λ w. HasOtherOrigin u w) read) read
  found_if_two_origins t =
      has_unique (λ u. Has (λ w. HasOtherOrigin u w) read) (t.first, t.first_listed, has_unique (HasOtherOrigin t.first) (t.second, t.second_listed, (t.same_value, t.elsewhere)))

  pub loses_if_found : Has (λ u. OriginatesAtTerm k u.value u.origin → ⊥) read → LosesOrigin k
  loses_if_found h =
      let r : Has (λ u. OriginatesAtTerm k u.value u.origin → ⊥) k.assumptions.uniquely_originating = unique_has (λ u. OriginatesAtTerm k u.value u.origin → ⊥) h in
      record { entry = r.0; listed = r.1; lost = r.2 }

  pub found_if_loses : LosesOrigin k → Has (λ u. OriginatesAtTerm k u.value u.origin → ⊥) read
  found_if_loses l = has_unique (λ u. OriginatesAtTerm k u.value u.origin → ⊥) (l.entry, l.listed, l.lost)

-- ---- pairs

module _ (k : Skeleton) (all read : List LocatedEvent) (listed : all ≡ events_of k) (is_read : read ≡ all) (entries read_entries : List UniqueAt)
    (are_uniques : entries ≡ k.assumptions.uniquely_originating) (entries_read : read_entries ≡ entries) where
  abbrev AreGiven : OrderPair → Type 0
  AreGiven p = Has (λ o. Has (λ u. IsPairBetween o u p) read_entries) read

  pub added_if_given : (p : OrderPair) → AreGiven p → IsAddedPair k p
  added_if_given p h =
      let r : Has (λ o. Has (λ u. IsPairBetween o u p) read_entries) (events_of k) = listed_has k all read listed is_read (λ o. Has (λ u. IsPairBetween o u p) read_entries) h in
      let s : Has (λ u. IsPairBetween r.0 u p) k.assumptions.uniquely_originating = unique_has k entries read_entries are_uniques entries_read (λ u. IsPairBetween r.0 u p) r.2 in
      let e : p ≡ record { earlier = s.0.origin; later = r.0.node } = s.2.4 in
      let at : term_event_at k.strands r.0.node ≡ Some r.0.event = listed_event k r.0 r.1 in (
        record {
          entry = s.0;
          listed = s.1;
          from_origin = ap (λ (q : OrderPair). q.earlier) e;
          received = s.2.0;
          reception = subst (λ (n : Node). term_event_at k.strands n ≡ Some (recv s.2.0)) (sym (ap (λ (q : OrderPair). q.later) e)) (at ∙ ap Some s.2.1);
          carried = s.2.2;
        },
        λ same. s.2.3 (sym (ap (λ (q : OrderPair). q.earlier.strand) e) ∙ same ∙ ap (λ (q : OrderPair). q.later.strand) e),
      )

  pub given_if_added : (p : OrderPair) → IsAddedPair k p → AreGiven p
  given_if_added p a =
      let o = a.0 in
      let e : p ≡ record { earlier = o.entry.origin; later = p.later } = λ i. record { earlier = o.from_origin i; later = p.later } in
      has_listed k all read listed is_read (λ o. Has (λ u. IsPairBetween o u p) read_entries) (
        located_event_at k p.later (recv o.received),
        listed_at k p.later (recv o.received) o.reception,
        has_unique k entries read_entries are_uniques entries_read (λ u. IsPairBetween (located_event_at k p.later (recv o.received)) u p)
            (o.entry, o.listed, (o.received, refl, o.carried, λ same. a.1 (ap (λ (n : Node). n.strand) o.from_origin ∙ same), e)),
      )

  none_first : (p : OrderPair) (old : List OrderPair) → old ≡ [] → IsIn p old ⊎ AreGiven p → AreGiven p
  none_first p old e (inl h) = elim (subst (IsIn p) e h) [ ]
  none_first p old e (inr h) = h

  pub added_exactly : (old new : List OrderPair) → old ≡ [] → Gathers (λ o p. Has (λ u. IsPairBetween o u p) read_entries) read old new → (p : OrderPair) → IsIn p new ↔ IsAddedPair k p
  added_exactly old new e gathers p = (λ h. added_if_given p (none_first p old e ((gathers p).0 h)), λ a. (gathers p).1 (inr (given_if_added p a)))
