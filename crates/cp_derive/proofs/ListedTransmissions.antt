-- Transmissions gathered among the events of a skeleton, and which they are.
use Rattle.std.proofs.Common.{ℕ, suc, ◌+◌, ◌<◌, Bool, true, false, List, [], ◌∷◌, ◌++◌, Some, ◌≡◌, ◌⊎◌, inl, inr, subst, length, get_or, drop, refl, sym, ap, ◌∙◌, add-one}
use Rattle.std.proofs.Math.Seq.{drop-cons}
use Rattle.cp_lists.proofs.Members.{in_cases}
use Rattle.cp_lists.specs.Lists.{item_at, IsIn, here, there}
use Rattle.cp_lists.proofs.Appended.{moved_behind}
use Rattle.cp_model.specs.Term.{Term}
use Rattle.cp_model.specs.declared.strand.Event.{Event}
use Rattle.cp_model.specs.declared.strand.Event.TheVariants.{Send as send, Receive as recv}
use Rattle.cp_model.specs.declared.node.Node.{Node}
use Rattle.cp_model.specs.Skeleton.{SkeletonStrand, instance, term_event_at, Skeleton}
use Rattle.cp_model.specs.Derivable.{IsOnInstance}
use Rattle.cp_skel.specs.Events.{LocatedEvent, is_role_strand, events_of}
use Rattle.cp_skel.proofs.EventLists.{listed_event, listed_role, event_listed}
use Rattle.cp_derive.specs.Transmissions.{Transmission, if_sent, transmissions_among}

-- What is sent among the events from a place on.
sent_from : (os : List LocatedEvent) (i : ℕ) (o : LocatedEvent) → i < length os → o ≡ get_or os i o →
    transmissions_among (drop i os) ≡ if_sent o.node o.event o.by_role (transmissions_among (drop (suc i) os))
sent_from os i o h is =
    ap transmissions_among (drop-cons os i o h)
    ∙ ap (λ (x : LocatedEvent). if_sent x.node x.event x.by_role (transmissions_among (drop (suc i) os))) (sym is)

module _ (os : List LocatedEvent) (i : ℕ) (o : LocatedEvent) (old new whole : List Transmission) (h : i < length os) (is : o ≡ get_or os i o)
    (all : old ++ transmissions_among (drop i os) ≡ whole) where
  pub transmission_added : (t : Term) → o.event ≡ send t → o.by_role ≡ true → new ≡ old ++ (record { node = o.node; message = t } ∷ []) →
      new ++ transmissions_among (drop (i + 1) os) ≡ whole
  transmission_added t e r n =
      let rest : List Transmission = transmissions_among (drop (suc i) os) in
      let step : transmissions_among (drop i os) ≡ record { node = o.node; message = t } ∷ rest =
      sent_from os i o h is ∙ ap (λ v. if_sent o.node v o.by_role rest) e ∙ ap (λ b. if_sent o.node (send t) b rest) r in
      rw add-one (moved_behind old new (transmissions_among (drop i os)) rest whole (record { node = o.node; message = t }) n step all)

  not_sent : (e : Event Term) (ts : List Transmission) → ((t : Term) → e ≡ send t → ⊥) → if_sent o.node e o.by_role ts ≡ ts
  not_sent (send t) ts other = absurd (other t refl)
  not_sent (recv t) ts other = refl

  pub reception_passed : ((t : Term) → o.event ≡ send t → ⊥) → new ≡ old → new ++ transmissions_among (drop (i + 1) os) ≡ whole
  reception_passed other n =
      let rest : List Transmission = transmissions_among (drop (suc i) os) in
      rw add-one (ap (λ ys. ys ++ rest) n ∙ sym (ap (λ ys. old ++ ys) (sent_from os i o h is ∙ not_sent o.event rest other)) ∙ all)

-- ---- which they are

sent_first : (n : Node) (e : Event Term) (r : Bool) (ts : List Transmission) (t : Transmission) → IsIn t (if_sent n e r ts) →
    (◌≡◌ {A = LocatedEvent} (record { node = n; event = e; by_role = r }) (record { node = t.node; event = send t.message; by_role = true })) ⊎ IsIn t ts
sent_first n (send m) true ts t h =
    elim (in_cases h) [ inl same ↦ inl (ap (λ (x : Transmission). let o : LocatedEvent = record { node = x.node; event = send x.message; by_role = true } in o) same) | inr i ↦ inr i ]
sent_first n (send m) false ts t h = inr h
sent_first n (recv m) r ts t h = inr h

pub sent_listed : (os : List LocatedEvent) (t : Transmission) → IsIn t (transmissions_among os) → IsIn (record { node = t.node; event = send t.message; by_role = true }) os
sent_listed [] t h = elim h [ ]
sent_listed (o ∷ os) t h =
    elim (sent_first o.node o.event o.by_role (transmissions_among os) t h) [
      | inl same ↦ subst (λ x. IsIn x (o ∷ os)) same here
      | inr i ↦ there (sent_listed os t i)
    ]

sent_passed : (n : Node) (e : Event Term) (r : Bool) (ts : List Transmission) (t : Transmission) → IsIn t ts → IsIn t (if_sent n e r ts)
sent_passed n (send m) true ts t h = there h
sent_passed n (send m) false ts t h = h
sent_passed n (recv m) r ts t h = h

pub listed_sent : (os : List LocatedEvent) (t : Transmission) → IsIn (record { node = t.node; event = send t.message; by_role = true }) os → IsIn t (transmissions_among os)
listed_sent [] t h = elim h [ ]
listed_sent (o ∷ os) t h =
    elim (in_cases h) [
      | inl same ↦ subst (λ (x : LocatedEvent). IsIn t (if_sent x.node x.event x.by_role (transmissions_among os))) (sym same) here
      | inr i ↦ sent_passed o.node o.event o.by_role (transmissions_among os) t (listed_sent os t i)
    ]

role_of : (k : Skeleton) (n : Node) (x : SkeletonStrand) → IsOnInstance k n → item_at k.strands n.strand ≡ Some x → is_role_strand x ≡ true
role_of k n x on at =
    let same : x ≡ instance on.role on.height on.terms = let there_is = on.on_instance in cc in
    ap is_role_strand same

-- What a role strand sends at a node is listed, and nothing else is.
pub transmission_listed : (k : Skeleton) (n : Node) (t : Term) → IsOnInstance k n → term_event_at k.strands n ≡ Some (send t) →
    IsIn (record { node = n; message = t }) (transmissions_among (events_of k))
transmission_listed k n t on at =
    let h = event_listed k n (send t) at in
    listed_sent (events_of k) (record { node = n; message = t })
    (subst (λ r. IsIn (record { node = n; event = send t; by_role = r }) (events_of k)) (role_of k n h.0 on h.1.at) h.1.listed)

pub listed_on_role : (k : Skeleton) (t : Transmission) → IsIn t (transmissions_among (events_of k)) → IsOnInstance k t.node
listed_on_role k t h = listed_role k (record { node = t.node; event = send t.message; by_role = true }) (sent_listed (events_of k) t h) refl

pub listed_transmission : (k : Skeleton) (t : Transmission) → IsIn t (transmissions_among (events_of k)) → term_event_at k.strands t.node ≡ Some (send t.message)
listed_transmission k t h = listed_event k (record { node = t.node; event = send t.message; by_role = true }) (sent_listed (events_of k) t h)
