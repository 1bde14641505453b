-- What role strands send before a node, gathered event by event, and what is derivable from it.
use Rattle.std.proofs.Common.{ℕ, ◌+◌, ◌≤◌, List, [], ◌∷◌, ◌++◌, Some, ◌≡◌, inl, inr, length, take, add-one, refl, sym, subst, ap, ◌∙◌}
use Rattle.std.specs.Prelude.{◌↔◌}
use Rattle.std.proofs.lemmas.List.{take_all}
use Rattle.cp_lists.specs.Lists.{item_at, IsIn, here}
use Rattle.cp_lists.proofs.Items.{take_to_item}
use Rattle.cp_lists.proofs.Members.{not_in_none, only_item, in_append, in_append_left, in_append_right}
use Rattle.cp_model.specs.Term.{Term}
use Rattle.cp_model.specs.declared.strand.Event.TheVariants.{Send as send}
use Rattle.cp_model.specs.declared.node.Node.{Node}
use Rattle.cp_model.specs.Skeleton.{Skeleton}
use Rattle.cp_model.specs.Derivable.{DerivableAt}
use Rattle.cp_skel.specs.Events.{LocatedEvent, events_of}
use Rattle.cp_skel.specs.Preceding.{SkeletonNode}
use Rattle.cp_skel.proofs.EventLists.{listed_event, listed_role}
use Rattle.cp_derive.specs.Assumed.{assumed_values}
use Rattle.cp_derive.specs.AtNode.{SendsBefore, IsSentAmong, AreSentBefore}
use Rattle.cp_derive.specs.From.{IsSentBefore}
use Rattle.cp_derive.specs.Given.{Given, IsDerivable, IsGivenAt}
use Rattle.cp_derive.proofs.FromLaw.{given_at}
use Rattle.cp_derive.proofs.Listed.{IsPushed, pushed}
use Rattle.cp_derive.proofs.ListedTransmissions.{transmission_listed, sent_listed}
use Rattle.cp_derive.proofs.Secrets.{secret_values}

module _ (at : SkeletonNode) where
  among_more : (os more : List LocatedEvent) (t : Term) → IsSentAmong at os t → IsSentAmong at (os ++ more) t
  among_more os more t s = record { event = s.event; listed = in_append_left more s.listed; by = s.by }

  same_event : (o p : LocatedEvent) (t : Term) → p ≡ o → SendsBefore at p t → SendsBefore at o t
  same_event o p t e s = subst (λ (x : LocatedEvent). SendsBefore at x t) e s

  none_after : (os : List LocatedEvent) (o : LocatedEvent) (ts : List Term) → ((t : Term) → SendsBefore at o t → ⊥) → AreSentBefore at os ts → AreSentBefore at (os ++ o ∷ []) ts
  none_after os o ts none are = record {
    each = λ t s.
        elim (in_append os (o ∷ []) s.listed) [
          | inl i ↦ are.each t (record { event = s.event; listed = i; by = s.by })
          | inr i ↦ absurd (none t (same_event o s.event t (only_item i) s.by))
        ];
    only = λ t i. among_more os (o ∷ []) t (are.only t i);
  }

  same_message : (o : LocatedEvent) (t u : Term) → SendsBefore at o t → SendsBefore at o u → t ≡ u
  same_message o t u a b = let both : send t ≡ send u = sym a.sends ∙ b.sends in cc

  one_after : (os : List LocatedEvent) (o : LocatedEvent) (old new : List Term) (t : Term) → SendsBefore at o t → new ≡ old ++ t ∷ [] → AreSentBefore at os old →
      AreSentBefore at (os ++ o ∷ []) new
  one_after os o old new t sends e are =
      let p : IsPushed old t new = pushed old t new e in
      record {
        each = λ u s.
            elim (in_append os (o ∷ []) s.listed) [
              | inl i ↦ p.more u (are.each u (record { event = s.event; listed = i; by = s.by }))
              | inr i ↦ subst (λ x. IsIn x new) (same_message o t u sends (same_event o s.event u (only_item i) s.by)) p.itself
            ];
        only = λ u i.
            elim (p.only u i) [
              | inl j ↦ among_more os (o ∷ []) u (are.only u j)
              | inr same ↦ record { event = o; listed = in_append_right os here; by = subst (λ x. SendsBefore at o x) same sends }
            ];
      }

  pub nothing_sent : AreSentBefore at [] []
  nothing_sent = record { each = λ t s. absurd (not_in_none s.listed); only = λ t i. absurd (not_in_none i) }

  module _ (os : List LocatedEvent) (i : ℕ) (o : LocatedEvent) (listed : item_at os i ≡ Some o) where
    next : take (i + 1) os ≡ take i os ++ o ∷ []
    next = ap (λ m. take m os) (add-one i) ∙ take_to_item os i o listed

    pub event_passed : (ts : List Term) → ((t : Term) → SendsBefore at o t → ⊥) → AreSentBefore at (take i os) ts → AreSentBefore at (take (i + 1) os) ts
    event_passed ts none are = subst (λ xs. AreSentBefore at xs ts) (sym next) (none_after (take i os) o ts none are)

    pub event_sent : (old new : List Term) (t : Term) → SendsBefore at o t → new ≡ old ++ t ∷ [] → AreSentBefore at (take i os) old → AreSentBefore at (take (i + 1) os) new
    event_sent old new t sends e are = subst (λ xs. AreSentBefore at xs new) (sym next) (one_after (take i os) o old new t sends e are)

  pub all_sent : (os : List LocatedEvent) (i : ℕ) (ts : List Term) → length os ≤ i → AreSentBefore at (take i os) ts → AreSentBefore at os ts
  all_sent os i ts past are = subst (λ xs. AreSentBefore at xs ts) (take_all i os past) are

-- ---- at a node of a skeleton

module _ (k : Skeleton) (n : Node) (ts : List Term) (are : AreSentBefore (record { skeleton = k; node = n }) (events_of k) ts) where
  listed_before : (t : Term) → IsIn t ts → IsSentBefore k n t
  listed_before t i =
      let s = are.only t i in
      record {
        from = s.event.node;
        on_instance = listed_role k s.event s.listed s.by.by_role;
        transmission = listed_event k s.event s.listed ∙ ap Some s.by.sends;
        before = s.by.before;
      }

  before_listed : (t : Term) → IsSentBefore k n t → IsIn t ts
  before_listed t s =
      are.each t (record {
        event = record { node = s.from; event = send t; by_role = _ };
        listed = sent_listed (events_of k) (record { node = s.from; message = t }) (transmission_listed k s.from t s.on_instance s.transmission);
        by = record { by_role = refl; sends = refl; before = s.before };
      })

  pub derivable_from_sent : (g : Given) → g ≡ record { sent = ts; secrets = assumed_values k.assumptions } → (t : Term) → IsDerivable g t ↔ DerivableAt k n t
  derivable_from_sent g e t =
      let given : Given = record { sent = ts; secrets = assumed_values k.assumptions } in
      let is_given : IsGivenAt k n given = record { sent = λ u. (listed_before u, before_listed u); secrets = secret_values k } in
      let both : DerivableAt k n t ↔ IsDerivable g t = subst (λ x. DerivableAt k n t ↔ IsDerivable x t) (sym e) (given_at k n given is_given t) in
      (both.1, both.0)
