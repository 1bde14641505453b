-- A unique value that originates elsewhere on a strand was received there first.
use Rattle.std.proofs.Common.{◌≡◌, ◌≢◌, ℕ, zero, suc, ◌<◌, List, Option, Some, None, refl, sym, ap, ◌∙◌, subst, ◌⊎◌, inl, inr, arith, eq-or-lt_of_le, le_of_suc-le-suc}
use Rattle.cp_lists.specs.Lists.{item_at, IsIn}
use Rattle.cp_model.specs.Message.{Message, atom, IsCarriedBy}
use Rattle.cp_model.specs.Term.{Term, value_of, value_of_atom}
use Rattle.cp_model.specs.Strand.{payload, event_map, Protocol}
use Rattle.cp_model.specs.declared.strand.Event.{Event}
use Rattle.cp_model.specs.declared.strand.Event.TheVariants.{Send as send, Receive as recv}
use Rattle.cp_model.specs.Bundle.{node_at, trace_or_none, event_at, OriginatesAt, Bundle}
use Rattle.cp_model.specs.declared.node.Node.{Node}
use Rattle.cp_model.specs.Skeleton.{instance, skeleton_trace_or_none, term_event_at, UniqueAt, Skeleton, IsSkeleton}
use Rattle.cp_model.specs.Standing.{Standing, StandsIn, StandsApart}
use Rattle.cp_model.specs.Derivable.{IsOnInstance}
use Rattle.cp_model.specs.Realisation.{OriginatesAtTerm}
use Rattle.cp_model.proofs.LawMessages.{dec_carried}
use Rattle.cp_lists.proofs.Items.{item_before}
use Rattle.cp_theory.specs.Normal.{IsHeardBefore}
use Rattle.cp_theory.proofs.Values.{CarriesValue, carried_atom}
use Rattle.cp_model.proofs.CarriedValues.{carried_value}
use Rattle.cp_model.proofs.LawStandings.{event_on}
use Rattle.cp_theory.proofs.Images.{image_event}
use Rattle.cp_theory.proofs.Origins.{same_origin}

-- The first event of a trace, before place n, that carries the message.
abbrev NoneBefore : Message → List (Event Message) → ℕ → Type 0
NoneBefore v tr n = (j : ℕ) (e : Event Message) → j < n → item_at tr j ≡ Some e → IsCarriedBy v (payload e) → ⊥

record FirstBefore (v : Message) (tr : List (Event Message)) (n : ℕ) : Type 0 where
  place : ℕ
  below : place < n
  event : Event Message
  there : item_at tr place ≡ Some event
  carried : IsCarriedBy v (payload event)
  none : NoneBefore v tr place

none_at : (v : Message) (tr : List (Event Message)) (n : ℕ) → NoneBefore v tr n → ((e : Event Message) → item_at tr n ≡ Some e → IsCarriedBy v (payload e) → ⊥) →
    (j : ℕ) (e : Event Message) → (j ≡ n) ⊎ (j < n) → item_at tr j ≡ Some e → IsCarriedBy v (payload e) → ⊥
none_at v tr n none last j e (inl same) at c = last e (subst (λ (i : ℕ). item_at tr i ≡ Some e) same at) c
none_at v tr n none last j e (inr l) at c = none j e l at c

none_more : (v : Message) (tr : List (Event Message)) (n : ℕ) → NoneBefore v tr n → ((e : Event Message) → item_at tr n ≡ Some e → IsCarriedBy v (payload e) → ⊥) → NoneBefore v tr (suc n)
none_more v tr n none last j e l at c = none_at v tr n none last j e (eq-or-lt_of_le (le_of_suc-le-suc l)) at c

at_event : (v : Message) (tr : List (Event Message)) (n : ℕ) (f : Event Message) → item_at tr n ≡ Some f → Dec (IsCarriedBy v (payload f)) → NoneBefore v tr n → FirstBefore v tr (suc n) ⊎ NoneBefore v tr (suc n)
at_event v tr n f at (yes c) none = inl (record { place = n; below = omega arith; event = f; there = at; carried = c; none = none })
at_event v tr n f at (no d) none = inr (none_more v tr n none (λ e ev c. let both : Some f ≡ Some e = sym at ∙ ev in let same : e ≡ f = cc in d (subst (λ (x : Event Message). IsCarriedBy v (payload x)) same c)))

at_place : (v : Message) (tr : List (Event Message)) (n : ℕ) (o : Option (Event Message)) → item_at tr n ≡ o → NoneBefore v tr n → FirstBefore v tr (suc n) ⊎ NoneBefore v tr (suc n)
at_place v tr n None at none = inr (none_more v tr n none (λ e ev c. let both : None ≡ Some e = sym at ∙ ev in absurd (cc)))
at_place v tr n (Some f) at none = at_event v tr n f at (dec_carried v (payload f)) none

scan_more : (v : Message) (tr : List (Event Message)) (n : ℕ) → FirstBefore v tr n ⊎ NoneBefore v tr n → FirstBefore v tr (suc n) ⊎ NoneBefore v tr (suc n)
scan_more v tr n (inl r) = let l : r.place < n = r.below in inl (record { place = r.place; below = omega arith; event = r.event; there = r.there; carried = r.carried; none = r.none })
scan_more v tr n (inr none) = at_place v tr n (item_at tr n) refl none

scan : (v : Message) (tr : List (Event Message)) (n : ℕ) → FirstBefore v tr n ⊎ NoneBefore v tr n
scan v tr zero = inr (λ j e l at c. absurd (omega arith))
scan v tr (suc n) = scan_more v tr n (scan v tr n)

-- A reception whose value is that of an event.
received_of : {A B : Type 0} (f : A → B) (e : Event A) (m : B) → event_map f e ≡ recv m → (t : A) × (e ≡ recv t) × (f t ≡ m)
received_of f (recv t) m p = (t, refl, cc)
received_of f (send t) m p = absurd (cc)

-- On a strand the value originates at no node after its recorded origin.
pub not_after_its_origin : (protocol : Protocol) (k : Skeleton) (u : UniqueAt) (x : Node) → IsSkeleton protocol k → IsIn u k.assumptions.uniquely_originating → OriginatesAtTerm k u.value x → u.origin.strand ≡ x.strand → u.origin.index < x.index → ⊥
not_after_its_origin protocol k u x sk inu or same l =
    let o = sk.origins u inu in
    or.1.first u.origin.index (send o.sent) l (subst (λ (s : ℕ). term_event_at k.strands (node_at s u.origin.index) ≡ Some (send o.sent)) same o.transmission) o.carried

module _ (protocol : Protocol) (k : Skeleton) (b : Bundle) (h : Standing) (u : UniqueAt) (x : Node) (sk : IsSkeleton protocol k) (inu : IsIn u k.assumptions.uniquely_originating)
    (or : OriginatesAtTerm k u.value x) (elsewhere : x ≢ u.origin) (stands : StandsIn k b h) (apart : StandsApart k h) where
  on : IsOnInstance k x
  on = or.0

  abbrev v : Message
  v = atom (value_of_atom h.values u.value)

  abbrev strand : ℕ
  strand = (h.nodes x.strand).strand

  image : (i : ℕ) (e : Event Term) → term_event_at k.strands (node_at x.strand i) ≡ Some e → event_at b.strands (node_at strand i) ≡ Some (event_map (value_of h.values) e)
  image i e at = image_event b h x.strand on.role on.height on.terms i e (stands.instances x.strand on.role on.height on.terms on.on_instance)
      (event_on k (node_at x.strand i) (instance on.role on.height on.terms) e on.on_instance at)

  -- Where the value originates on the strand of the image, there is the recorded origin.
  recorded : (i : ℕ) → OriginatesAt b.strands v (node_at strand i) → node_at x.strand i ≡ u.origin
  recorded i o = same_origin k h u (sk.origins u inu) x on i apart ((stands.unique u inu).only (node_at strand i) o)

  originates_at : NoneBefore v (trace_or_none (item_at b.strands strand)) x.index → OriginatesAt b.strands v (node_at strand x.index)
  originates_at none = record { sent = value_of h.values or.1.sent; transmission = image x.index (send or.1.sent) or.1.transmission; carried = carried_value h.values or.1.carried; first = none }

  of_reception : (i : ℕ) (m : Message) → i < x.index → event_at b.strands (node_at strand i) ≡ Some (recv m) → IsCarriedBy v m → IsHeardBefore k h.values u.value x
  of_reception i m l ev c =
      let there = item_before (skeleton_trace_or_none (item_at k.strands x.strand)) i x.index (send or.1.sent) or.1.transmission (omega arith) in
      let whole : Some (event_map (value_of h.values) there.0) ≡ Some (recv m) = sym (image i there.0 there.1) ∙ ev in
      let same : event_map (value_of h.values) there.0 ≡ recv m = cc in
      let r = received_of (value_of h.values) there.0 m same in
      let a : CarriesValue h.values (value_of_atom h.values u.value) r.0 = carried_atom h.values (value_of_atom h.values u.value) r.0 (subst (IsCarriedBy v) (sym r.2) c) in
      record { index = i; earlier = l; received = r.0; reception = there.1 ∙ ap Some r.1; heard = a.item; carried = a.carried; equal = a.equal }

  no_transmission : (i : ℕ) (m : Message) → i < x.index → event_at b.strands (node_at strand i) ≡ Some (send m) → IsCarriedBy v m → NoneBefore v (trace_or_none (item_at b.strands strand)) i → ⊥
  no_transmission i m l ev c none =
      let same : node_at x.strand i ≡ u.origin = recorded i (record { sent = m; transmission = ev; carried = c; first = none }) in
      let o = sk.origins u inu in
      let there : term_event_at k.strands (node_at x.strand i) ≡ Some (send o.sent) = subst (λ (n : Node). term_event_at k.strands n ≡ Some (send o.sent)) (sym same) o.transmission in
      or.1.first i (send o.sent) l there o.carried

  of_first : (i : ℕ) (e : Event Message) → i < x.index → event_at b.strands (node_at strand i) ≡ Some e → IsCarriedBy v (payload e) → NoneBefore v (trace_or_none (item_at b.strands strand)) i → IsHeardBefore k h.values u.value x
  of_first i (recv m) l ev c none = of_reception i m l ev c
  of_first i (send m) l ev c none = absurd (no_transmission i m l ev c none)

  decide : FirstBefore v (trace_or_none (item_at b.strands strand)) x.index ⊎ NoneBefore v (trace_or_none (item_at b.strands strand)) x.index → IsHeardBefore k h.values u.value x
  decide (inl r) = of_first r.place r.event r.below r.there r.carried r.none
  decide (inr none) = absurd (elsewhere (recorded x.index (originates_at none)))

  pub heard_before : IsHeardBefore k h.values u.value x
  heard_before = decide (scan v (trace_or_none (item_at b.strands strand)) x.index)
