-- A history of all nodes is a bundle: the links by look-up, the numbering from the oldest event to the newest.
use Rattle.std.proofs.Common.{◌++◌, ◌≡◌, ℕ, ◌<◌, List, [], ◌∷◌, length, map, Option, Some, None, refl, sym, ap, ◌∙◌, subst, ◌⊎◌, inl, inr}
use Rattle.cp_lists.specs.Lists.{item_at, IsIn, there, one_step, more_steps}
use Rattle.cp_model.specs.Message.{Message}
use Rattle.cp_model.specs.Term.{value_of}
use Rattle.cp_model.specs.Bindings.{as_substitution}
use Rattle.cp_model.specs.Strand.{event_map, Protocol, prefix_of, Strand, trace_of}
use Rattle.cp_model.specs.declared.strand.Event.{Event}
use Rattle.cp_model.specs.declared.strand.Event.TheVariants.{Send as send, Receive as recv}
use Rattle.cp_model.specs.Bundle.{node_at, trace_or_none, event_at, IsListing, AreOfProtocol, Bundle, BundleStep, along_strand, along_link, Precedes, IsBundle}
use Rattle.cp_model.specs.declared.node.Node.{Node}
use Rattle.cp_model.specs.Skeleton.{SkeletonStrand, instance, listener, skeleton_trace, skeleton_trace_or_none, IsNodeOf, Skeleton}
use Rattle.cp_lists.proofs.Items.{item_below, place_of, map_of_item, item_of_map, item_still, item_of_push, at_place}
use Rattle.cp_model.proofs.LawEvents.{trace_after}
use Rattle.cp_lists.proofs.Members.{head_or_behind, at_head, in_with_last}
use Rattle.cp_theory.proofs.SameNodes.{same_node_or_not}
use Rattle.cp_theory.proofs.Histories.{Entry, IsAfter, after_previous, after_sender, EntryStep, entry_step, Leads, HasHappened, HappenedFor, Chain, came_after, came_for, before_both}
use Rattle.cp_theory.proofs.States.{own_values, strand_for, home, IsStrandOf, for_strand, for_derivation, IsEventOf, State}

-- The sender of the event at a node.
abbrev sender_or : {A : Type 0} → A ⊎ (A → ⊥) → Node → Node → Node
sender_or (inl e) x y = x
sender_or (inr n) x y = y

pub sender_in : List Entry → Node → Node
sender_in [] n = n
sender_in (e ∷ es) n = sender_or (same_node_or_not e.node n) e.sender (sender_in es n)

this_sender : {A : Type 0} (d : A ⊎ (A → ⊥)) (x y : Node) → A → sender_or d x y ≡ x
this_sender (inl e) x y a = refl
this_sender (inr n) x y a = absurd (n a)

other_sender : {A : Type 0} (d : A ⊎ (A → ⊥)) (x y : Node) → (A → ⊥) → sender_or d x y ≡ y
other_sender (inl e) x y n = absurd (n e)
other_sender (inr m) x y n = refl

pub sender_of : (k : Skeleton) (es : List Entry) → Chain k es → (e : Entry) → IsIn e es → sender_in es e.node ≡ e.sender
unfolding sender_in
sender_of k [] c e h = elim h [ ]
sender_of k (f ∷ es) c e h = of (head_or_behind h) (λ h'. sender_of k es c.1 e h')
  where
    of : (e ≡ f) ⊎ IsIn e es → (IsIn e es → sender_in es e.node ≡ e.sender) → sender_or (same_node_or_not f.node e.node) f.sender (sender_in es e.node) ≡ e.sender
    of (inl q) r = this_sender (same_node_or_not f.node e.node) f.sender (sender_in es e.node) (ap (λ (x : Entry). x.node) (sym q)) ∙ ap (λ (x : Entry). x.sender) (sym q)
    of (inr h') r = other_sender (same_node_or_not f.node e.node) f.sender (sender_in es e.node) (λ q. c.0.fresh e h' (sym q)) ∙ r h'

-- The events from the oldest to the newest.
abbrev pub oldest_first : List Entry → List Entry
oldest_first [] = []
oldest_first (e ∷ es) = oldest_first es ++ e ∷ []

listed_oldest : (es : List Entry) {e : Entry} → IsIn e es → IsIn e (oldest_first es)
listed_oldest [] h = elim h [ ]
listed_oldest (f ∷ es) {e} h = of (head_or_behind h) (λ h'. listed_oldest es h')
  where
    of : (e ≡ f) ⊎ IsIn e es → (IsIn e es → IsIn e (oldest_first es)) → IsIn e (oldest_first es ++ f ∷ [])
    of (inl q) r = in_with_last (oldest_first es) f (inl q)
    of (inr h') r = in_with_last (oldest_first es) f (inr (r h'))

oldest_listed : (es : List Entry) (i : ℕ) {e : Entry} → item_at (oldest_first es) i ≡ Some e → IsIn e es
oldest_listed [] i h = absurd (cc)
oldest_listed (f ∷ es) i {e} h = of (item_of_push (oldest_first es) f i _ h) (λ h'. oldest_listed es i h')
  where
    of : (item_at (oldest_first es) i ≡ Some e) ⊎ ((i ≡ length (oldest_first es)) × (f ≡ e)) → (item_at (oldest_first es) i ≡ Some e → IsIn e es) → IsIn e (f ∷ es)
    of (inl h') r = there (r h')
    of (inr q) r = at_head (sym q.1)

-- A node has one place.
one_place : (k : Skeleton) (es : List Entry) → Chain k es → (i j : ℕ) {e f : Entry} → item_at (oldest_first es) i ≡ Some e → item_at (oldest_first es) j ≡ Some f → e.node ≡ f.node → i ≡ j
one_place k [] c i j p q same = absurd (cc)
one_place k (x ∷ es) c i j {e} {f} p q same = of (item_of_push (oldest_first es) x i _ p) (item_of_push (oldest_first es) x j _ q) (λ p' q'. one_place k es c.1 i j p' q' same)
  where
    of : (item_at (oldest_first es) i ≡ Some e) ⊎ ((i ≡ length (oldest_first es)) × (x ≡ e)) → (item_at (oldest_first es) j ≡ Some f) ⊎ ((j ≡ length (oldest_first es)) × (x ≡ f)) →
        (item_at (oldest_first es) i ≡ Some e → item_at (oldest_first es) j ≡ Some f → i ≡ j) → i ≡ j
    of (inl p') (inl q') r = r p' q'
    of (inr p') (inr q') r = p'.0 ∙ sym q'.0
    of (inl p') (inr q') r = absurd (c.0.fresh e (oldest_listed es i p') (same ∙ ap (λ (y : Entry). y.node) (sym q'.1)))
    of (inr p') (inl q') r = absurd (c.0.fresh f (oldest_listed es j q') (sym same ∙ ap (λ (y : Entry). y.node) (sym p'.1)))

-- What an event comes after has an earlier place.
abbrev EarlierPlace : List Entry → ℕ → Node → Type 0
EarlierPlace es j x = (i : ℕ) × (e : Entry) × (i < j) × (item_at (oldest_first es) i ≡ Some e) × (e.node ≡ x)

earlier_place : (k : Skeleton) (es : List Entry) → Chain k es → (j : ℕ) (f : Entry) → item_at (oldest_first es) j ≡ Some f → (x : Node) → IsAfter f x → EarlierPlace es j x
earlier_place k [] c j f h x a = absurd (cc)
earlier_place k (y ∷ es) c j f h x a = of (item_of_push (oldest_first es) y j _ h) (λ h'. earlier_place k es c.1 j f h' x a)
  where
    of : (item_at (oldest_first es) j ≡ Some f) ⊎ ((j ≡ length (oldest_first es)) × (y ≡ f)) → (item_at (oldest_first es) j ≡ Some f → EarlierPlace es j x) → EarlierPlace (y ∷ es) j x
    of (inl h') r = let p = r h' in (p.0, p.1, p.2, item_still (oldest_first es) (y ∷ []) p.0 _ p.3, p.4)
    of (inr q) r =
        let p = came_for k y es c.0.came (subst (λ z. IsAfter z x) (sym q.1) a) in
        let place = place_of (listed_oldest es p.listed) in
        let below : place.0 < length (oldest_first es) = item_below (oldest_first es) place.0 p.entry place.1 in
        (place.0, p.entry, subst (λ n. place.0 < n) (sym q.0) below, item_still (oldest_first es) (y ∷ []) place.0 _ place.1, p.same)

event_of : (strands : List Strand) {n : Node} {e : Event Message} → IsEventOf strands n e → event_at strands n ≡ Some e
event_of strands {n} {e} h = subst (λ o. item_at (trace_or_none o) n.index ≡ Some e) (sym h.listed) h.event

on_strand : (o : Option Strand) (i : ℕ) (e : Event Message) → item_at (trace_or_none o) i ≡ Some e → (x : Strand) × (o ≡ Some x) × (item_at (trace_of x) i ≡ Some e)
on_strand None i e h = absurd (cc)
on_strand (Some x) i e h = (x, refl, h)

module _ (k : Skeleton) (ns : List Node) (all : (n : Node) → IsNodeOf k.strands n → IsIn n ns) (st : State k ns) where
  abbrev pub the_bundle : Bundle
  the_bundle = record {
    strands = st.strands;
    sender = sender_in st.entries;
    order = map (λ (e : Entry). e.node) (oldest_first st.entries);
  }

  -- each event has happened
  pub each_happened : (n : Node) (e : Event Message) → event_at st.strands n ≡ Some e → HasHappened st.entries n
  each_happened n e h = let r = on_strand (item_at st.strands n.strand) n.index e h in of r.0 r.1 r.2 (st.kinds n.strand r.0 r.1)
    where
      home_taken : (ss : SkeletonStrand) → item_at k.strands n.strand ≡ Some ss → item_at (trace_of (strand_for ss)) n.index ≡ Some e → IsIn (home ss n) ns
      home_taken (instance role height terms) on at =
          let es = subst (λ es. item_at es n.index ≡ Some e) (trace_after own_values (as_substitution terms) (prefix_of role height)) at in
          let r = item_of_map (event_map (value_of own_values)) (skeleton_trace (instance role height terms)) n.index _ es in
          all n (r.0, subst (λ o. item_at (skeleton_trace_or_none o) n.index ≡ Some r.0) (sym on) r.1)
      home_taken (listener t) on at = all (node_at n.strand 0) (recv t, subst (λ o. item_at (skeleton_trace_or_none o) 0 ≡ Some (recv t)) (sym on) refl)

      of : (x : Strand) → item_at st.strands n.strand ≡ Some x → item_at (trace_of x) n.index ≡ Some e → IsStrandOf k n.strand x → HasHappened st.entries n
      of x on at (for_strand {ss = ss} own q) =
          let at' = subst (λ y. item_at (trace_of y) n.index ≡ Some e) (sym q) at in
          st.done n ss e own at' (home_taken ss own at')
      of x on at (for_derivation none q allowed) = st.whole n.strand n.index x e none on at

  -- the event of what has happened
  pub event_here : (n : Node) (e : Event Message) → event_at st.strands n ≡ Some e → (h : HasHappened st.entries n) → h.entry.event ≡ e
  event_here n e ev h =
      let a : event_at st.strands h.entry.node ≡ Some h.entry.event = event_of st.strands (st.events h.entry h.listed) in
      let b : event_at st.strands n ≡ Some h.entry.event = subst (λ x. event_at st.strands x ≡ Some h.entry.event) h.same a in
      cc

  pub is_after : {x y : Node} → BundleStep the_bundle x y → (f : Entry) → IsIn f st.entries → f.node ≡ y → IsAfter f x
  is_after (along_strand ev) f h q = after_previous q
  is_after (along_link {n = n} {m = m} ev) f h q =
      let e = event_here n (recv m) ev (record { entry = f; listed = h; same = q }) in
      subst (IsAfter f) (sym (sender_of k st.entries st.chain f h) ∙ ap (sender_in st.entries) q) (after_sender e)

  pub bundle_step : {x y : Node} → EntryStep st.entries x y → BundleStep the_bundle x y
  bundle_step (entry_step {e = e} h (after_previous {s = s} {i = i} q)) =
      let ev = event_of st.strands (st.events e h) in
      subst (BundleStep the_bundle (node_at s i)) (sym q) (along_strand (subst (λ x. event_at st.strands x ≡ Some e.event) q ev))
  bundle_step (entry_step {e = e} h (after_sender {m = m} q)) =
      let ev = event_of st.strands (st.events e h) in
      subst (λ x. BundleStep the_bundle x e.node) (sender_of k st.entries st.chain e h) (along_link {m = m} (ev ∙ ap Some q))

  pub precedes : {x y : Node} → Leads st.entries x y → Precedes the_bundle x y
  precedes (one_step s) = one_step (bundle_step s)
  precedes (more_steps s p) = more_steps (bundle_step s) (precedes p)

  -- What precedes an event happened for a node that isn't behind that event's.
  pub happened_before : {x y : Node} → Precedes the_bundle x y → (f : Entry) → IsIn f st.entries → f.node ≡ y → HappenedFor k st.entries x f.label
  happened_before (one_step s) f h q = came_for k f st.entries (came_after k st.entries st.chain h) (is_after s f h q)
  happened_before (more_steps s p) f h q =
      let r = happened_before p f h q in
      let t = came_for k r.entry st.entries (came_after k st.entries st.chain r.listed) (is_after s r.entry r.listed r.same) in
      record { entry = t.entry; listed = t.listed; same = t.same; before = before_both t.before r.before }

  listing : IsListing st.strands the_bundle.order
  listing = record {
    each = λ n e h.
        let r = each_happened n e h in
        let p = place_of (listed_oldest st.entries r.listed) in
        let q = map_of_item (λ (x : Entry). x.node) (oldest_first st.entries) p.0 _ p.1 in
        at_place the_bundle.order p.0 n (q ∙ ap Some r.same);
    only = λ n h.
        let p = place_of h in
        let r = item_of_map (λ (x : Entry). x.node) (oldest_first st.entries) p.0 _ p.1 in
        let ev = event_of st.strands (st.events r.0 (oldest_listed st.entries p.0 r.1)) in
        (r.0.event, subst (λ x. event_at st.strands x ≡ Some r.0.event) r.2 ev);
    once = λ i j n p q.
        let a = item_of_map (λ (x : Entry). x.node) (oldest_first st.entries) i _ p in
        let b = item_of_map (λ (x : Entry). x.node) (oldest_first st.entries) j _ q in
        one_place k st.entries st.chain i j a.1 b.1 (a.2 ∙ sym b.2);
  }

  rises : (x y : Node) (i j : ℕ) → BundleStep the_bundle x y → item_at the_bundle.order i ≡ Some x → item_at the_bundle.order j ≡ Some y → i < j
  rises x y i j s p q =
      let a = item_of_map (λ (z : Entry). z.node) (oldest_first st.entries) i _ p in
      let b = item_of_map (λ (z : Entry). z.node) (oldest_first st.entries) j _ q in
      let after = is_after s b.0 (oldest_listed st.entries j b.1) b.2 in
      let r = earlier_place k st.entries st.chain j b.0 b.1 x after in
      let same : i ≡ r.0 = one_place k st.entries st.chain i r.0 a.1 r.3 (a.2 ∙ sym r.4) in
      subst (λ n. n < j) (sym same) r.2

  linked : (n : Node) (m : Message) → event_at st.strands n ≡ Some (recv m) → event_at st.strands (sender_in st.entries n) ≡ Some (send m)
  linked n m ev =
      let h = each_happened n (recv m) ev in
      let e = event_here n (recv m) ev h in
      let r = (came_after k st.entries st.chain h.listed).received m e in
      let from : sender_in st.entries n ≡ h.entry.sender = ap (sender_in st.entries) (sym h.same) ∙ sender_of k st.entries st.chain h.entry h.listed in
      let sent = event_of st.strands (st.events r.entry r.listed) in
      subst (λ x. event_at st.strands x ≡ Some (send m)) (r.same ∙ sym from) (sent ∙ ap Some r.sends)

  pub is_bundle : (protocol : Protocol) → AreOfProtocol protocol st.strands → IsBundle protocol the_bundle
  is_bundle protocol of_protocol = record { of_protocol = of_protocol; linked = linked; listing = listing; rises = rises }
