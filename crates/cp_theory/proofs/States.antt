-- A bundle that is being made: its strands, and the history of those nodes of the skeleton that are taken.
use Rattle.std.proofs.Common.{◌∷◌, [], ◌++◌, le_refl, ◌≡◌, ℕ, List, length, Option, Some, None, refl, sym, subst, ◌⊎◌, inl, inr, arith}
use Rattle.cp_lists.specs.Lists.{item_at, IsIn}
use Rattle.cp_model.specs.Message.{Message}
use Rattle.cp_model.specs.Term.{AtomTerm, Assignment, value_of, value_of_atom, after, atoms_by}
use Rattle.cp_model.specs.Bindings.{as_substitution}
use Rattle.cp_model.specs.Strand.{Penetrator, create_atom, pairing, penetrator_trace, Strand, regular, penetrator, trace_of}
use Rattle.cp_model.specs.declared.strand.Event.{Event}
use Rattle.cp_model.specs.Bundle.{node_at}
use Rattle.cp_model.specs.declared.node.Node.{Node}
use Rattle.cp_model.specs.Skeleton.{SkeletonStrand, instance, listener, Skeleton}
use Rattle.cp_model.specs.declared.node.OrderPair.{OrderPair}
use Rattle.cp_model.specs.Derivable.{IsSecret}
use Rattle.cp_model.specs.Standing.{Standing, image_on, image_of}
use Rattle.cp_model.proofs.SingleBundle.{own_number}
use Rattle.cp_lists.proofs.Items.{item_last, item_still, item_of_push, item_past}
use Rattle.cp_theory.proofs.Histories.{Entry, Leads, HasHappened, Chain, AreKept, has_kept, leads_kept, HasComeTo}

-- Each variable has an atom of its own.
abbrev pub own_values : Assignment
own_values = atoms_by own_number

abbrev pub own_standing : Standing
own_standing = record { nodes = λ s. node_at s 0; values = own_values }

-- The strand of the bundle for a strand of the skeleton. A listener's pairs its message with itself.
abbrev pub strand_for : SkeletonStrand → Strand
strand_for (instance role height terms) = regular role height (after own_values (as_substitution terms))
strand_for (listener t) = penetrator (pairing (value_of own_values t) (value_of own_values t))

-- The node of the skeleton for which the event at a node of such a strand happens.
abbrev pub home : SkeletonStrand → Node → Node
home s n = image_on (Some s) (node_at n.strand 0) n.index

-- The penetrator makes no atom that is a value of the assumptions.
abbrev pub IsAllowed : Skeleton → Penetrator → Type 0
IsAllowed k (create_atom a) = (v : AtomTerm) × (value_of_atom own_values v ≡ a) × (IsSecret k v → ⊥)
IsAllowed k _ = Unit {0}

-- A strand is one for a strand of the skeleton, or one of the penetrator behind them.
pub data IsStrandOf (k : Skeleton) (s : ℕ) (x : Strand) : Type 0 where
  for_strand : {ss : SkeletonStrand} → item_at k.strands s ≡ Some ss → strand_for ss ≡ x → IsStrandOf k s x
  for_derivation : {p : Penetrator} → item_at k.strands s ≡ None → penetrator p ≡ x → IsAllowed k p → IsStrandOf k s x

-- The event at the node is that of a strand.
pub record IsEventOf (strands : List Strand) (n : Node) (e : Event Message) : Type 0 where
  pub on : Strand
  pub listed : item_at strands n.strand ≡ Some on
  pub event : item_at (trace_of on) n.index ≡ Some e

-- Each strand of the skeleton has its own (`own`), and all others are the penetrator's (`kinds`); what has happened is
-- a history (`chain`) of events of the strands (`events`). All events of the penetrator's strands have happened
-- (`whole`), and of the skeleton's strands those whose home is taken (`done`) and no others, each for its home
-- (`homes`). To each taken node leads, for each pair that ends there, the earlier one (`woven`).
pub record State (k : Skeleton) (taken : List Node) : Type 0 where
  pub strands : List Strand
  pub entries : List Entry
  pub own : (s : ℕ) (ss : SkeletonStrand) → item_at k.strands s ≡ Some ss → item_at strands s ≡ Some (strand_for ss)
  pub kinds : (s : ℕ) (x : Strand) → item_at strands s ≡ Some x → IsStrandOf k s x
  pub chain : Chain k entries
  pub events : (e : Entry) → IsIn e entries → IsEventOf strands e.node e.event
  pub whole : (s i : ℕ) (x : Strand) (e : Event Message) → item_at k.strands s ≡ None → item_at strands s ≡ Some x → item_at (trace_of x) i ≡ Some e → HasHappened entries (node_at s i)
  pub homes : (e : Entry) (ss : SkeletonStrand) → IsIn e entries → item_at k.strands e.node.strand ≡ Some ss → IsIn (home ss e.node) taken × (e.label ≡ home ss e.node)
  pub done : (n : Node) (ss : SkeletonStrand) (e : Event Message) → item_at k.strands n.strand ≡ Some ss → item_at (trace_of (strand_for ss)) n.index ≡ Some e → IsIn (home ss n) taken → HasHappened entries n
  pub woven : (p : OrderPair) → IsIn p k.pairs → IsIn p.later taken → Leads entries (image_of k own_standing p.earlier) (image_of k own_standing p.later)

event_still : (strands : List Strand) (x : Strand) {n : Node} {e : Event Message} → IsEventOf strands n e → IsEventOf (strands ++ x ∷ []) n e
event_still strands x {n} h = record { on = h.on; listed = item_still strands (x ∷ []) n.strand _ h.listed; event = h.event }

module _ (k : Skeleton) (taken : List Node) (st : State k taken) where
  -- no strand of the skeleton, and no event, is at the next free number
  no_own : (ss : SkeletonStrand) → item_at k.strands (length st.strands) ≡ Some ss → ⊥
  no_own ss h =
      let a = st.own (length st.strands) ss h in
      let b = item_past st.strands (length st.strands) (le_refl _) in
      cc

  free : (o : Option SkeletonStrand) → item_at k.strands (length st.strands) ≡ o → item_at k.strands (length st.strands) ≡ None
  free None e = e
  free (Some ss) e = absurd (no_own ss e)

  no_event : (e : Entry) → IsIn e st.entries → e.node.strand ≡ length st.strands → ⊥
  no_event e h q =
      let r = (st.events e h).listed in
      let a : item_at st.strands (length st.strands) ≡ Some (st.events e h).on = subst (λ n. item_at st.strands n ≡ Some (st.events e h).on) q r in
      let b = item_past st.strands (length st.strands) (le_refl _) in
      cc

  pub come_to_free : (label : Node) → HasComeTo k st.entries (length st.strands) 0 label
  come_to_free label = record {
    below = λ x h q. absurd (no_event x h q);
    last = λ j q. absurd (omega arith);
  }

  -- One strand of the penetrator more, with all its events.
  pub with_strand : (p : Penetrator) → IsAllowed k p → (es : List Entry) → AreKept st.entries es → Chain k es →
      ((e : Entry) → IsIn e es → IsIn e st.entries ⊎ ((e.node.strand ≡ length st.strands) × (item_at (penetrator_trace p) e.node.index ≡ Some e.event))) →
      ((i : ℕ) (e : Event Message) → item_at (penetrator_trace p) i ≡ Some e → HasHappened es (node_at (length st.strands) i)) → (new : State k taken) × (new.entries ≡ es)
  with_strand p allowed es kept chain added has = (
    record {
      strands = st.strands ++ penetrator p ∷ [];
      entries = es;
      own = λ s ss h. item_still st.strands (penetrator p ∷ []) s _ (st.own s ss h);
      kinds = λ s x h. kind s x (item_of_push st.strands (penetrator p) s _ h);
      chain = chain;
      events = λ e h. event_of e (added e h);
      whole = λ s i x e none h at. whole_of s i x e none at (item_of_push st.strands (penetrator p) s _ h);
      homes = λ e ss h at. home_of e ss at (added e h);
      done = λ n ss e at ev h. has_kept kept (st.done n ss e at ev h);
      woven = λ q h l. leads_kept kept (st.woven q h l);
    },
    refl,
  )
    where
      kind : (s : ℕ) (x : Strand) → (item_at st.strands s ≡ Some x) ⊎ ((s ≡ length st.strands) × (penetrator p ≡ x)) → IsStrandOf k s x
      kind s x (inl h) = st.kinds s x h
      kind s x (inr h) = for_derivation (subst (λ n. item_at k.strands n ≡ None) (sym h.0) (free (item_at k.strands (length st.strands)) refl)) h.1 allowed

      event_of : (e : Entry) → IsIn e st.entries ⊎ ((e.node.strand ≡ length st.strands) × (item_at (penetrator_trace p) e.node.index ≡ Some e.event)) → IsEventOf (st.strands ++ penetrator p ∷ []) e.node e.event
      event_of e (inl h) = event_still st.strands (penetrator p) (st.events e h)
      event_of e (inr h) = record {
        on = penetrator p;
        listed = subst (λ n. item_at (st.strands ++ penetrator p ∷ []) n ≡ Some (penetrator p)) (sym h.0) (item_last st.strands (penetrator p));
        event = h.1;
      }

      whole_of : (s i : ℕ) (x : Strand) (e : Event Message) → item_at k.strands s ≡ None → item_at (trace_of x) i ≡ Some e →
          (item_at st.strands s ≡ Some x) ⊎ ((s ≡ length st.strands) × (penetrator p ≡ x)) → HasHappened es (node_at s i)
      whole_of s i x e none at (inl h) = has_kept kept (st.whole s i x e none h at)
      whole_of s i x e none at (inr h) =
          subst (λ n. HasHappened es (node_at n i)) (sym h.0) (has i e (subst (λ y. item_at (trace_of y) i ≡ Some e) (sym h.1) at))

      home_of : (e : Entry) (ss : SkeletonStrand) → item_at k.strands e.node.strand ≡ Some ss →
          IsIn e st.entries ⊎ ((e.node.strand ≡ length st.strands) × (item_at (penetrator_trace p) e.node.index ≡ Some e.event)) → IsIn (home ss e.node) taken × (e.label ≡ home ss e.node)
      home_of e ss at (inl h) = st.homes e ss h at
      home_of e ss at (inr h) = absurd (no_own ss (subst (λ n. item_at k.strands n ≡ Some ss) h.0 at))
