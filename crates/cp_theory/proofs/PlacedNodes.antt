-- The nodes of a skeleton are taken one after another, in order.
use Rattle.std.proofs.Common.{◌≡◌, ℕ, zero, suc, List, [], ◌∷◌, Some, map, refl, sym, ap, ◌∙◌, subst, ◌⊎◌, inl, inr, arith}
use Rattle.cp_lists.specs.Lists.{item_at, IsIn, here, there, one_step, more_steps}
use Rattle.cp_model.specs.Message.{Message, pair}
use Rattle.cp_model.specs.Term.{Term, value_of}
use Rattle.cp_model.specs.Bindings.{Binding}
use Rattle.cp_model.specs.Strand.{event_map, Role, Protocol, trace_of}
use Rattle.cp_model.specs.declared.strand.Event.{Event}
use Rattle.cp_model.specs.declared.strand.Event.TheVariants.{Send as send, Receive as recv}
use Rattle.cp_model.specs.Bundle.{node_at}
use Rattle.cp_model.specs.declared.node.Node.{Node}
use Rattle.cp_model.specs.Skeleton.{SkeletonStrand, instance, listener, skeleton_trace, term_event_at, IsNodeOf, Skeleton, OrderStep, along_strand_of, Before, IsOrderPair, IsSkeleton}
use Rattle.cp_model.specs.declared.node.OrderPair.{OrderPair}
use Rattle.cp_model.specs.Realisation.{AllDerivable}
use Rattle.cp_model.specs.Standing.{image_of}
use Rattle.cp_lists.proofs.Items.{item_before, map_of_item, item_of_map, each_of_three}
use Rattle.cp_lists.proofs.Reached.{steps_append}
use Rattle.cp_model.proofs.LawStandings.{strand_of_event, event_on}
use Rattle.cp_lists.proofs.Members.{head_or_behind, at_head, of_each}
use Rattle.cp_theory.proofs.SameNodes.{same_node}
use Rattle.cp_theory.proofs.Histories.{Entry, entry_at, Leads, HasHappened, HappenedFor, SentFor, Chain, AreKept, has_kept, leads_kept, may_happen_at, HasComeTo}
use Rattle.cp_theory.proofs.States.{own_values, own_standing, strand_for, home, for_strand, IsEventOf, State}
use Rattle.cp_theory.proofs.Strands.{three, three_chained, into}
use Rattle.cp_theory.proofs.Derivations.{supply, image_event, derive}
use Rattle.cp_theory.proofs.WovenNodes.{image_at, Woven, weave}
use Rattle.cp_theory.proofs.Sorted.{Sorted}

-- What is before a node that is taken is taken.
abbrev pub IsClosed : Skeleton → List Node → Type 0
IsClosed k taken = (x y : Node) → OrderStep k x y → IsIn y taken → IsIn x taken

ready_for : (k : Skeleton) (taken : List Node) (n : Node) → IsClosed k taken → ((x : Node) → OrderStep k x n → IsIn x taken) → {m : Node} → Before k m n → IsIn m taken
ready_for k taken n closed direct {m} (one_step s) = direct m s
ready_for k taken n closed direct {m} (more_steps {y = y} s p) = closed m y s (ready_for k taken n closed direct p)

module _ (k : Skeleton) (taken : List Node) (n : Node) (s : SkeletonStrand) (on : item_at k.strands n.strand ≡ Some s) where
  -- An event that a new node adds.
  record IsNewFor (e : Entry) : Type 0 where
    on_strand : e.node.strand ≡ n.strand
    at_home : home s e.node ≡ n
    labelled : e.label ≡ n
    event : item_at (trace_of (strand_for s)) e.node.index ≡ Some e.event

  same_strand : {t : SkeletonStrand} {a : ℕ} → a ≡ n.strand → item_at k.strands a ≡ Some t → t ≡ s
  same_strand {t} {a} q h = let r : item_at k.strands n.strand ≡ Some t = subst (λ b. item_at k.strands b ≡ Some t) q h in cc

  -- One node more.
  with_node : (st : State k taken) (es : List Entry) → AreKept st.entries es → Chain k es → ((e : Entry) → IsIn e es → IsIn e st.entries ⊎ IsNewFor e) →
      ((i : ℕ) (e : Event Message) → item_at (trace_of (strand_for s)) i ≡ Some e → home s (node_at n.strand i) ≡ n → HasHappened es (node_at n.strand i)) →
      ((p : OrderPair) → IsIn p k.pairs → p.later ≡ n → Leads es (image_of k own_standing p.earlier) (image_of k own_standing p.later)) → State k (n ∷ taken)
  with_node st es kept chain added has woven = record {
    strands = st.strands;
    entries = es;
    own = st.own;
    kinds = st.kinds;
    chain = chain;
    events = λ e h. event_of e (added e h);
    whole = λ a i x e none h at. has_kept kept (st.whole a i x e none h at);
    homes = λ e t h at. home_of e t at (added e h);
    done = λ m t e at ev h. done_of m t e at ev (head_or_behind h);
    woven = λ p h l. woven_of p h (head_or_behind l);
  }
    where
      event_of : (e : Entry) → IsIn e st.entries ⊎ IsNewFor e → IsEventOf st.strands e.node e.event
      event_of e (inl h) = st.events e h
      event_of e (inr h) = record { on = strand_for s; listed = subst (λ a. item_at st.strands a ≡ Some (strand_for s)) (sym h.on_strand) (st.own n.strand s on); event = h.event }

      home_of : (e : Entry) (t : SkeletonStrand) → item_at k.strands e.node.strand ≡ Some t → IsIn e st.entries ⊎ IsNewFor e → IsIn (home t e.node) (n ∷ taken) × (e.label ≡ home t e.node)
      home_of e t at (inl h) = let r = st.homes e t h at in (there r.0, r.1)
      home_of e t at (inr h) =
          let q : t ≡ s = same_strand h.on_strand at in
          subst (λ z. IsIn (home z e.node) (n ∷ taken) × (e.label ≡ home z e.node)) (sym q) (at_head h.at_home, h.labelled ∙ sym h.at_home)

      done_of : (m : Node) (t : SkeletonStrand) (e : Event Message) → item_at k.strands m.strand ≡ Some t → item_at (trace_of (strand_for t)) m.index ≡ Some e →
          (home t m ≡ n) ⊎ IsIn (home t m) taken → HasHappened es m
      done_of m t e at ev (inr h) = has_kept kept (st.done m t e at ev h)
      done_of m t e at ev (inl h) =
          let a : m.strand ≡ n.strand = sym (home_strand t m) ∙ ap (λ (x : Node). x.strand) h in
          let q : t ≡ s = same_strand a at in
          let r : m ≡ node_at n.strand m.index = same_node a refl in
          subst (HasHappened es) (sym r) (has m.index e (subst (λ z. item_at (trace_of (strand_for z)) m.index ≡ Some e) q ev) (subst (λ x. home s x ≡ n) r (subst (λ z. home z m ≡ n) q h)))
        where
          home_strand : (t : SkeletonStrand) (m : Node) → (home t m).strand ≡ m.strand
          home_strand (instance role height terms) m = refl
          home_strand (listener u) m = refl

      woven_of : (p : OrderPair) → IsIn p k.pairs → (p.later ≡ n) ⊎ IsIn p.later taken → Leads es (image_of k own_standing p.earlier) (image_of k own_standing p.later)
      woven_of p h (inl q) = woven p h q
      woven_of p h (inr l) = leads_kept kept (st.woven p h l)

-- No pair ends at a transmission.
no_pair_to : (k : Skeleton) (n : Node) (t : Term) → term_event_at k.strands n ≡ Some (send t) → (p : OrderPair) → IsOrderPair k p → p.later ≡ n → ⊥
no_pair_to k n t at p is q =
    let r : term_event_at k.strands n ≡ Some (recv is.received) = subst (λ x. term_event_at k.strands x ≡ Some (recv is.received)) q is.reception in
    cc

module _ (protocol : Protocol) (k : Skeleton) (is : IsSkeleton protocol k) (derivable : AllDerivable k) (taken : List Node) (closed : IsClosed k taken) (n : Node) (new : IsIn n taken → ⊥)
    (direct : (x : Node) → OrderStep k x n → IsIn x taken) where
  -- the message of a reception, after all that has to precede it
  ready_message : (st : State k taken) (t : Term) → term_event_at k.strands n ≡ Some (recv t) → Woven k taken st n (value_of own_values t) k.pairs
  ready_message st t at =
      let ready : (m : Node) → Before k m n → IsIn m taken = λ m p. ready_for k taken n closed direct p in
      weave k taken n ready is.order_pairs st (value_of own_values t) (derive k taken n ready (derivable n t at) st) k.pairs (λ p h. h)

  -- On a role strand one event is added.
  module _ (role : Role) (height : ℕ) (terms : List Binding) (on : item_at k.strands n.strand ≡ Some (instance role height terms)) (e : Event Term) (at : term_event_at k.strands n ≡ Some e) where
    abbrev the_event : Event Message
    the_event = event_map (value_of own_values) e

    there_event : item_at (trace_of (strand_for (instance role height terms))) n.index ≡ Some the_event
    there_event = image_event role height terms n.index e (event_on k n (instance role height terms) e on at)

    previous : (st : State k taken) (j : ℕ) → n.index ≡ suc j → HappenedFor k st.entries (node_at n.strand j) n
    previous st j q =
        let same : n ≡ node_at n.strand (suc j) = same_node refl q in
        let step : OrderStep k (node_at n.strand j) n = subst (OrderStep k (node_at n.strand j)) (sym same) (along_strand_of (subst (λ x. term_event_at k.strands x ≡ Some e) same at)) in
        let h = direct (node_at n.strand j) step in
        let ev = item_before (trace_of (strand_for (instance role height terms))) j n.index the_event there_event (omega arith) in
        let r = st.done (node_at n.strand j) (instance role height terms) ev.0 on ev.1 h in
        let there : item_at k.strands r.entry.node.strand ≡ Some (instance role height terms) = subst (λ (x : Node). item_at k.strands x.strand ≡ Some (instance role height terms)) (sym r.same) on in
        let label = (st.homes r.entry (instance role height terms) r.listed there).1 ∙ r.same in
        record { entry = r.entry; listed = r.listed; same = r.same; before = inr (subst (λ x. Before k x n) (sym label) (one_step step)) }

    place_event : (st : State k taken) (sender : Node) → ((m : Message) → the_event ≡ recv m → SentFor k st.entries m sender n) →
        ((p : OrderPair) → IsIn p k.pairs → p.later ≡ n → Leads (entry_at n.strand n.index the_event sender n ∷ st.entries) (image_of k own_standing p.earlier) (image_of k own_standing p.later)) →
        State k (n ∷ taken)
    place_event st sender received woven =
        let entry = entry_at n.strand n.index the_event sender n in
        with_node k taken n (instance role height terms) on st (entry ∷ st.entries) (λ x h. there h) (
          may_happen_at k st.entries n.strand n.index the_event sender n
              (λ x h q.
              let on_x : item_at k.strands x.node.strand ≡ Some (instance role height terms) = subst (λ (y : Node). item_at k.strands y.strand ≡ Some (instance role height terms)) (sym q) on in
              new (subst (λ y. IsIn y taken) q (st.homes x (instance role height terms) h on_x).0))
              (previous st) received,
          st.chain,
        )
        (λ x h. of_each (λ y. IsIn y st.entries ⊎ IsNewFor k taken n (instance role height terms) on y) (inr (record { on_strand = refl; at_home = refl; labelled = refl; event = there_event })) (λ h'. inl h') h)
        (λ i x ev q. record { entry = entry; listed = here; same = sym q })
        woven

  place_on_instance : (role : Role) (height : ℕ) (terms : List Binding) → item_at k.strands n.strand ≡ Some (instance role height terms) → (e : Event Term) → term_event_at k.strands n ≡ Some e → State k taken → State k (n ∷ taken)
  place_on_instance role height terms on (send t) at st =
      place_event role height terms on (send t) at st n (λ m q. absurd (cc)) (λ p h q. absurd (no_pair_to k n t at p (is.order_pairs p h) q))
  place_on_instance role height terms on (recv t) at st =
      let w = ready_message st t at in
      place_event role height terms on (recv t) at w.made.state w.made.node (supply w.made.sent)
      (λ p h q.
      let image : image_of k own_standing p.later ≡ n = ap (image_of k own_standing) q ∙ image_at k n (instance role height terms) on in
      subst (Leads _ (image_of k own_standing p.earlier)) (sym image) (steps_append (leads_kept (λ x i. there i) (w.leads p h q)) (into here)))

  -- Of a listener all events are added at its reception.
  module _ (t : Term) (on : item_at k.strands n.strand ≡ Some (listener t)) (at : term_event_at k.strands n ≡ Some (recv t)) (zeroth : n.index ≡ 0) (st : State k taken) where
    abbrev w : Woven k taken st n (value_of own_values t) k.pairs
    w = ready_message st t at

    abbrev old : State k taken
    old = w.made.state

    abbrev v : Message
    v = value_of own_values t

    abbrev es : List Entry
    es = three n.strand n (recv v) w.made.node (recv v) w.made.node (send (pair v v)) old.entries

    at_start : node_at n.strand 0 ≡ n
    at_start = same_node refl (sym zeroth)

    come : HasComeTo k old.entries n.strand 0 n
    come = record {
      below = λ x h q.
          let on_x : item_at k.strands x.node.strand ≡ Some (listener t) = subst (λ a. item_at k.strands a ≡ Some (listener t)) (sym q) on in
          let home_x : node_at x.node.strand 0 ≡ n = ap (λ a. node_at a 0) q ∙ at_start in
          absurd (new (subst (λ y. IsIn y taken) home_x (old.homes x (listener t) h on_x).0));
      last = λ j q. absurd (omega arith);
    }

    chained : Chain k es
    chained = three_chained k old.entries n.strand n (recv v) w.made.node (recv v) w.made.node (pair v v) old.chain come (supply w.made.sent) (supply w.made.sent)

    abbrev IsAdded : Entry → Type 0
    IsAdded y = IsIn y old.entries ⊎ IsNewFor k taken n (listener t) on y

    added : (x : Entry) → IsIn x es → IsAdded x
    added x h =
        of_each IsAdded (inr (record { on_strand = refl; at_home = at_start; labelled = refl; event = refl }))
        (of_each IsAdded (inr (record { on_strand = refl; at_home = at_start; labelled = refl; event = refl }))
        (of_each IsAdded (inr (record { on_strand = refl; at_home = at_start; labelled = refl; event = refl })) (λ h'. inl h'))) h

    has : (i : ℕ) (e : Event Message) → item_at (trace_of (strand_for (listener t))) i ≡ Some e → home (listener t) (node_at n.strand i) ≡ n → HasHappened es (node_at n.strand i)
    has i e q at_home = each_of_three i (λ j y. HasHappened es (node_at n.strand j)) q
        (record { entry = entry_at n.strand 0 (recv v) w.made.node n; listed = there (there here); same = refl })
        (record { entry = entry_at n.strand 1 (recv v) w.made.node n; listed = there here; same = refl })
        (record { entry = entry_at n.strand 2 (send (pair v v)) n n; listed = here; same = refl })

    woven : (p : OrderPair) → IsIn p k.pairs → p.later ≡ n → Leads es (image_of k own_standing p.earlier) (image_of k own_standing p.later)
    woven p h q =
        let image : image_of k own_standing p.later ≡ node_at n.strand 0 = ap (image_of k own_standing) q ∙ image_at k n (listener t) on in
        let last : Leads es w.made.node (node_at n.strand 0) = into (there (there here)) in
        subst (Leads es (image_of k own_standing p.earlier)) (sym image) (steps_append (leads_kept (λ x i. there (there (there i))) (w.leads p h q)) last)

    place_on_listener : State k (n ∷ taken)
    place_on_listener = with_node k taken n (listener t) on old es (λ x h. there (there (there h))) chained added has woven

  -- At its transmission nothing is left to add.
  place_listener_end : (t : Term) → item_at k.strands n.strand ≡ Some (listener t) → term_event_at k.strands n ≡ Some (send t) → n.index ≡ 1 → State k taken → State k (n ∷ taken)
  place_listener_end t on at first st =
      with_node k taken n (listener t) on st st.entries (λ x h. h) st.chain (λ x h. inl h)
      (λ i e q at_home. let z : 0 ≡ n.index = ap (λ (x : Node). x.index) at_home in absurd (omega arith))
      (λ p h q. absurd (no_pair_to k n t at p (is.order_pairs p h) q))

  place_listener : (t : Term) → item_at k.strands n.strand ≡ Some (listener t) → (e : Event Term) → term_event_at k.strands n ≡ Some e →
      (i : ℕ) → n.index ≡ i → item_at (skeleton_trace (listener t)) i ≡ Some e → State k taken → State k (n ∷ taken)
  place_listener t on e at zero q h st = let same : e ≡ recv t = cc in place_on_listener t on (at ∙ ap Some same) q st
  place_listener t on e at (suc zero) q h st = let same : e ≡ send t = cc in place_listener_end t on (at ∙ ap Some same) q st
  place_listener t on e at (suc (suc i)) q h st = absurd (cc)

  pub place : IsNodeOf k.strands n → State k taken → State k (n ∷ taken)
  place h st = let r = strand_of_event k.strands n h.0 h.1 in of r.0 r.1
    where
      of : (s : SkeletonStrand) → item_at k.strands n.strand ≡ Some s → State k (n ∷ taken)
      of (instance role height terms) on = place_on_instance role height terms on h.0 h.1 st
      of (listener t) on = place_listener t on h.0 h.1 n.index refl (event_on k n (listener t) h.0 on h.1) st

-- Before any node is taken nothing has happened.
start : (k : Skeleton) → State k []
start k = record {
  strands = map strand_for k.strands;
  entries = [];
  own = λ s x h. map_of_item strand_for k.strands s _ h;
  kinds = λ s x h. let r = item_of_map strand_for k.strands s _ h in for_strand r.1 r.2;
  chain = tt;
  events = λ e h. elim h [ ];
  whole = λ s i x e none h at.
      let r = item_of_map strand_for k.strands s _ h in
      let q : item_at k.strands s ≡ Some r.0 = r.1 in
      absurd (cc);
  homes = λ e s h at. elim h [ ];
  done = λ n s e at ev h. elim h [ ];
  woven = λ p h l. elim l [ ];
}

pub all_placed : (protocol : Protocol) (k : Skeleton) → IsSkeleton protocol k → AllDerivable k → (ns : List Node) → Sorted (OrderStep k) ns → IsClosed k ns → ((n : Node) → IsIn n ns → IsNodeOf k.strands n) → State k ns
all_placed protocol k is derivable [] sorted closed nodes = start k
all_placed protocol k is derivable (n ∷ ns) sorted closed nodes =
    place protocol k is derivable ns still n (λ h. (sorted.0 n h).1 refl) (λ x s. not_itself x s (head_or_behind (closed x n s here))) (nodes n here)
    (all_placed protocol k is derivable ns sorted.1 still (λ m h. nodes m (there h)))
  where
    behind : (x y : Node) → OrderStep k x y → IsIn y ns → (x ≡ n) ⊎ IsIn x ns → IsIn x ns
    behind x y s h (inl e) = absurd ((sorted.0 y h).0 (subst (λ z. OrderStep k z y) e s))
    behind x y s h (inr i) = i

    still : IsClosed k ns
    still x y s h = behind x y s h (head_or_behind (closed x y s (there h)))

    not_itself : (x : Node) → OrderStep k x n → (x ≡ n) ⊎ IsIn x ns → IsIn x ns
    not_itself x s (inl e) = absurd (is.no_cycle n (one_step (subst (λ z. OrderStep k z n) e s)))
    not_itself x s (inr i) = i
