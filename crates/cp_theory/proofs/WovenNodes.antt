-- Nodes that have to precede a reception are woven into what leads to it: their message is paired with the one to be
-- received, the pair is split, and the message is delivered from there.
use Rattle.std.proofs.Common.{◌≡◌, ℕ, zero, suc, List, [], ◌∷◌, Some, refl, sym, ap, ◌∙◌, subst, ◌⊎◌, inl, inr}
use Rattle.cp_lists.specs.Lists.{item_at, IsIn, here, there, one_step, more_steps}
use Rattle.cp_model.specs.Message.{Message, pair}
use Rattle.cp_model.specs.Term.{Term, value_of}
use Rattle.cp_model.specs.Strand.{pairing, splitting}
use Rattle.cp_model.specs.declared.strand.Event.TheVariants.{Send as send, Receive as recv}
use Rattle.cp_model.specs.Bundle.{node_at}
use Rattle.cp_model.specs.declared.node.Node.{Node}
use Rattle.cp_model.specs.Skeleton.{SkeletonStrand, instance, listener, term_event_at, Skeleton, along_strand_of, along_pair, Before, IsOrderPair}
use Rattle.cp_model.specs.declared.node.OrderPair.{OrderPair}
use Rattle.cp_model.specs.Standing.{image_on, image_of}
use Rattle.cp_lists.proofs.Reached.{steps_append}
use Rattle.cp_model.proofs.LawStandings.{strand_of_event, event_on}
use Rattle.cp_lists.proofs.Members.{head_or_behind}
use Rattle.cp_theory.proofs.SameNodes.{same_node, same_node_or_not}
use Rattle.cp_theory.proofs.Histories.{Entry, entry_at, after_previous, EntryStep, entry_step, Leads, AtOrLeads, HasHappened, SentFor, AreKept, leads_kept}
use Rattle.cp_theory.proofs.States.{own_values, own_standing, home, State}
use Rattle.cp_theory.proofs.Strands.{add, into, along}
use Rattle.cp_theory.proofs.Derivations.{Made, sent_own, sent_at, supply, none_received}

-- The image of a node of a strand.
pub image_at : (k : Skeleton) (n : Node) (s : SkeletonStrand) → item_at k.strands n.strand ≡ Some s → image_of k own_standing n ≡ home s n
image_at k n s on = ap (λ o. image_on o (node_at n.strand 0) n.index) on

-- A step to an event that has happened.
pub step_on : {es : List Entry} {s i : ℕ} → HasHappened es (node_at s (suc i)) → EntryStep es (node_at s i) (node_at s (suc i))
step_on {es} {s} {i} h = subst (EntryStep es (node_at s i)) h.same (entry_step h.listed (after_previous h.same))

then_leads : {es : List Entry} {x y z : Node} → AtOrLeads es x y → Leads es y z → Leads es x z
then_leads {es} {z = z} (inl e) p = subst (λ w. Leads es w z) (sym e) p
then_leads (inr q) p = steps_append q p

-- Of two events the second is the transmission.
second_of_two : {A : Type 0} (x y : A) (i : ℕ) {z : A} → item_at (recv x ∷ send y ∷ []) i ≡ Some (send z) → i ≡ 1
second_of_two x y zero e = absurd (cc)
second_of_two x y (suc zero) e = refl
second_of_two x y (suc (suc i)) e = absurd (cc)

-- A message that is sent at a node or behind it, on its strand.
pub record Behind (k : Skeleton) (es : List Entry) (x label : Node) : Type 0 where
  pub message : Message
  pub node : Node
  pub sent : SentFor k es message node label
  pub from : AtOrLeads es x node

module _ (k : Skeleton) (taken : List Node) (label : Node) (ready : (n : Node) → Before k n label → IsIn n taken) (st : State k taken) where
  -- of a listener, the last event of its strand
  behind_listener : (s : ℕ) (t : Term) → item_at k.strands s ≡ Some (listener t) → Before k (node_at s 0) label → Behind k st.entries (node_at s 0) label
  behind_listener s t on before =
      let v = value_of own_values t in
      let taken0 = ready (node_at s 0) before in
      let second = st.done (node_at s 1) (listener t) (recv v) on refl taken0 in
      let third = st.done (node_at s 2) (listener t) (send (pair v v)) on refl taken0 in
      record {
        message = pair v v;
        node = node_at s 2;
        sent = sent_own k taken label st (node_at s 2) (listener t) (pair v v) on refl taken0 (inr before);
        from = inr (more_steps (step_on second) (one_step (step_on third)));
      }

  behind_on : (x : Node) (s : SkeletonStrand) (t : Term) → item_at k.strands x.strand ≡ Some s → term_event_at k.strands x ≡ Some (send t) → Before k x label → Behind k st.entries (home s x) label
  behind_on x (instance role height terms) t on at before = record {
    message = value_of own_values t;
    node = x;
    sent = sent_at k taken label st x t (record { role = role; height = height; terms = terms; on_instance = on }) at (ready x before) before;
    from = inl refl;
  }
  behind_on x (listener u) t on at before =
      let e = second_of_two u u x.index (event_on k x (listener u) (send t) on at) in
      let q : x ≡ node_at x.strand 1 = same_node refl e in
      let at1 = subst (λ (y : Node). term_event_at k.strands y ≡ Some (send t)) q at in
      behind_listener x.strand u on (more_steps (along_strand_of at1) (subst (λ y. Before k y label) q before))

  -- of the earlier node of a pair
  pub behind : (p : OrderPair) → IsOrderPair k p → IsIn p k.pairs → p.later ≡ label → Behind k st.entries (image_of k own_standing p.earlier) label
  behind p is h q =
      let r = strand_of_event k.strands p.earlier (send is.sent) is.transmission in
      subst (λ x. Behind k st.entries x label) (sym (image_at k p.earlier r.0 r.1))
      (behind_on p.earlier r.0 is.sent r.1 is.transmission (subst (Before k p.earlier) q (one_step (along_pair h))))

-- A message that is sent, and to which the earlier nodes lead of those pairs of a list that end at the label.
pub record Woven (k : Skeleton) (taken : List Node) (st : State k taken) (label : Node) (m : Message) (ps : List OrderPair) : Type 0 where
  pub made : Made k taken st label m
  pub leads : (p : OrderPair) → IsIn p ps → p.later ≡ label → Leads made.state.entries (image_of k own_standing p.earlier) made.node

module _ (k : Skeleton) (taken : List Node) (label : Node) where
  -- Weaving one node in.
  pub weave_one : (st : State k taken) (m : Message) (x : Made k taken st label m) (y : Node) → Behind k x.state.entries y label →
      (z : Made k taken st label m) × AreKept x.state.entries z.state.entries × Leads z.state.entries x.node z.node × Leads z.state.entries y z.node
  weave_one st m x y b =
      let u = b.message in
      let a = add k taken x.state label (pairing u m) (recv u) b.node (recv m) x.node (pair u m) tt refl (supply b.sent) (supply x.sent) in
      let paired : SentFor k a.state.entries (pair u m) (node_at a.number 2) label =
      record { entry = entry_at a.number 2 (send (pair u m)) label label; listed = a.third; same = refl; sends = refl; before = inl refl } in
      let c = add k taken a.state label (splitting u m) (recv (pair u m)) (node_at a.number 2) (send u) label m tt refl (supply paired) none_received in
      let out : Leads c.state.entries (node_at a.number 2) (node_at c.number 2) = steps_append (into c.first) (steps_append (along c.second) (along c.third)) in
      let last : Leads c.state.entries (node_at a.number 1) (node_at c.number 2) = steps_append (leads_kept c.kept (along a.third)) out in (
        record {
          state = c.state;
          kept = λ e h. c.kept e (a.kept e (x.kept e h));
          node = node_at c.number 2;
          sent = record { entry = entry_at c.number 2 (send m) label label; listed = c.third; same = refl; sends = refl; before = inl refl };
        },
        (λ e h. c.kept e (a.kept e h)),
        steps_append (leads_kept c.kept (into a.second)) last,
        steps_append (leads_kept c.kept (then_leads (kept_from (λ e h. a.kept e h) b.from) (into a.first))) (steps_append (leads_kept c.kept (along a.second)) last),
      )
    where
      kept_from : {es fs : List Entry} → AreKept es fs → {v w : Node} → AtOrLeads es v w → AtOrLeads fs v w
      kept_from kept (inl e) = inl e
      kept_from kept (inr p) = inr (leads_kept kept p)

  pub weave : (ready : (n : Node) → Before k n label → IsIn n taken) → ((p : OrderPair) → IsIn p k.pairs → IsOrderPair k p) →
      (st : State k taken) (m : Message) → Made k taken st label m → (ps : List OrderPair) → ((p : OrderPair) → IsIn p ps → IsIn p k.pairs) → Woven k taken st label m ps
  weave ready are st m x [] all = record { made = x; leads = λ p h. elim h [ ] }
  weave ready are st m x (p ∷ ps) all = of (same_node_or_not p.later label) (weave ready are st m x ps (λ q h. all q (there h)))
    where
      of : (p.later ≡ label) ⊎ (p.later ≡ label → ⊥) → Woven k taken st label m ps → Woven k taken st label m (p ∷ ps)
      of (inr n) w = record { made = w.made; leads = λ q h e. older q (head_or_behind h) e }
        where
          older : (q : OrderPair) → (q ≡ p) ⊎ IsIn q ps → q.later ≡ label → Leads w.made.state.entries (image_of k own_standing q.earlier) w.made.node
          older q (inl same) e = absurd (n (ap (λ (o : OrderPair). o.later) (sym same) ∙ e))
          older q (inr h) e = w.leads q h e
      of (inl here') w = record { made = one.0; leads = λ q h e. each q (head_or_behind h) e }
        where
          one : (z : Made k taken st label m) × AreKept w.made.state.entries z.state.entries × Leads z.state.entries w.made.node z.node × Leads z.state.entries (image_of k own_standing p.earlier) z.node
          one = weave_one st m w.made (image_of k own_standing p.earlier) (behind k taken label ready w.made.state p (are p (all p here)) (all p here) here')

          each : (q : OrderPair) → (q ≡ p) ⊎ IsIn q ps → q.later ≡ label → Leads one.0.state.entries (image_of k own_standing q.earlier) one.0.node
          each q (inl same) e = subst (λ (o : OrderPair). Leads one.0.state.entries (image_of k own_standing o.earlier) one.0.node) (sym same) one.3
          each q (inr h) e = steps_append (leads_kept one.1 (w.leads q h e)) one.2
