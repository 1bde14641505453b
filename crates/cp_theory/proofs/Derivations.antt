-- What is derivable at a node of a skeleton can be sent for it.
use Rattle.std.proofs.Common.{◌≡◌, ℕ, Bool, true, false, List, Some, refl, sym, ap, ◌∙◌, subst, inl, inr}
use Rattle.cp_lists.specs.Lists.{item_at, IsIn}
use Rattle.cp_model.specs.Message.{Key, inverse, Message, tag, atom, pair, enc}
use Rattle.cp_model.specs.Term.{KeyTerm, symmetric_term, asymmetric_term, inverse_term, Term, value_of, value_of_atom, value_of_key, PairTerm, akey_variable, pubk_term}
use Rattle.cp_model.specs.Bindings.{Binding, as_substitution}
use Rattle.cp_model.specs.Strand.{event_map, Role, prefix_of, create_tag, create_atom, pairing, splitting, encryption, decryption, trace_of}
use Rattle.cp_model.specs.declared.strand.Event.{Event}
use Rattle.cp_model.specs.declared.strand.Event.TheVariants.{Send as send, Receive as recv}
use Rattle.cp_model.specs.KeyMessage.{key_message}
use Rattle.cp_model.specs.Bundle.{node_at}
use Rattle.cp_model.specs.declared.node.Node.{Node}
use Rattle.cp_model.specs.Skeleton.{SkeletonStrand, instance, skeleton_trace, term_event_at, Skeleton, Before}
use Rattle.cp_model.specs.Derivable.{IsOnInstance, DerivableAt, a_tag, an_atom, sent_before, paired, left_of, right_of, encrypted, decrypted}
use Rattle.cp_lists.proofs.Items.{map_of_item}
use Rattle.cp_model.proofs.LawEvents.{trace_after}
use Rattle.cp_model.proofs.LawStandings.{event_on}
use Rattle.cp_theory.proofs.Histories.{Entry, entry_at, AtOrBefore, SentFor, AreKept, sent_kept}
use Rattle.cp_theory.proofs.States.{own_values, strand_for, home, State}
use Rattle.cp_theory.proofs.Strands.{Created, Added, create, add}

-- The message is sent, for the label or a node before it.
pub record Made (k : Skeleton) (taken : List Node) (st : State k taken) (label : Node) (m : Message) : Type 0 where
  pub state : State k taken
  pub kept : AreKept st.entries state.entries
  pub node : Node
  pub sent : SentFor k state.entries m node label

value_of_opposite : (flag : Bool) (p : PairTerm) → value_of_key own_values (inverse_term (asymmetric_term flag p)) ≡ inverse (value_of_key own_values (asymmetric_term flag p))
value_of_opposite true (akey_variable n) = refl
value_of_opposite false (akey_variable n) = refl
value_of_opposite flag (pubk_term purpose n) = refl

pub value_of_inverse : (key : KeyTerm) → value_of_key own_values (inverse_term key) ≡ inverse (value_of_key own_values key)
value_of_inverse (symmetric_term s) = refl
value_of_inverse (asymmetric_term flag p) = value_of_opposite flag p

-- The events of a role strand's image have the values of its events.
pub image_event : (role : Role) (height : ℕ) (terms : List Binding) (i : ℕ) (e : Event Term) → item_at (skeleton_trace (instance role height terms)) i ≡ Some e →
    item_at (trace_of (strand_for (instance role height terms))) i ≡ Some (event_map (value_of own_values) e)
image_event role height terms i e h =
    subst (λ es. item_at es i ≡ Some (event_map (value_of own_values) e)) (sym (trace_after own_values (as_substitution terms) (prefix_of role height)))
    (map_of_item (event_map (value_of own_values)) (skeleton_trace (instance role height terms)) i _ h)

pub supply : {k : Skeleton} {es : List Entry} {m : Message} {d label : Node} → SentFor k es m d label → (x : Message) → recv m ≡ recv x → SentFor k es x d label
supply {k} {es} {m} {d} {label} h x e = let q : m ≡ x = cc in subst (λ y. SentFor k es y d label) q h

pub none_received : {k : Skeleton} {es : List Entry} {m : Message} {d label : Node} → (x : Message) → send m ≡ recv x → SentFor k es x d label
none_received x e = absurd (cc)

module _ (k : Skeleton) (taken : List Node) where
  -- An entry on a strand of the skeleton has the event of that strand.
  pub entry_event : (st : State k taken) (e : Entry) (s : SkeletonStrand) → IsIn e st.entries → item_at k.strands e.node.strand ≡ Some s → item_at (trace_of (strand_for s)) e.node.index ≡ Some e.event
  entry_event st e s h on =
      let r = st.events e h in
      let a : item_at st.strands e.node.strand ≡ Some r.on = r.listed in
      let b = st.own e.node.strand s on in
      let q : r.on ≡ strand_for s = cc in
      subst (λ x. item_at (trace_of x) e.node.index ≡ Some e.event) q r.event

  module _ (label : Node) where
    -- A transmission of a strand of the skeleton that is taken.
    pub sent_own : (st : State k taken) (n : Node) (s : SkeletonStrand) (m : Message) → item_at k.strands n.strand ≡ Some s → item_at (trace_of (strand_for s)) n.index ≡ Some (send m) →
        IsIn (home s n) taken → AtOrBefore k (home s n) label → SentFor k st.entries m n label
    sent_own st n s m on ev h before =
        let r = st.done n s (send m) on ev h in
        let there : item_at k.strands r.entry.node.strand ≡ Some s = subst (λ (x : Node). item_at k.strands x.strand ≡ Some s) (sym r.same) on in
        let ee = subst (λ (x : Node). item_at (trace_of (strand_for s)) x.index ≡ Some r.entry.event) r.same (entry_event st r.entry s r.listed there) in
        record {
          entry = r.entry;
          listed = r.listed;
          same = r.same;
          sends = cc;
          before = subst (λ x. AtOrBefore k x label) (sym ((st.homes r.entry s r.listed there).1 ∙ ap (home s) r.same)) before;
        }

    -- The message of a transmission of a role strand is sent by its image.
    pub sent_at : (st : State k taken) (n : Node) (t : Term) → IsOnInstance k n → term_event_at k.strands n ≡ Some (send t) → IsIn n taken → Before k n label → SentFor k st.entries (value_of own_values t) n label
    sent_at st n t on at h before =
        let s : SkeletonStrand = instance on.role on.height on.terms in
        sent_own st n s (value_of own_values t) on.on_instance (image_event on.role on.height on.terms n.index (send t) (event_on k n s (send t) on.on_instance at)) h (inr before)

    created : (st : State k taken) (m : Message) → Created k taken st label m → Made k taken st label m
    created st m c = record {
      state = c.state;
      kept = c.kept;
      node = node_at c.number 0;
      sent = record { entry = entry_at c.number 0 (send m) label label; listed = c.sent; same = refl; sends = refl; before = inl refl };
    }

    -- the last message, or the one before, of a strand added after others
    third_of : (st old : State k taken) → AreKept st.entries old.entries → {e f : Event Message} {d g : Node} {m : Message} → Added k taken old label e d f g m → Made k taken st label m
    third_of st old kept {m = m} a = record {
      state = a.state;
      kept = λ x h. a.kept x (kept x h);
      node = node_at a.number 2;
      sent = record { entry = entry_at a.number 2 (send m) label label; listed = a.third; same = refl; sends = refl; before = inl refl };
    }

    second_of : (st old : State k taken) → AreKept st.entries old.entries → {e : Event Message} {d g : Node} {m n : Message} → Added k taken old label e d (send n) g m → Made k taken st label n
    second_of st old kept {g = g} {n = n} a = record {
      state = a.state;
      kept = λ x h. a.kept x (kept x h);
      node = node_at a.number 1;
      sent = record { entry = entry_at a.number 1 (send n) g label; listed = a.second; same = refl; sends = refl; before = inl refl };
    }

    -- The strands for the last step of a derivation.
    pub pair_up : (st : State k taken) (a b : Message) (x : Made k taken st label a) → Made k taken x.state label b → Made k taken st label (pair a b)
    pair_up st a b x y =
        third_of st y.state (λ e h. y.kept e (x.kept e h))
        (add k taken y.state label (pairing a b) (recv a) x.node (recv b) y.node (pair a b) tt refl (supply (sent_kept y.kept x.sent)) (supply y.sent))

    pub split : (st : State k taken) (a b : Message) (x : Made k taken st label (pair a b)) → Added k taken x.state label (recv (pair a b)) x.node (send a) label b
    split st a b x = add k taken x.state label (splitting a b) (recv (pair a b)) x.node (send a) label b tt refl (supply x.sent) none_received

    encrypt : (st : State k taken) (a : Message) (key : Key) (x : Made k taken st label a) → Made k taken x.state label (key_message key) → Made k taken st label (enc a key)
    encrypt st a key x y =
        third_of st y.state (λ e h. y.kept e (x.kept e h))
        (add k taken y.state label (encryption a key) (recv (key_message key)) y.node (recv a) x.node (enc a key) tt refl (supply y.sent) (supply (sent_kept y.kept x.sent)))

    decrypt : (st : State k taken) (a : Message) (key : Key) (x : Made k taken st label (enc a key)) → Made k taken x.state label (key_message (inverse key)) → Made k taken st label a
    decrypt st a key x y =
        third_of st y.state (λ e h. y.kept e (x.kept e h))
        (add k taken y.state label (decryption a key) (recv (key_message (inverse key))) y.node (recv (enc a key)) x.node a tt refl (supply y.sent) (supply (sent_kept y.kept x.sent)))

    module _ (ready : (n : Node) → Before k n label → IsIn n taken) where
      pub derive : {t : Term} → DerivableAt k label t → (st : State k taken) → Made k taken st label (value_of own_values t)
      derive (a_tag {bytes = bytes}) st = created st (tag bytes) (create k taken st label (create_tag bytes) (tag bytes) tt refl)
      derive (an_atom {v = v} f) st =
          let a = value_of_atom own_values v in
          created st (atom a) (create k taken st label (create_atom a) (atom a) (v, refl, f) refl)
      derive (sent_before {m = m} {t = t} on at before) st = record { state = st; kept = λ e h. h; node = m; sent = sent_at st m t on at (ready m before) before }
      derive (paired {a = a} {b = b} p q) st = let x = derive p st in pair_up st (value_of own_values a) (value_of own_values b) x (derive q x.state)
      derive (left_of {a = a} {b = b} p) st = let x = derive p st in second_of st x.state x.kept (split st (value_of own_values a) (value_of own_values b) x)
      derive (right_of {a = a} {b = b} p) st = let x = derive p st in third_of st x.state x.kept (split st (value_of own_values a) (value_of own_values b) x)
      derive (encrypted {a = a} {key = key} p q) st = let x = derive p st in encrypt st (value_of own_values a) (value_of_key own_values key) x (derive q x.state)
      derive (decrypted {a = a} {key = key} p q) st =
          let x = derive p st in
          decrypt st (value_of own_values a) (value_of_key own_values key) x
          (subst (λ z. Made k taken x.state label (key_message z)) (value_of_inverse key) (derive q x.state))
