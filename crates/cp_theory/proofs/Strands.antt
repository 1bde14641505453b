-- Strands of the penetrator, each added with all its events.
use Rattle.std.proofs.Common.{◌≡◌, ℕ, suc, List, [], ◌∷◌, length, Some, refl, sym, ap, subst, ◌⊎◌, inl, inr}
use Rattle.cp_lists.specs.Lists.{item_at, IsIn, here, there, one_step}
use Rattle.cp_model.specs.Message.{Message}
use Rattle.cp_model.specs.Strand.{Penetrator, penetrator_trace}
use Rattle.cp_model.specs.declared.strand.Event.{Event}
use Rattle.cp_model.specs.declared.strand.Event.TheVariants.{Send as send, Receive as recv}
use Rattle.cp_model.specs.Bundle.{node_at}
use Rattle.cp_model.specs.declared.node.Node.{Node}
use Rattle.cp_model.specs.Skeleton.{Skeleton}
use Rattle.cp_lists.proofs.Members.{of_each}
use Rattle.cp_lists.proofs.Items.{one_item, each_of_three}
use Rattle.cp_theory.proofs.Histories.{Entry, entry_at, after_previous, after_sender, entry_step, Leads, HasHappened, SentFor, Chain, AreKept, sent_kept, may_come_next, HasComeTo, has_come_next}
use Rattle.cp_theory.proofs.States.{State, IsAllowed, come_to_free, with_strand}

-- Three events of one strand in a history, and what follows.
abbrev pub three : ℕ → Node → Event Message → Node → Event Message → Node → Event Message → List Entry → List Entry
three s label e d f g h es = entry_at s 2 h label label ∷ entry_at s 1 f g label ∷ entry_at s 0 e d label ∷ es

pub three_chained : (k : Skeleton) (es : List Entry) (s : ℕ) (label : Node) (e : Event Message) (d : Node) (f : Event Message) (g : Node) (m : Message) →
    Chain k es → HasComeTo k es s 0 label → ((x : Message) → e ≡ recv x → SentFor k es x d label) → ((x : Message) → f ≡ recv x → SentFor k es x g label) →
    Chain k (three s label e d f g (send m) es)
three_chained k es s label e d f g m chain so first second =
    let es1 : List Entry = entry_at s 0 e d label ∷ es in
    let es2 : List Entry = entry_at s 1 f g label ∷ es1 in
    let so1 = has_come_next k es s 0 e d label so in
    let so2 = has_come_next k es1 s 1 f g label so1 in (
      may_come_next k es2 s 2 (send m) label label so2 (λ x q. absurd (cc)),
      (
        may_come_next k es1 s 1 f g label so1 (λ x q. sent_kept (λ y h. there h) (second x q)),
        (may_come_next k es s 0 e d label so first, chain),
      ),
    )

-- A message on a strand of one transmission.
pub record Created (k : Skeleton) (taken : List Node) (st : State k taken) (label : Node) (m : Message) : Type 0 where
  pub state : State k taken
  pub kept : AreKept st.entries state.entries
  pub number : ℕ
  pub sent : IsIn (entry_at number 0 (send m) label label) state.entries

-- A strand of three events, of which the last is a transmission.
pub record Added (k : Skeleton) (taken : List Node) (st : State k taken) (label : Node) (e : Event Message) (d : Node) (f : Event Message) (g : Node) (m : Message) : Type 0 where
  pub state : State k taken
  pub kept : AreKept st.entries state.entries
  pub number : ℕ
  pub first : IsIn (entry_at number 0 e d label) state.entries
  pub second : IsIn (entry_at number 1 f g label) state.entries
  pub third : IsIn (entry_at number 2 (send m) label label) state.entries

module _ (k : Skeleton) (taken : List Node) (st : State k taken) (label : Node) where
  abbrev IsNew : Penetrator → Entry → Type 0
  IsNew p e = IsIn e st.entries ⊎ ((e.node.strand ≡ length st.strands) × (item_at (penetrator_trace p) e.node.index ≡ Some e.event))

  pub create : (p : Penetrator) (m : Message) → IsAllowed k p → penetrator_trace p ≡ send m ∷ [] → Created k taken st label m
  create p m allowed trace =
      let s = length st.strands in
      let es : List Entry = entry_at s 0 (send m) label label ∷ st.entries in
      let new = with_strand k taken st p allowed es (λ e h. there h)
      (may_come_next k st.entries s 0 (send m) label label (come_to_free k taken st label) (λ x q. absurd (cc)), st.chain)
      (λ e h. of_each (IsNew p) (inr (refl, ap (λ t. item_at t 0) trace)) (λ h'. inl h') h)
      (λ i e q. one_item i (λ j f. HasHappened es (node_at s j)) (subst (λ t. item_at t i ≡ Some e) trace q) (record { entry = entry_at s 0 (send m) label label; listed = here; same = refl })) in
      record {
        state = new.0;
        kept = subst (AreKept st.entries) (sym new.1) (λ e h. there h);
        number = s;
        sent = subst (IsIn (entry_at s 0 (send m) label label)) (sym new.1) here;
      }

  added : (e : Event Message) (d : Node) (f : Event Message) (g : Node) (m : Message) (s : ℕ) (new : State k taken) → new.entries ≡ three s label e d f g (send m) st.entries → Added k taken st label e d f g m
  added e d f g m s new q = record {
    state = new;
    kept = subst (AreKept st.entries) (sym q) (λ x h. there (there (there h)));
    number = s;
    first = subst (IsIn (entry_at s 0 e d label)) (sym q) (there (there here));
    second = subst (IsIn (entry_at s 1 f g label)) (sym q) (there here);
    third = subst (IsIn (entry_at s 2 (send m) label label)) (sym q) here;
  }

  pub add : (p : Penetrator) (e : Event Message) (d : Node) (f : Event Message) (g : Node) (m : Message) → IsAllowed k p → penetrator_trace p ≡ e ∷ f ∷ send m ∷ [] →
      ((x : Message) → e ≡ recv x → SentFor k st.entries x d label) → ((x : Message) → f ≡ recv x → SentFor k st.entries x g label) → Added k taken st label e d f g m
  add p e d f g m allowed trace first second =
      let s = length st.strands in
      let es : List Entry = three s label e d f g (send m) st.entries in
      let new = with_strand k taken st p allowed es (λ x h. there (there (there h)))
      (three_chained k st.entries s label e d f g m st.chain (come_to_free k taken st label) first second)
      (λ x h. of_each (IsNew p) (inr (refl, ap (λ t. item_at t 2) trace))
      (of_each (IsNew p) (inr (refl, ap (λ t. item_at t 1) trace))
      (of_each (IsNew p) (inr (refl, ap (λ t. item_at t 0) trace)) (λ h'. inl h'))) h)
      (λ i x q. each_of_three i (λ j y. HasHappened es (node_at s j)) (subst (λ t. item_at t i ≡ Some x) trace q)
      (record { entry = entry_at s 0 e d label; listed = there (there here); same = refl })
      (record { entry = entry_at s 1 f g label; listed = there here; same = refl })
      (record { entry = entry_at s 2 (send m) label label; listed = here; same = refl })) in
      added e d f g m s new.0 new.1

-- Ways through three events of a strand.
pub into : {es : List Entry} {s i : ℕ} {x : Message} {d label : Node} → IsIn (entry_at s i (recv x) d label) es → Leads es d (node_at s i)
into h = one_step (entry_step h (after_sender refl))

pub along : {es : List Entry} {s i : ℕ} {e : Event Message} {d label : Node} → IsIn (entry_at s (suc i) e d label) es → Leads es (node_at s i) (node_at s (suc i))
along h = one_step (entry_step h (after_previous refl))
