-- Going back from an event whose message has a decidable property to a transmission whose message has it, while no earlier
-- event of its strand does.
use Rattle.std.proofs.Common.{◌≡◌, ℕ, zero, suc, ◌<◌, Option, Some, None, refl, sym, ◌∙◌, subst, ◌⊎◌, inl, inr, arith}
use Rattle.cp_lists.specs.Lists.{item_at, one_step}
use Rattle.cp_model.specs.Message.{Message}
use Rattle.cp_model.specs.Strand.{payload, Protocol}
use Rattle.cp_model.specs.declared.strand.Event.{Event}
use Rattle.cp_model.specs.declared.strand.Event.TheVariants.{Send as send, Receive as recv}
use Rattle.cp_model.specs.Bundle.{node_at, event_at, Bundle, along_link, Precedes, IsBundle}
use Rattle.cp_model.specs.declared.node.Node.{Node}
use Rattle.cp_model.proofs.LawStandings.{bundle_climb}
use Rattle.cp_lists.proofs.Items.{place_of}
use Rattle.cp_model.proofs.LawOrigins.{path_rises, AtOrBefore}
use Rattle.cp_lists.proofs.Reached.{steps_append}
use Rattle.cp_lists.proofs.Least.{NoneBelow, LeastBelow, least_or_none}

-- There is an event, and its message has the property.
abbrev HasEvent : (Message → Type 0) → Option (Event Message) → Type 0
HasEvent P o = (e : Event Message) × (o ≡ Some e) × P (payload e)

has_event_some : (P : Message → Type 0) (e : Event Message) → Dec (P (payload e)) → Dec (HasEvent P (Some e))
has_event_some P e (yes p) = yes (e, refl, p)
has_event_some P e (no n) = no (λ r. n (let whole : Some e ≡ Some r.0 = r.1 in let same : r.0 ≡ e = cc in subst (λ (f : Event Message). P (payload f)) same r.2))

dec_has_event : (P : Message → Type 0) → ((m : Message) → Dec (P m)) → (o : Option (Event Message)) → Dec (HasEvent P o)
dec_has_event P d None = no (λ r. let e : None ≡ Some r.0 = r.1 in absurd (cc))
dec_has_event P d (Some e) = has_event_some P e (d (payload e))

-- A transmission whose message has the property, while none of an earlier event of its strand does.
pub record IsSource (b : Bundle) (P : Message → Type 0) (x : Node) : Type 0 where
  pub sent : Message
  pub transmission : event_at b.strands x ≡ Some (send sent)
  pub holds : P sent
  pub first : (k : ℕ) (e : Event Message) → k < x.index → event_at b.strands (node_at x.strand k) ≡ Some e → P (payload e) → ⊥

abbrev pub HasSource : Bundle → (Message → Type 0) → Node → Type 0
HasSource b P n = (x : Node) × IsSource b P x × AtOrBefore b x n

source_before : (b : Bundle) (P : Message → Type 0) (x n : Node) → Precedes b x n → HasSource b P x → HasSource b P n
source_before b P x n p (y, source, inl e) = (y, source, inr (subst (λ w. Precedes b w n) (sym e) p))
source_before b P x n p (y, source, inr q) = (y, source, inr (steps_append q p))

-- From an event before which none of its strand has the property.
from_first : (protocol : Protocol) (b : Bundle) → IsBundle protocol b → (P : Message → Type 0) (n : Node) (e : Event Message) → event_at b.strands n ≡ Some e → P (payload e) →
    ((k : ℕ) → k < n.index → HasEvent P (event_at b.strands (node_at n.strand k)) → ⊥) →
    ((x : Node) (f : Event Message) → Precedes b x n → event_at b.strands x ≡ Some f → P (payload f) → HasSource b P n) → HasSource b P n
from_first protocol b is P n (send t) ev p none back = (n, record { sent = t; transmission = ev; holds = p; first = λ k e l at q. none k l (e, at, q) }, inl refl)
from_first protocol b is P n (recv t) ev p none back = back (b.sender n) (send t) (one_step (along_link ev)) (is.linked n t ev) p

from_scan : (protocol : Protocol) (b : Bundle) → IsBundle protocol b → (P : Message → Type 0) (n : Node) (e : Event Message) → event_at b.strands n ≡ Some e → P (payload e) →
    LeastBelow (λ k. HasEvent P (event_at b.strands (node_at n.strand k))) n.index ⊎ NoneBelow (λ k. HasEvent P (event_at b.strands (node_at n.strand k))) n.index →
    ((x : Node) (f : Event Message) → Precedes b x n → event_at b.strands x ≡ Some f → P (payload f) → HasSource b P n) → HasSource b P n
from_scan protocol b is P n e ev p (inl r) back = back (node_at n.strand r.0) r.2.0 (bundle_climb b n.strand r.0 n.index e ev r.1) r.2.1 r.2.2
from_scan protocol b is P n e ev p (inr none) back = from_first protocol b is P n e ev p none back

source_within : (protocol : Protocol) (b : Bundle) → IsBundle protocol b → (P : Message → Type 0) → ((m : Message) → Dec (P m)) → (fuel : ℕ) (n : Node) (j : ℕ) (e : Event Message) → j < fuel → item_at b.order j ≡ Some n →
    event_at b.strands n ≡ Some e → P (payload e) → HasSource b P n
source_within protocol b is P d zero n j e l at ev p = absurd (omega arith)
source_within protocol b is P d (suc fuel) n j e l at ev p =
    from_scan protocol b is P n e ev p (least_or_none (λ k. HasEvent P (event_at b.strands (node_at n.strand k))) (λ k. dec_has_event P d (event_at b.strands (node_at n.strand k))) n.index)
    (λ x f before there q.
    let place = place_of (is.listing.each x f there) in
    let less : place.0 < j = path_rises protocol b is before place.0 j place.1 at in
    let l' : j < suc fuel = l in
    source_before b P x n before (source_within protocol b is P d fuel x place.0 f (omega arith) place.1 there q))

pub source_of : (protocol : Protocol) (b : Bundle) → IsBundle protocol b → (P : Message → Type 0) → ((m : Message) → Dec (P m)) → (n : Node) (e : Event Message) → event_at b.strands n ≡ Some e → P (payload e) → HasSource b P n
source_of protocol b is P d n e ev p =
    let place = place_of (is.listing.each n e ev) in
    source_within protocol b is P d (suc place.0) n place.0 e (omega arith) place.1 ev p

-- At a reception the source is an earlier node.
not_reception : (b : Bundle) (P : Message → Type 0) (x n : Node) (m : Message) → IsSource b P x → event_at b.strands n ≡ Some (recv m) → AtOrBefore b x n → Precedes b x n
not_reception b P x n m source ev (inr p) = p
not_reception b P x n m source ev (inl e) =
    let sent : event_at b.strands n ≡ Some (send source.sent) = subst (λ (y : Node). event_at b.strands y ≡ Some (send source.sent)) e source.transmission in
    let both : Some (send source.sent) ≡ Some (recv m) = sym sent ∙ ev in
    absurd (cc)

pub source_before_reception : (protocol : Protocol) (b : Bundle) → IsBundle protocol b → (P : Message → Type 0) → ((m : Message) → Dec (P m)) → (n : Node) (m : Message) → event_at b.strands n ≡ Some (recv m) → P m →
    (x : Node) × IsSource b P x × Precedes b x n
source_before_reception protocol b is P d n m ev p =
    let r = source_of protocol b is P d n (recv m) ev p in
    (r.0, r.1, not_reception b P r.0 n m r.1 ev r.2)
