-- Back along strands and links to an origin.
use Rattle.std.proofs.Common.{◌≡◌, ℕ, ◌+◌, ◌<◌, ◌≤◌, List, Some, None, map, length, refl, sym, ap, ◌∙◌, subst, ◌⊎◌, inl, inr, arith, eq-or-lt_of_le}
use Rattle.cp_lists.specs.Lists.{item_at, one_step, more_steps}
use Rattle.cp_model.specs.Message.{Message, IsCarriedBy}
use Rattle.cp_model.specs.Strand.{Event, send, recv, payload, Protocol}
use Rattle.cp_model.specs.Bundle.{node_at, event_at, OriginatesAt, Bundle, BundleStep, along_link, Precedes, IsBundle}
use Rattle.cp_model.specs.declared.node.Node.{Node}
use Rattle.cp_model.specs.RunView.{trace_view, items_or_none, link_in, if_reception, sender_in, StandsForBundle, row_view}
use Rattle.cp_model.specs.FirstCarriers.{CarriesAt, IsFirstOnStrand}
use Rattle.cp_model.specs.declared.bundle.Bundle as program
use Rattle.cp_model.specs.declared.strand.Strand as program_strand
use Rattle.cp_lists.proofs.Reached.{steps_append}
use Rattle.cp_lists.proofs.Items.{item_below, place_of}
use Rattle.cp_model.proofs.LawOrigins.{AtOrBefore, path_rises}
use Rattle.cp_model.proofs.LawStandings.{bundle_climb}
use Rattle.cp_model.proofs.RunLinks.{trace_there, same_event}

-- A node that carries the message, at or before n, so early in the numbering that with the steps that led to it there
-- are still fewer than nodes.
pub record Trail (p : Bundle) (m : Message) (n : Node) (steps : ℕ) (x : Node) : Type 0 where
  pub place : ℕ
  pub listed : item_at p.order place ≡ Some x
  pub few : place + steps < length p.order
  pub event : Event Message
  pub there : event_at p.strands x ≡ Some event
  pub carried : IsCarriedBy m (payload event)
  pub before : AtOrBefore p x n

-- The message originates at x, which is n or precedes it.
abbrev pub IsOrigin : Bundle → Message → Node → Node → Type 0
IsOrigin p m n x = OriginatesAt p.strands m x × AtOrBefore p x n

then_before : (p : Bundle) {x y z : Node} → AtOrBefore p x y → AtOrBefore p y z → AtOrBefore p x z
then_before p {z = z} (inl e) h = subst (λ w. AtOrBefore p w z) (sym e) h
then_before p {x = x} (inr q) (inl e) = inr (subst (Precedes p x) e q)
then_before p (inr q) (inr r) = inr (steps_append q r)

-- A node at or before another on its strand precedes it or is it.
on_strand : (p : Bundle) (s i k : ℕ) (e : Event Message) → event_at p.strands (node_at s k) ≡ Some e → (i ≡ k) ⊎ (i < k) → AtOrBefore p (node_at s i) (node_at s k)
on_strand p s i k e ev (inl same) = inl (ap (node_at s) same)
on_strand p s i k e ev (inr less) = inr (bundle_climb p s i k e ev less)

earlier_place : (protocol : Protocol) (p : Bundle) → IsBundle protocol p → (x y z : Node) (i j : ℕ) → BundleStep p x y → AtOrBefore p y z → item_at p.order i ≡ Some x → item_at p.order j ≡ Some z → i < j
earlier_place protocol p is x y z i j s (inl e) at au = is.rises x y i j s at (au ∙ ap Some (sym e))
earlier_place protocol p is x y z i j s (inr q) at au = path_rises protocol p is (more_steps s q) i j at au

pub trail_start : (protocol : Protocol) (p : Bundle) → IsBundle protocol p → (m : Message) (n : Node) (e : Event Message) → event_at p.strands n ≡ Some e → IsCarriedBy m (payload e) → Trail p m n 0 n
trail_start protocol p is m n e ev c =
    let place = place_of (is.listing.each n e ev) in
    let below : place.0 < length p.order = item_below p.order place.0 n place.1 in
    record { place = place.0; listed = place.1; few = omega arith; event = e; there = ev; carried = c; before = inl refl }

-- The nodes are as many as the numbering has.
pub trail_few : (p : Bundle) (m : Message) (n : Node) (steps : ℕ) (x : Node) → Trail p m n steps x → steps < length p.order
trail_few p m n steps x t = let h : t.place + steps < length p.order = t.few in omega arith

module _ (b : program.Bundle) (p : Bundle) (stands : StandsForBundle b p) (protocol : Protocol) (is : IsBundle protocol p) (m : Message) (n : Node) where
  abbrev traces : List (List (Event Message))
  traces = map trace_view b.strands.items

  pub carries_there : (steps : ℕ) (x : Node) → Trail p m n steps x → CarriesAt traces m x
  carries_there steps x t = record { event = t.event; there = sym (same_event p.strands traces stands.strands x) ∙ t.there; carried = t.carried }

  module _ (steps : ℕ) (x f : Node) (t : Trail p m n steps x) (first : IsFirstOnStrand traces m f x) where
    at_first : event_at p.strands f ≡ Some first.carries.event
    at_first = same_event p.strands traces stands.strands f ∙ first.carries.there

    up : AtOrBefore p f x
    up =
        subst (λ s. AtOrBefore p (node_at s f.index) x) (sym first.same_strand)
        (on_strand p x.strand f.index x.index t.event t.there (eq-or-lt_of_le first.at_or_before))

    first_before : AtOrBefore p f n
    first_before = then_before p up t.before

    origin_at : (sent : Message) → first.carries.event ≡ send sent → OriginatesAt p.strands m f
    origin_at sent e = record {
      sent = sent;
      transmission = at_first ∙ ap Some e;
      carried = subst (λ (g : Event Message). IsCarriedBy m (payload g)) e first.carries.carried;
      first = λ j g l ev c.
          first.first j g l (subst (λ es. item_at es j ≡ Some g) (trace_there p.strands f.strand ∙ ap (λ ts. items_or_none (item_at ts f.strand)) stands.strands) ev) c;
    }

    sent_on : (t : Message) → first.carries.event ≡ recv t → sender_in b f ≡ Some (p.sender f)
    sent_on t e = stands.senders f t (at_first ∙ ap Some e)

    not_sent : (sent : Message) → first.carries.event ≡ send sent → sender_in b f ≡ None
    not_sent sent e = ap (λ o. if_reception o (link_in (map row_view b.senders.items) f)) (first.carries.there ∙ ap Some e)

    -- Where the first event that carries the message has no sender, the message originates there.
    pub trail_end : sender_in b f ≡ None → IsOrigin p m n f
    trail_end none = by_event first.carries.event refl
      where
        by_event : (g : Event Message) → first.carries.event ≡ g → IsOrigin p m n f
        by_event (send sent) e = (origin_at sent e, first_before)
        by_event (recv r) e = let h : None ≡ Some (p.sender f) = sym none ∙ sent_on r e in absurd (cc)

    linked_trail : (r : Message) → first.carries.event ≡ recv r → Trail p m n (steps + 1) (p.sender f)
    linked_trail r e =
        let ev : event_at p.strands f ≡ Some (recv r) = at_first ∙ ap Some e in
        let sent = is.linked f r ev in
        let place = place_of (is.listing.each (p.sender f) (send r) sent) in
        let link : BundleStep p (p.sender f) f = along_link ev in
        let less : place.0 < t.place = earlier_place protocol p is (p.sender f) f x place.0 t.place link up place.1 t.listed in
        let few : t.place + steps < length p.order = t.few in
        record {
          place = place.0;
          listed = place.1;
          few = omega arith;
          event = send r;
          there = sent;
          carried = subst (λ (g : Event Message). IsCarriedBy m (payload g)) e first.carries.carried;
          before = then_before p (inr (one_step link)) first_before;
        }

    -- Where it has one, that one carries the message and stands earlier.
    pub trail_next : (s : Node) → sender_in b f ≡ Some s → Trail p m n (steps + 1) s
    trail_next s has = by_event first.carries.event refl
      where
        by_event : (g : Event Message) → first.carries.event ≡ g → Trail p m n (steps + 1) s
        by_event (send sent) e = let h : Some s ≡ None = sym has ∙ not_sent sent e in absurd (cc)
        by_event (recv r) e =
            let h : Some (p.sender f) ≡ Some s = sym (sent_on r e) ∙ has in
            let same : p.sender f ≡ s = cc in
            subst (Trail p m n (steps + 1)) same (linked_trail r e)

-- ---- over every bundle that the program's stands for

-- What holds wherever the program's bundle is one over a protocol in which the node carries the message.
abbrev pub WhereCarried : program.Bundle → Message → Node → (Bundle → Type 0) → Type 0
WhereCarried b m n Says = (protocol : Protocol) (p : Bundle) (e : Event Message) → StandsForBundle b p → IsBundle protocol p → event_at p.strands n ≡ Some e → IsCarriedBy m (payload e) → Says p

pub begins : (b : program.Bundle) (m : Message) (n : Node) → WhereCarried b m n (λ p. Trail p m n 0 n)
begins b m n protocol p e stands is ev c = trail_start protocol p is m n e ev c

module _ (b : program.Bundle) (m : Message) (n : Node) (steps : ℕ) (x : Node) (trail : WhereCarried b m n (λ p. Trail p m n steps x)) where
  pub runs_out : length b.order.items ≤ steps → WhereCarried b m n (λ p. IsOrigin p m n x)
  runs_out all protocol p e stands is ev c =
      let few : steps < length p.order = trail_few p m n steps x (trail protocol p e stands is ev c) in
      let as_many : length p.order ≡ length b.order.items = ap length stands.order ∙ refl in
      absurd (omega arith)

  module _ (ss : List program_strand.Strand) (f : Node) (same : ss ≡ b.strands.items) (first : CarriesAt (map trace_view ss) m x → IsFirstOnStrand (map trace_view ss) m f x) where
    first_of : CarriesAt (map trace_view b.strands.items) m x → IsFirstOnStrand (map trace_view b.strands.items) m f x
    first_of = subst (λ ss. CarriesAt (map trace_view ss) m x → IsFirstOnStrand (map trace_view ss) m f x) same first

    pub ends : sender_in b f ≡ None → WhereCarried b m n (λ p. IsOrigin p m n f)
    ends none protocol p e stands is ev c =
        let t = trail protocol p e stands is ev c in
        trail_end b p stands protocol is m n steps x f t (first_of (carries_there b p stands protocol is m n steps x t)) none

    pub goes_on : (s : Node) → sender_in b f ≡ Some s → WhereCarried b m n (λ p. Trail p m n (steps + 1) s)
    goes_on s has protocol p e stands is ev c =
        let t = trail protocol p e stands is ev c in
        trail_next b p stands protocol is m n steps x f t (first_of (carries_there b p stands protocol is m n steps x t)) s has
