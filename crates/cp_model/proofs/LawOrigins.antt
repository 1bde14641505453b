-- What a node carries originates there or before.
use Rattle.std.proofs.Common.{◌≡◌, ℕ, zero, suc, ◌<◌, Option, Some, None, refl, sym, ap, ◌∙◌, subst, ◌⊎◌, inl, inr, arith, eq-or-lt_of_le, le_of_suc-le-suc, lt_trans}
use Rattle.cp_lists.specs.Lists.{item_at, one_step, more_steps}
use Rattle.cp_lists.proofs.Items.{place_of}
use Rattle.cp_lists.proofs.Least.{least}
use Rattle.cp_model.specs.Message.{Message, IsCarriedBy}
use Rattle.cp_model.specs.Strand.{Event, send, recv, payload, Protocol}
use Rattle.cp_model.specs.Bundle.{node_at, event_at, OriginatesAt, Bundle, BundleStep, along_strand, along_link, Precedes, IsBundle}
use Rattle.cp_model.specs.declared.node.Node.{Node}
use Rattle.cp_model.proofs.LawMessages.{dec_carried}
use Rattle.cp_lists.proofs.Reached.{steps_append}
use Rattle.cp_model.proofs.LawStandings.{bundle_climb}

-- An event there carries the message.
abbrev CarriedIn : Message → Option (Event Message) → Type 0
CarriedIn v o = (e : Event Message) × (o ≡ Some e) × IsCarriedBy v (payload e)

carried_in_some : (v : Message) (e : Event Message) → Dec (IsCarriedBy v (payload e)) → Dec (CarriedIn v (Some e))
carried_in_some v e (yes c) = yes (e, refl, c)
carried_in_some v e (no n) = no (λ r. n (let whole : Some e ≡ Some r.0 = r.1 in let same : r.0 ≡ e = cc in subst (λ (f : Event Message). IsCarriedBy v (payload f)) same r.2))

dec_carried_in : (v : Message) (o : Option (Event Message)) → Dec (CarriedIn v o)
dec_carried_in v None = no (λ r. let e : None ≡ Some r.0 = r.1 in absurd (cc))
dec_carried_in v (Some e) = carried_in_some v e (dec_carried v (payload e))

pub event_after : (b : Bundle) {x y : Node} → BundleStep b x y → (e : Event Message) × (event_at b.strands y ≡ Some e)
event_after b (along_strand {e = e} ev) = (e, ev)
event_after b (along_link {m = m} ev) = (recv m, ev)

-- The numbering rises along paths.
pub path_rises : (protocol : Protocol) (b : Bundle) → IsBundle protocol b → {x y : Node} → Precedes b x y → (i j : ℕ) → item_at b.order i ≡ Some x → item_at b.order j ≡ Some y → i < j
path_rises protocol b is {x = x} {y = y} (one_step s) i j at au = is.rises x y i j s at au
path_rises protocol b is {x = x} (more_steps {y = z} s p) i j at au =
    let ev = event_after b s in
    let place = place_of (is.listing.each z ev.0 ev.1) in
    lt_trans (is.rises x z i place.0 s at place.1) (path_rises protocol b is p place.0 j place.1 au)

-- No node of a bundle precedes itself.
last_event : (b : Bundle) {x y : Node} → Precedes b x y → (e : Event Message) × (event_at b.strands y ≡ Some e)
last_event b (one_step s) = event_after b s
last_event b (more_steps s p) = last_event b p

pub never_before_itself : (protocol : Protocol) (b : Bundle) (n : Node) → IsBundle protocol b → Precedes b n n → ⊥
never_before_itself protocol b n is p =
    let e = last_event b p in
    let place = place_of (is.listing.each n e.0 e.1) in
    let l : place.0 < place.0 = path_rises protocol b is p place.0 place.0 place.1 place.1 in
    omega arith

abbrev pub AtOrBefore : Bundle → Node → Node → Type 0
AtOrBefore b x y = (x ≡ y) ⊎ Precedes b x y

before_then : (b : Bundle) {x y z : Node} → AtOrBefore b x y → Precedes b y z → AtOrBefore b x z
before_then b {z = z} (inl e) q = inr (subst (λ w. Precedes b w z) (sym e) q)
before_then b (inr p) q = inr (steps_append p q)

then_before : (b : Bundle) {x y z : Node} → AtOrBefore b x y → AtOrBefore b y z → AtOrBefore b x z
then_before b {x = x} p (inl e) = subst (AtOrBefore b x) e p
then_before b p (inr q) = before_then b p q

place_before : (protocol : Protocol) (b : Bundle) → IsBundle protocol b → (x m n : Node) (i j : ℕ) → BundleStep b x m → AtOrBefore b m n → item_at b.order i ≡ Some x → item_at b.order j ≡ Some n → i < j
place_before protocol b is x m n i j s (inl e) at au = is.rises x m i j s at (au ∙ ap Some (sym e))
place_before protocol b is x m n i j s (inr p) at au = path_rises protocol b is (more_steps s p) i j at au

abbrev pub HasOrigin : Bundle → Message → Node → Type 0
HasOrigin b v n = (o : Node) × OriginatesAt b.strands v o × AtOrBefore b o n

-- From the least event of a strand that carries the message: it is the origin, or its sender carries the message.
origin_step : (protocol : Protocol) (b : Bundle) → IsBundle protocol b → (v : Message) (n : Node) (j : ℕ) → item_at b.order j ≡ Some n → (m : Node) → AtOrBefore b m n →
    (e : Event Message) → event_at b.strands m ≡ Some e → IsCarriedBy v (payload e) →
    ((k : ℕ) → k < m.index → CarriedIn v (event_at b.strands (node_at m.strand k)) → ⊥) →
    ((x : Node) (i : ℕ) (t : Message) → i < j → item_at b.order i ≡ Some x → event_at b.strands x ≡ Some (send t) → IsCarriedBy v t → HasOrigin b v x) → HasOrigin b v n
origin_step protocol b is v n j at m before (send t) ev c none more =
    (m, record { sent = t; transmission = ev; carried = c; first = λ k f l ef cf. none k l (f, ef, cf) }, before)
origin_step protocol b is v n j at m before (recv t) ev c none more =
    (o.0, o.1, then_before b o.2 (then_before b (inr (one_step link)) before))
  where
    x : Node
    x = b.sender m

    sent : event_at b.strands x ≡ Some (send t)
    sent = is.linked m t ev

    place : (i : ℕ) × (item_at b.order i ≡ Some x)
    place = place_of (is.listing.each x (send t) sent)

    link : BundleStep b x m
    link = along_link ev

    o : HasOrigin b v x
    o = more x place.0 t (place_before protocol b is x m n place.0 j link before place.1 at) place.1 sent c

strand_part : (b : Bundle) (s i k : ℕ) (e : Event Message) → event_at b.strands (node_at s k) ≡ Some e → (i ≡ k) ⊎ (i < k) → AtOrBefore b (node_at s i) (node_at s k)
strand_part b s i k e ev (inl same) = inl (ap (node_at s) same)
strand_part b s i k e ev (inr less) = inr (bundle_climb b s i k e ev less)

origin_within : (protocol : Protocol) (b : Bundle) → IsBundle protocol b → (v : Message) (fuel : ℕ) (n : Node) (j : ℕ) (e : Event Message) → j < fuel → item_at b.order j ≡ Some n →
    event_at b.strands n ≡ Some e → IsCarriedBy v (payload e) → HasOrigin b v n
origin_within protocol b is v zero n j e l at ev c = absurd (omega arith)
origin_within protocol b is v (suc fuel) n j e l at ev c =
    let P : ℕ → Type 0 = λ k. CarriedIn v (event_at b.strands (node_at n.strand k)) in
    let r = least P (λ k. dec_carried_in v (event_at b.strands (node_at n.strand k))) n.index (e, ev, c) in
    origin_step protocol b is v n j at (node_at n.strand r.0) (strand_part b n.strand r.0 n.index e ev (eq-or-lt_of_le (le_of_suc-le-suc r.1))) r.2.0 r.2.1 r.2.2 r.3
    (λ x i t less place sent carried. origin_within protocol b is v fuel x i (send t) (let l' : j < suc fuel = l in omega arith) place sent carried)

pub origin_of : (protocol : Protocol) (b : Bundle) → IsBundle protocol b → (n : Node) (e : Event Message) (v : Message) → event_at b.strands n ≡ Some e → IsCarriedBy v (payload e) → HasOrigin b v n
origin_of protocol b is n e v ev c =
    let place = place_of (is.listing.each n e ev) in
    origin_within protocol b is v (suc place.0) n place.0 e (omega arith) place.1 ev c
