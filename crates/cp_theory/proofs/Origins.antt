-- Non-originating values are carried nowhere, unique values originate at their recorded origins, and those precede all
-- receptions of their values.
use Rattle.std.proofs.Common.{◌≡◌, ◌≢◌, ℕ, ◌<◌, Some, refl, sym, ap, ◌∙◌, subst, inl, inr}
use Rattle.cp_lists.specs.Lists.{item_at, IsIn}
use Rattle.cp_model.specs.Message.{Message, atom, IsCarriedBy}
use Rattle.cp_model.specs.Term.{AtomTerm, Term, atom_term, IsCarriedByTerm, value_of, value_of_atom}
use Rattle.cp_model.specs.Strand.{payload, event_map, Protocol}
use Rattle.cp_model.specs.declared.strand.Event.{Event}
use Rattle.cp_model.specs.declared.strand.Event.TheVariants.{Send as send, Receive as recv}
use Rattle.cp_model.specs.Bundle.{node_at, event_at, OriginatesAt, Bundle, Precedes, IsBundle}
use Rattle.cp_model.specs.declared.node.Node.{Node}
use Rattle.cp_model.specs.Skeleton.{instance, UniqueAt, Skeleton, IsOrigin, IsSkeleton}
use Rattle.cp_model.specs.declared.node.OrderPair.{OrderPair}
use Rattle.cp_model.specs.Standing.{Standing, image_of, StandsIn, StandsApart}
use Rattle.cp_model.specs.Derivable.{IsOnInstance}
use Rattle.cp_model.specs.Realisation.{OriginatesAtTerm}
use Rattle.cp_model.proofs.LawOrigins.{origin_of, AtOrBefore, HasOrigin}
use Rattle.cp_theory.specs.Normal.{IsCarriedAt, IsOriginPair}
use Rattle.cp_model.proofs.LawEvents.{payload_map}
use Rattle.cp_model.proofs.CarriedValues.{carried_value}
use Rattle.cp_model.proofs.LawStandings.{event_on}
use Rattle.cp_theory.proofs.Images.{image_event, image_at, IsImageOf, image_event_at}

-- What a node carries, its image carries.
pub image_carries : (k : Skeleton) (b : Bundle) (h : Standing) (n : Node) (e : Event Term) (v : AtomTerm) (m : IsImageOf b h.values e (image_of k h n)) → IsCarriedByTerm (atom_term v) (payload e) →
    IsCarriedBy (atom (value_of_atom h.values v)) (payload m.event)
image_carries k b h n e v m c = subst (IsCarriedBy (atom (value_of_atom h.values v))) (sym m.message) (carried_value h.values c)

pub carried_non_originating : (protocol : Protocol) (k : Skeleton) (b : Bundle) (h : Standing) (v : AtomTerm) (n : Node) → IsBundle protocol b → IsIn v k.assumptions.non_originating → IsCarriedAt k v n →
    StandsIn k b h → ⊥
carried_non_originating protocol k b h v n is inv c stands =
    let m = image_event_at k b h stands n c.event c.there in
    let o = origin_of protocol b is (image_of k h n) m.event (atom (value_of_atom h.values v)) m.there (image_carries k b h n c.event v m c.carried) in
    stands.non v inv o.0 o.1

-- The image of a recorded origin, on the strand of its instance.
pub origin_image : (k : Skeleton) (h : Standing) (u : UniqueAt) (o : IsOrigin k u) → image_of k h u.origin ≡ node_at (h.nodes u.origin.strand).strand u.origin.index
origin_image k h u o = image_at k h u.origin (instance o.role o.height o.terms) o.on_instance

pub same_node : {a b : Node} → a.strand ≡ b.strand → a.index ≡ b.index → a ≡ b
same_node p q = λ i. record { strand = p i; index = q i }

-- Where a skeleton stands apart, a node of an instance whose image is that of a recorded origin is that origin.
pub same_origin : (k : Skeleton) (h : Standing) (u : UniqueAt) (o : IsOrigin k u) (x : Node) (on : IsOnInstance k x) (i : ℕ) → StandsApart k h →
    node_at (h.nodes x.strand).strand i ≡ image_of k h u.origin → node_at x.strand i ≡ u.origin
same_origin k h u o x on i apart e =
    let whole : node_at (h.nodes x.strand).strand i ≡ node_at (h.nodes u.origin.strand).strand u.origin.index = e ∙ origin_image k h u o in
    same_node (apart x.strand u.origin.strand on.role on.height on.terms o.role o.height o.terms on.on_instance o.on_instance (ap (λ (n : Node). n.strand) whole)) (ap (λ (n : Node). n.index) whole)

pub two_origins : (protocol : Protocol) (k : Skeleton) (b : Bundle) (h : Standing) (u w : UniqueAt) → IsSkeleton protocol k → IsIn u k.assumptions.uniquely_originating → IsIn w k.assumptions.uniquely_originating →
    u.value ≡ w.value → u.origin ≢ w.origin → StandsIn k b h → StandsApart k h → ⊥
two_origins protocol k b h u w sk inu inw same ne stands apart =
    let o = sk.origins u inu in
    let p = sk.origins w inw in
    let there : OriginatesAt b.strands (atom (value_of_atom h.values w.value)) (image_of k h u.origin) =
    subst (λ (v : AtomTerm). OriginatesAt b.strands (atom (value_of_atom h.values v)) (image_of k h u.origin)) same (stands.unique u inu).originates in
    let e : image_of k h u.origin ≡ image_of k h w.origin = (stands.unique w inw).only (image_of k h u.origin) there in
    ne (same_origin k h w p u.origin (record { role = o.role; height = o.height; terms = o.terms; on_instance = o.on_instance }) u.origin.index apart (sym (origin_image k h u o) ∙ e))

-- No event of the strand of a recorded origin carries the value before that origin.
pub lost_origin : (protocol : Protocol) (k : Skeleton) (b : Bundle) (h : Standing) (u : UniqueAt) (j : ℕ) → IsSkeleton protocol k → IsIn u k.assumptions.uniquely_originating → j < u.origin.index →
    IsCarriedAt k u.value (node_at u.origin.strand j) → StandsIn k b h → ⊥
lost_origin protocol k b h u j sk inu l c stands =
    let o = sk.origins u inu in
    let on : item_at k.strands u.origin.strand ≡ Some (instance o.role o.height o.terms) = o.on_instance in
    let ev = event_on k (node_at u.origin.strand j) (instance o.role o.height o.terms) c.event on c.there in
    let there : event_at b.strands (node_at (h.nodes u.origin.strand).strand j) ≡ Some (event_map (value_of h.values) c.event) =
    image_event b h u.origin.strand o.role o.height o.terms j c.event (stands.instances u.origin.strand o.role o.height o.terms on) ev in
    let whole : OriginatesAt b.strands (atom (value_of_atom h.values u.value)) (node_at (h.nodes u.origin.strand).strand u.origin.index) =
    subst (OriginatesAt b.strands (atom (value_of_atom h.values u.value))) (origin_image k h u o) (stands.unique u inu).originates in
    let carried : IsCarriedBy (atom (value_of_atom h.values u.value)) (payload (event_map (value_of h.values) c.event)) =
    subst (IsCarriedBy (atom (value_of_atom h.values u.value))) (sym (payload_map (value_of h.values) c.event)) (carried_value h.values c.carried) in
    whole.first j (event_map (value_of h.values) c.event) l there carried

-- A recorded origin that no earlier event on its strand spoils: the value originates there.
pub originates_at : (k : Skeleton) (u : UniqueAt) → IsOrigin k u → ((j : ℕ) → j < u.origin.index → IsCarriedAt k u.value (node_at u.origin.strand j) → ⊥) → OriginatesAtTerm k u.value u.origin
originates_at k u o unspoiled = (
  record { role = o.role; height = o.height; terms = o.terms; on_instance = o.on_instance },
  record {
    sent = o.sent;
    transmission = o.transmission;
    carried = o.carried;
    first = λ j e l at c. unspoiled j l (record { event = e; there = at; carried = c });
  },
)

pub unique_value_originates : (protocol : Protocol) (k : Skeleton) (b : Bundle) (h : Standing) (u : UniqueAt) → IsSkeleton protocol k → IsIn u k.assumptions.uniquely_originating → StandsIn k b h →
    OriginatesAtTerm k u.value u.origin
unique_value_originates protocol k b h u sk inu stands = originates_at k u (sk.origins u inu) (λ j l c. lost_origin protocol k b h u j sk inu l c stands)

-- The recorded origin of a unique value precedes each reception that carries the value.
origin_not_reception : (protocol : Protocol) (b : Bundle) (v : Message) (o n : Node) (m : Message) → OriginatesAt b.strands v o → event_at b.strands n ≡ Some (recv m) → AtOrBefore b o n → Precedes b o n
origin_not_reception protocol b v o n m or ev (inr p) = p
origin_not_reception protocol b v o n m or ev (inl e) =
    let sent : event_at b.strands n ≡ Some (send or.sent) = subst (λ (x : Node). event_at b.strands x ≡ Some (send or.sent)) e or.transmission in
    let both : Some (send or.sent) ≡ Some (recv m) = sym sent ∙ ev in
    absurd (cc)

pub origin_precedes : (protocol : Protocol) (k : Skeleton) (b : Bundle) (h : Standing) (p : OrderPair) → IsBundle protocol b → StandsIn k b h → IsOriginPair k p →
    Precedes b (image_of k h p.earlier) (image_of k h p.later)
origin_precedes protocol k b h p is stands op =
    let v = atom (value_of_atom h.values op.entry.value) in
    let m = image_event_at k b h stands p.later (recv op.received) op.reception in
    let o : HasOrigin b v (image_of k h p.later) = origin_of protocol b is (image_of k h p.later) m.event v m.there (image_carries k b h p.later (recv op.received) op.entry.value m op.carried) in
    let received : event_at b.strands (image_of k h p.later) ≡ Some (recv (value_of h.values op.received)) = m.there ∙ ap Some (m.reception op.received refl) in
    let before : Precedes b o.0 (image_of k h p.later) = origin_not_reception protocol b v o.0 (image_of k h p.later) (value_of h.values op.received) o.1 received o.2 in
    let at : o.0 ≡ image_of k h p.earlier = (stands.unique op.entry op.listed).only o.0 o.1 ∙ ap (image_of k h) (sym op.from_origin) in
    subst (λ (x : Node). Precedes b x (image_of k h p.later)) at before
