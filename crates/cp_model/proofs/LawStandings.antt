-- A homomorphism followed by a standing is a standing.
use Rattle.std.proofs.Common.{◌≡◌, ◌≢◌, ℕ, zero, suc, ◌<◌, ◌≤◌, List, Option, Some, None, refl, sym, ap, ◌∙◌, subst, subst₂, le_trans, ◌⊎◌, inl, inr, arith, eq-or-lt_of_le}
use native.Mathlib.Decide.{ℕ_discrete, dec_lt}
use Rattle.cp_lists.specs.Lists.{item_at, IsIn, one_step, more_steps}
use Rattle.cp_model.specs.Message.{Atom, Message, atom}
use Rattle.cp_model.specs.Term.{variable_term, Term, Assignment, value_of, value_of_atom, apply_to, apply_to_atom, after}
use Rattle.cp_model.specs.Bindings.{Binding, as_substitution}
use Rattle.cp_model.specs.Strand.{Event, send, recv, event_map, Role, Protocol, prefix_of, Strand, regular}
use Rattle.cp_model.specs.Bundle.{node_at, event_at, trace_or_none, Bundle, along_strand, Precedes, KeepsNon, KeepsPenetratorNon, KeepsUnique}
use Rattle.cp_model.specs.declared.node.Node.{Node}
use Rattle.cp_model.specs.Skeleton.{SkeletonStrand, instance, listener, skeleton_trace, skeleton_trace_or_none, term_event_at, UniqueAt, Skeleton, OrderStep, along_strand_of, along_pair, Before, IsOrderPair, IsSkeleton}
use Rattle.cp_model.specs.declared.node.OrderPair.{OrderPair}
use Rattle.cp_model.specs.Standing.{Standing, image_on, image_of, StandsOnRegular, StandsIn}
use Rattle.cp_model.specs.Homomorphism.{SkeletonMap, mapped, GoesToInstance, IsHomomorphism}
use Rattle.cp_model.specs.Composition.{through}
use Rattle.cp_model.proofs.LawTerms.{after_further, value_after, atom_after}
use Rattle.cp_model.proofs.LawPrefixes.{variables_of_higher, climb}
use Rattle.cp_lists.proofs.Items.{item_of_take, take_of_item, item_of_map, map_of_item, item_before}
use Rattle.cp_lists.proofs.Reached.{steps_append}

-- A strand of a skeleton on which there is an event.
pub strand_with_event : (o : Option SkeletonStrand) (i : ℕ) (e : Event Term) → item_at (skeleton_trace_or_none o) i ≡ Some e → (st : SkeletonStrand) × (o ≡ Some st) × (item_at (skeleton_trace st) i ≡ Some e)
strand_with_event None i e h = absurd (cc)
strand_with_event (Some st) i e h = (st, refl, h)

pub strand_of_event : (strands : List SkeletonStrand) (n : Node) (e : Event Term) → term_event_at strands n ≡ Some e → (st : SkeletonStrand) × (item_at strands n.strand ≡ Some st)
strand_of_event strands n e h = let r = strand_with_event (item_at strands n.strand) n.index e h in (r.0, r.1)

-- The event at a node of a strand.
pub event_on : (k : Skeleton) (n : Node) (st : SkeletonStrand) (e : Event Term) → item_at k.strands n.strand ≡ Some st → term_event_at k.strands n ≡ Some e → item_at (skeleton_trace st) n.index ≡ Some e
event_on k n st e at h = subst (λ (o : Option SkeletonStrand). item_at (skeleton_trace_or_none o) n.index ≡ Some e) at h

-- An event of an instance is one of the role below the height.
pub event_of_instance : (role : Role) (height : ℕ) (terms : List Binding) (i : ℕ) (e : Event Term) → item_at (skeleton_trace (instance role height terms)) i ≡ Some e →
    (i < height) × (u : Event Term) × (item_at role.trace i ≡ Some u)
event_of_instance role height terms i e h =
    let m = item_of_map (event_map (apply_to (as_substitution terms))) (prefix_of role height) i e h in
    let t = item_of_take height role.trace i m.0 m.1 in
    (t.0, m.0, t.1)

-- A node of a role strand of a skeleton.
pub event_on_instance : (strands : List SkeletonStrand) (s i : ℕ) (role : Role) (height : ℕ) (terms : List Binding) (e : Event Term) →
    item_at strands s ≡ Some (instance role height terms) → term_event_at strands (node_at s i) ≡ Some e → (i < height) × (u : Event Term) × (item_at role.trace i ≡ Some u)
event_on_instance strands s i role height terms e at h = event_of_instance role height terms i e (rw at at h)

pub event_of_higher : (strands : List SkeletonStrand) (s i : ℕ) (role : Role) (height : ℕ) (terms : List Binding) (u : Event Term) →
    item_at strands s ≡ Some (instance role height terms) → i < height → item_at role.trace i ≡ Some u → term_event_at strands (node_at s i) ≡ Some (event_map (apply_to (as_substitution terms)) u)
event_of_higher strands s i role height terms u at l h = rw at (map_of_item (event_map (apply_to (as_substitution terms))) (prefix_of role height) i u (take_of_item height role.trace i u l h))

pub event_of_regular : (strands : List Strand) (s i : ℕ) (role : Role) (height : ℕ) (g : Assignment) (u : Event Term) →
    item_at strands s ≡ Some (regular role height g) → i < height → item_at role.trace i ≡ Some u → event_at strands (node_at s i) ≡ Some (event_map (value_of g) u)
event_of_regular strands s i role height g u at l h = rw at (map_of_item (event_map (value_of g)) (prefix_of role height) i u (take_of_item height role.trace i u l h))

-- Along a strand each node precedes the later ones.
pub bundle_climb : (b : Bundle) (s i j : ℕ) (e : Event Message) → event_at b.strands (node_at s j) ≡ Some e → i < j → Precedes b (node_at s i) (node_at s j)
bundle_climb b s i j e h l = climb s i j l (λ k n. along_strand (item_before (trace_or_none (item_at b.strands s)) (suc k) j e h n).1)

pub skeleton_climb : (k : Skeleton) (s i j : ℕ) (e : Event Term) → term_event_at k.strands (node_at s j) ≡ Some e → i < j → Before k (node_at s i) (node_at s j)
skeleton_climb k s i j e h l = climb s i j l (λ m n. along_strand_of (item_before (skeleton_trace_or_none (item_at k.strands s)) (suc m) j e h n).1)

-- A step of a strand, seen in the bundle.
image_step : (b : Bundle) (h : Standing) (s i : ℕ) (o : Option SkeletonStrand) (e : Event Term) →
    ((role : Role) (height : ℕ) (terms : List Binding) → o ≡ Some (instance role height terms) → StandsOnRegular b h s role height terms) →
    item_at (skeleton_trace_or_none o) (suc i) ≡ Some e →
    Precedes b (image_on o (h.nodes s) i) (image_on o (h.nodes s) (suc i)) ⊎ (image_on o (h.nodes s) i ≡ image_on o (h.nodes s) (suc i))
image_step b h s i None e on ev = absurd (cc)
image_step b h s i (Some (listener t)) e on ev = inr refl
image_step b h s i (Some (instance role height terms)) e on ev =
    let st = on role height terms refl in
    let u = event_of_instance role height terms (suc i) e ev in
    let l : suc i < height = u.0 in
    let at_least : height ≤ st.to_height = st.at_least in
    inl (one_step (along_strand (event_of_regular b.strands (h.nodes s).strand (suc i) role st.to_height st.to_values u.1 st.on_regular (omega arith) u.2)))

-- The images of two nodes of which one comes before the other.
abbrev pub Follows : Bundle → Node → Node → ℕ → ℕ → Type 0
Follows b x y s t = Precedes b x y ⊎ ((x ≡ y) × (s ≡ t))

follows_both : {b : Bundle} {x y z : Node} {s t u : ℕ} → Follows b x y s t → Follows b y z t u → Follows b x z s u
follows_both (inl p) (inl q) = inl (steps_append p q)
follows_both {b = b} {x = x} (inl p) (inr q) = inl (subst (Precedes b x) q.0 p)
follows_both {b = b} {z = z} (inr p) (inl q) = inl (subst (λ w. Precedes b w z) (sym p.0) q)
follows_both (inr p) (inr q) = inr (p.0 ∙ q.0, p.1 ∙ q.1)

follows_same : {b : Bundle} {x y : Node} {s t : ℕ} → Precedes b x y ⊎ (x ≡ y) → s ≡ t → Follows b x y s t
follows_same (inl p) e = inl p
follows_same (inr p) e = inr (p, e)

follows_apart : {b : Bundle} {x y : Node} {s t : ℕ} → Follows b x y s t → s ≢ t → Precedes b x y
follows_apart (inl p) ne = p
follows_apart (inr p) ne = absurd (ne p.1)

follows_step : (k : Skeleton) (b : Bundle) (h : Standing) →
    ((s : ℕ) (role : Role) (height : ℕ) (terms : List Binding) → item_at k.strands s ≡ Some (instance role height terms) → StandsOnRegular b h s role height terms) →
    ((p : OrderPair) → IsIn p k.pairs → Precedes b (image_of k h p.earlier) (image_of k h p.later)) →
    {x y : Node} → OrderStep k x y → Follows b (image_of k h x) (image_of k h y) x.strand y.strand
follows_step k b h on pairs (along_strand_of {s = s} {i = i} {e = e} ev) = follows_same (image_step b h s i (item_at k.strands s) e (on s) ev) refl
follows_step k b h on pairs (along_pair {p = p} inp) = inl (pairs p inp)

-- Of the order only the pairs need checking.
pub follows_path : (k : Skeleton) (b : Bundle) (h : Standing) →
    ((s : ℕ) (role : Role) (height : ℕ) (terms : List Binding) → item_at k.strands s ≡ Some (instance role height terms) → StandsOnRegular b h s role height terms) →
    ((p : OrderPair) → IsIn p k.pairs → Precedes b (image_of k h p.earlier) (image_of k h p.later)) →
    {x y : Node} → Before k x y → Follows b (image_of k h x) (image_of k h y) x.strand y.strand
follows_path k b h on pairs (one_step st) = follows_step k b h on pairs st
follows_path k b h on pairs (more_steps st p) = follows_both (follows_step k b h on pairs st) (follows_path k b h on pairs p)

-- The image of a node through a homomorphism.
image_through : (a b : Skeleton) (f : SkeletonMap) (h : Standing) → IsHomomorphism a b f → (s i : ℕ) (st : SkeletonStrand) → item_at a.strands s ≡ Some st →
    image_of b h (mapped f (node_at s i)) ≡ image_of a (through f h) (node_at s i)
image_through a b f h hom s i (instance role height terms) at = rw (at, (hom.instances s role height terms at).on_instance)
image_through a b f h hom s i (listener t) at = rw (at, hom.listeners s t at)

-- Two nodes of role strands that go to one role strand: the index rises.
index_rises : (b : Skeleton) (s i j : ℕ) (e : Event Term) → ((n : Node) → Before b n n → ⊥) → term_event_at b.strands (node_at s i) ≡ Some e → Before b (node_at s i) (node_at s j) → i < j
index_rises b s i j e acyclic at before = decide (dec_lt i j)
  where
    circle : (j ≡ i) ⊎ (j < i) → ⊥
    circle (inl same) = acyclic (node_at s i) (subst (λ k. Before b (node_at s i) (node_at s k)) same before)
    circle (inr less) = acyclic (node_at s i) (steps_append before (skeleton_climb b s j i e at less))

    decide : Dec (i < j) → i < j
    decide (yes l) = l
    decide (no n) = absurd (circle (eq-or-lt_of_le (omega arith)))

no_descent : (b : Skeleton) (s : ℕ) (t : Term) → item_at b.strands s ≡ Some (listener t) → ((n : Node) → Before b n n → ⊥) → Before b (node_at s 1) (node_at s 0) → ⊥
no_descent b s t at acyclic before = acyclic (node_at s 0) (more_steps (along_strand_of {e = send t} (rw at refl)) before)

transmission_of_listener : (t sent : Term) (i : ℕ) → item_at (skeleton_trace (listener t)) i ≡ Some (send sent) → i ≡ 1
transmission_of_listener t sent zero e = absurd (cc)
transmission_of_listener t sent (suc zero) e = refl
transmission_of_listener t sent (suc (suc i)) e = absurd (cc)

reception_of_listener : (t received : Term) (i : ℕ) → item_at (skeleton_trace (listener t)) i ≡ Some (recv received) → i ≡ 0
reception_of_listener t received zero e = refl
reception_of_listener t received (suc zero) e = absurd (cc)
reception_of_listener t received (suc (suc i)) e = absurd (cc)

-- Two places of a role strand, seen in the bundle.
instance_climb : (b : Skeleton) (bundle : Bundle) (h : Standing) (s i j : ℕ) (role : Role) (height : ℕ) (terms : List Binding) (u : Event Term) →
    item_at b.strands s ≡ Some (instance role height terms) → StandsOnRegular bundle h s role height terms → j < height → item_at role.trace j ≡ Some u → i < j →
    Precedes bundle (image_of b h (node_at s i)) (image_of b h (node_at s j))
instance_climb b bundle h s i j role height terms u at st l ev rises =
    let at_least : height ≤ st.to_height = st.at_least in
    rw at (bundle_climb bundle (h.nodes s).strand i j (event_map (value_of st.to_values) u) (event_of_regular bundle.strands (h.nodes s).strand j role st.to_height st.to_values u st.on_regular (omega arith) ev) rises)

-- A pair whose two strands go to one strand.
pair_together : (a b : Skeleton) (f : SkeletonMap) (bundle : Bundle) (h : Standing) → IsHomomorphism a b f → StandsIn b bundle h → ((n : Node) → Before b n n → ⊥) →
    (s i t j : ℕ) (sent received : Term) (st su : SkeletonStrand) → item_at a.strands s ≡ Some st → item_at a.strands t ≡ Some su →
    item_at (skeleton_trace st) i ≡ Some (send sent) → item_at (skeleton_trace su) j ≡ Some (recv received) →
    f.strands s ≡ f.strands t → Before b (node_at (f.strands s) i) (node_at (f.strands t) j) →
    Precedes bundle (image_of b h (node_at (f.strands s) i)) (image_of b h (node_at (f.strands t) j))
pair_together a b f bundle h hom stands acyclic s i t j sent received (instance role height terms) (listener u) at au ei ej same before =
    let gs = hom.instances s role height terms at in
    let e : Some (instance role gs.to_height gs.to_terms) ≡ Some (listener (apply_to f.terms u)) = sym gs.on_instance ∙ ap (item_at b.strands) same ∙ hom.listeners t u au in
    absurd (cc)
pair_together a b f bundle h hom stands acyclic s i t j sent received (listener v) (instance role height terms) at au ei ej same before =
    let gt = hom.instances t role height terms au in
    let e : Some (instance role gt.to_height gt.to_terms) ≡ Some (listener (apply_to f.terms v)) = sym gt.on_instance ∙ ap (item_at b.strands) (sym same) ∙ hom.listeners s v at in
    absurd (cc)
pair_together a b f bundle h hom stands acyclic s i t j sent received (listener v) (listener u) at au ei ej same before =
    let together : Before b (node_at (f.strands s) i) (node_at (f.strands s) j) = subst (λ (w : ℕ). Before b (node_at (f.strands s) i) (node_at w j)) (sym same) before in
    let descent : Before b (node_at (f.strands s) 1) (node_at (f.strands s) 0) =
    subst₂ (λ (x y : ℕ). Before b (node_at (f.strands s) x) (node_at (f.strands s) y)) (transmission_of_listener v sent i ei) (reception_of_listener u received j ej) together in
    absurd (no_descent b (f.strands s) (apply_to f.terms v) (hom.listeners s v at) acyclic descent)
pair_together a b f bundle h hom stands acyclic s i t j sent received (instance role height terms) (instance role' height' terms') at au ei ej same before =
    let gs = hom.instances s role height terms at in
    let gt = hom.instances t role' height' terms' au in
    let us = event_of_instance role height terms i (send sent) ei in
    let ut = event_of_instance role' height' terms' j (recv received) ej in
    let ls : i < height = us.0 in
    let ls' : height ≤ gs.to_height = gs.at_least in
    let lt : j < height' = ut.0 in
    let lt' : height' ≤ gt.to_height = gt.at_least in
    let ev = subst (λ (w : ℕ). term_event_at b.strands (node_at w i) ≡ Some (event_map (apply_to (as_substitution gs.to_terms)) us.1)) same
    (event_of_higher b.strands (f.strands s) i role gs.to_height gs.to_terms us.1 gs.on_instance (omega arith) us.2) in
    let together = subst (λ (w : ℕ). Before b (node_at w i) (node_at (f.strands t) j)) same before in
    let rises = index_rises b (f.strands t) i j (event_map (apply_to (as_substitution gs.to_terms)) us.1) acyclic ev together in
    subst (λ (w : ℕ). Precedes bundle (image_of b h (node_at w i)) (image_of b h (node_at (f.strands t) j))) (sym same)
    (instance_climb b bundle h (f.strands t) i j role' gt.to_height gt.to_terms ut.1 gt.on_instance (stands.instances (f.strands t) role' gt.to_height gt.to_terms gt.on_instance) (omega arith) ut.2 rises)

-- A pair of the first skeleton, seen in the bundle.
pair_follows : (protocol : Protocol) (a b : Skeleton) (f : SkeletonMap) (bundle : Bundle) (h : Standing) → IsSkeleton protocol a → IsSkeleton protocol b → IsHomomorphism a b f → StandsIn b bundle h →
    (p : OrderPair) → IsIn p a.pairs → Precedes bundle (image_of a (through f h) p.earlier) (image_of a (through f h) p.later)
pair_follows protocol a b f bundle h ska skb hom stands p inp =
    subst₂ (Precedes bundle) (image_through a b f h hom p.earlier.strand p.earlier.index ste.0 ste.1) (image_through a b f h hom p.later.strand p.later.index stl.0 stl.1)
    (decide (ℕ_discrete (f.strands p.earlier.strand) (f.strands p.later.strand)))
  where
    op : IsOrderPair a p
    op = ska.order_pairs p inp

    ste : (st : SkeletonStrand) × (item_at a.strands p.earlier.strand ≡ Some st)
    ste = strand_of_event a.strands p.earlier (send op.sent) op.transmission

    stl : (st : SkeletonStrand) × (item_at a.strands p.later.strand ≡ Some st)
    stl = strand_of_event a.strands p.later (recv op.received) op.reception

    before : Before b (mapped f p.earlier) (mapped f p.later)
    before = hom.ordered p.earlier p.later (one_step (along_pair inp))

    ei : item_at (skeleton_trace ste.0) p.earlier.index ≡ Some (send op.sent)
    ei = rw ste.1 at op.transmission

    ej : item_at (skeleton_trace stl.0) p.later.index ≡ Some (recv op.received)
    ej = rw stl.1 at op.reception

    decide : Dec (f.strands p.earlier.strand ≡ f.strands p.later.strand) → Precedes bundle (image_of b h (mapped f p.earlier)) (image_of b h (mapped f p.later))
    decide (no ne) = stands.ordered (mapped f p.earlier) (mapped f p.later) before ne
    decide (yes same) = pair_together a b f bundle h hom stands skb.no_cycle p.earlier.strand p.earlier.index p.later.strand p.later.index op.sent op.received ste.0 stl.0 ste.1 stl.1 ei ej same before

-- Instances, listeners and assumptions.
instances_stand : (a b : Skeleton) (f : SkeletonMap) (bundle : Bundle) (h : Standing) → IsHomomorphism a b f → StandsIn b bundle h →
    (s : ℕ) (role : Role) (height : ℕ) (terms : List Binding) → item_at a.strands s ≡ Some (instance role height terms) → StandsOnRegular bundle (through f h) s role height terms
instances_stand a b f bundle h hom stands s role height terms at =
    let g : GoesToInstance b f s role height terms = hom.instances s role height terms at in
    let st : StandsOnRegular bundle h (f.strands s) role g.to_height g.to_terms = stands.instances (f.strands s) role g.to_height g.to_terms g.on_instance in
    record {
      at_start = st.at_start;
      to_height = st.to_height;
      to_values = st.to_values;
      on_regular = st.on_regular;
      at_least = le_trans g.at_least st.at_least;
      equal_values = λ x inx. after_further f.terms (as_substitution terms) (as_substitution g.to_terms) h.values (variable_term x) (g.equal_terms x inx) ∙ st.equal_values x (variables_of_higher role height g.to_height g.at_least x inx);
    }

uniques_stand : (protocol : Protocol) (a b : Skeleton) (f : SkeletonMap) (bundle : Bundle) (h : Standing) → IsSkeleton protocol a → IsHomomorphism a b f → StandsIn b bundle h →
    (u : UniqueAt) → IsIn u a.assumptions.uniquely_originating → KeepsUnique bundle.strands (atom (value_of_atom (after h.values f.terms) u.value)) (image_of a (through f h) u.origin)
uniques_stand protocol a b f bundle h ska hom stands u inu =
    let o = ska.origins u inu in
    let e = image_through a b f h hom u.origin.strand u.origin.index (instance o.role o.height o.terms) o.on_instance in
    subst₂ (λ (v : Atom) (n : Node). KeepsUnique bundle.strands (atom v) n) (sym (atom_after h.values f.terms u.value)) e
    (stands.unique (record { value = apply_to_atom f.terms u.value; origin = mapped f u.origin }) (hom.unique u inu))

-- The law.
pub standing_through : (protocol : Protocol) (a b : Skeleton) (f : SkeletonMap) (bundle : Bundle) (h : Standing) →
    IsSkeleton protocol a → IsSkeleton protocol b → IsHomomorphism a b f → StandsIn b bundle h → StandsIn a bundle (through f h)
standing_through protocol a b f bundle h ska skb hom stands = record {
  instances = instances_stand a b f bundle h hom stands;
  listeners = λ s t at. stands.listeners (f.strands s) (apply_to f.terms t) (hom.listeners s t at) ∙ ap (λ (m : Message). Some (recv m)) (sym (value_after h.values f.terms t));
  ordered = λ x y before ne. follows_apart (follows_path a bundle (through f h) (instances_stand a b f bundle h hom stands) (pair_follows protocol a b f bundle h ska skb hom stands) before) ne;
  non = λ v inv. subst (λ (w : Atom). KeepsNon bundle.strands (atom w)) (sym (atom_after h.values f.terms v)) (stands.non (apply_to_atom f.terms v) (hom.non v inv));
  penetrator_non = λ v inv. subst (λ (w : Atom). KeepsPenetratorNon bundle.strands (atom w)) (sym (atom_after h.values f.terms v)) (stands.penetrator_non (apply_to_atom f.terms v) (hom.penetrator_non v inv));
  unique = uniques_stand protocol a b f bundle h ska hom stands;
}
