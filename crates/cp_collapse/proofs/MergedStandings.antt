-- A skeleton whose strands are merged by the partition of a standing stands apart.
use Rattle.std.proofs.Common.{◌≡◌, ℕ, List, Option, Some, None, map, [], ◌∷◌, refl, sym, ap, ap₂, ◌∙◌, subst, subst₂}
use native.Mathlib.Decide.{ℕ_discrete}
use Rattle.cp_lists.specs.Lists.{item_at, IsIn, one_step}
use Rattle.cp_model.specs.Message.{Atom, Message, atom}
use Rattle.cp_model.specs.Term.{AtomTerm, Term, atom_term, value_of, value_of_atom, Substitution, apply_to, apply_to_atom, variable_term}
use Rattle.cp_model.specs.Bindings.{Binding, as_substitution}
use Rattle.cp_model.specs.Strand.{Role, Protocol}
use Rattle.cp_model.specs.declared.strand.Event.TheVariants.{Send as send, Receive as recv}
use Rattle.cp_model.specs.Bundle.{node_at, event_at, KeepsNon, KeepsPenetratorNon, KeepsUnique, Bundle, Precedes, IsBundle}
use Rattle.cp_model.specs.declared.node.Node.{Node}
use Rattle.cp_model.specs.Skeleton.{SkeletonStrand, instance, listener, UniqueAt, Skeleton, along_pair, Before, IsSkeleton}
use Rattle.cp_model.specs.declared.node.OrderPair.{OrderPair}
use Rattle.cp_model.specs.Standing.{Standing, image_of, StandsOnRegular, StandsIn, StandsApart}
use Rattle.cp_model.specs.Homomorphism.{FactorsThrough}
use Rattle.cp_lists.proofs.Items.{item_below}
use Rattle.cp_model.proofs.LawTerms.{value_after, term_composed}
use Rattle.cp_model.proofs.LawStandings.{strand_of_event}
use Rattle.cp_theory.proofs.Pairs.{ordered, no_cycle}
use Rattle.cp_collapse.specs.Partitions.{lowest_before, place_in, node_in}
use Rattle.cp_collapse.specs.Collapses.{IsCollapsed}
use Rattle.cp_collapse.proofs.AssumptionImages.{assumptions_are}
use Rattle.cp_collapse.proofs.Lowest.{low}
use Rattle.cp_collapse.proofs.Places.{own_entry, own_beyond, lowest_of, lowest_of_place, place_of_entry, place_beyond, strand_at_place}
use Rattle.cp_collapse.proofs.StandingPartition.{partition, is_partition, one_entry, alike_or_same, at_partition, partition_at, values_identified, together, goes_where_low_goes}

module _ (k : Skeleton) (b : Bundle) (h : Standing) (stands : StandsIn k b h) where
  abbrev p : List ℕ
  p = partition k h

  -- Each block goes where its lowest strand goes, and the values stay.
  abbrev pub on_blocks : Standing
  on_blocks = record { nodes = λ place. h.nodes (lowest_of p place); values = h.values }

  -- A strand goes where the lowest of its block goes.
  same_start : (s t : ℕ) (role : Role) (height : ℕ) (terms : List Binding) (role' : Role) (height' : ℕ) (terms' : List Binding) →
      item_at k.strands s ≡ Some (instance role height terms) → item_at k.strands t ≡ Some (instance role' height' terms') →
      (h.nodes s).strand ≡ (h.nodes t).strand → h.nodes s ≡ h.nodes t
  same_start s t role height terms role' height' terms' at au e i =
      record { strand = e i; index = ((stands.instances s role height terms at).at_start ∙ sym (stands.instances t role' height' terms' au).at_start) i }

  alike_start : (s : ℕ) → Dec (s ≡ low (together k h) s) → h.nodes (low (together k h) s) ≡ h.nodes s
  alike_start s (yes e) = ap h.nodes (sym e)
  alike_start s (no ne) =
      let a = alike_or_same k h b stands s ne in
      same_start (low (together k h) s) s a.role a.height' a.terms' a.role a.height a.terms a.second a.first (goes_where_low_goes k h s)

  entry_goes : (s : ℕ) (o : Option ℕ) → item_at p s ≡ o → h.nodes (lowest_of p (place_in p s)) ≡ h.nodes s
  entry_goes s None e = ap h.nodes (ap (lowest_of p) (place_beyond p s e) ∙ lowest_of_place p s (own_beyond p s e))
  entry_goes s (Some l) e =
      let low_is : low (together k h) s ≡ l = (at_partition k h s l e).1 in
      ap h.nodes (ap (lowest_of p) (place_of_entry p s l e) ∙ lowest_of_place p l (own_entry p l ((is_partition k h b stands).lowest s l e).1))
      ∙ ap h.nodes (sym low_is) ∙ alike_start s (ℕ_discrete s (low (together k h) s))

  pub goes_as_block : (s : ℕ) → on_blocks.nodes (place_in p s) ≡ h.nodes s
  goes_as_block s = entry_goes s (item_at p s) refl

  -- Strands that go to one strand have one place.
  pub one_place : (s t : ℕ) (role : Role) (height : ℕ) (terms : List Binding) (role' : Role) (height' : ℕ) (terms' : List Binding) →
      item_at k.strands s ≡ Some (instance role height terms) → item_at k.strands t ≡ Some (instance role' height' terms') →
      (h.nodes s).strand ≡ (h.nodes t).strand → place_in p s ≡ place_in p t
  one_place s t role height terms role' height' terms' at au e =
      let l = one_entry k h s t role height terms role' height' terms' at au e in
      place_of_entry p s (low (together k h) s) (partition_at k h s (item_below k.strands s (instance role height terms) at))
      ∙ ap (lowest_before p) l
      ∙ sym (place_of_entry p t (low (together k h) t) (partition_at k h t (item_below k.strands t (instance role' height' terms') au)))

  module _ (l : Skeleton) (c : IsCollapsed k p l) where
    abbrev f : Substitution
    f = c.unifier

    pub same_term : (t : Term) → value_of h.values (apply_to f t) ≡ value_of h.values t
    same_term t = sym (value_after h.values f t) ∙ c.most_general.general h.values (values_identified k h b stands) t

    same_atom : (v : AtomTerm) → value_of_atom h.values (apply_to_atom f v) ≡ value_of_atom h.values v
    same_atom v = let e : atom (value_of_atom h.values (apply_to_atom f v)) ≡ atom (value_of_atom h.values v) = same_term (atom_term v) in cc

    -- The merged strand stands where the tallest of its block does.
    instance_stands : (place : ℕ) (role : Role) (height : ℕ) (terms : List Binding) → item_at l.strands place ≡ Some (instance role height terms) → StandsOnRegular b on_blocks place role height terms
    instance_stands place role height terms at =
        let one = c.tallest place role height terms at in
        let go = c.instances one.strand role height one.terms one.on_instance in
        let e : Some (instance role go.to_height go.to_terms) ≡ Some (instance role height terms) = sym go.on_instance ∙ subst (λ (s : ℕ). item_at l.strands s ≡ Some (instance role height terms)) (sym one.at_place) at in
        let same : go.to_terms ≡ terms = cc in
        let node : on_blocks.nodes place ≡ h.nodes one.strand = ap on_blocks.nodes (sym one.at_place) ∙ goes_as_block one.strand in
        let st = stands.instances one.strand role height one.terms one.on_instance in
        record {
          at_start = ap (λ (n : Node). n.index) node ∙ st.at_start;
          to_height = st.to_height;
          to_values = st.to_values;
          on_regular = ap (λ (n : Node). item_at b.strands n.strand) node ∙ st.on_regular;
          at_least = st.at_least;
          equal_values = λ x inx.
              value_after h.values (as_substitution terms) (variable_term x)
              ∙ ap (value_of h.values) (ap (λ (d : List Binding). apply_to (as_substitution d) (variable_term x)) (sym same) ∙ sym (go.equal_terms x inx) ∙ term_composed (as_substitution one.terms) f (variable_term x))
              ∙ same_term (apply_to (as_substitution one.terms) (variable_term x))
              ∙ sym (value_after h.values (as_substitution one.terms) (variable_term x))
              ∙ st.equal_values x inx;
        }

    listener_there : (place s : ℕ) (t : Term) (st : SkeletonStrand) → item_at l.strands place ≡ Some (listener t) → place_in p s ≡ place → item_at k.strands s ≡ Some st → event_at b.strands (on_blocks.nodes place) ≡ Some (recv (value_of h.values t))
    listener_there place s t (instance role height terms) at here own =
        let go = c.instances s role height terms own in
        let e : Some (instance role go.to_height go.to_terms) ≡ Some (listener t) = sym go.on_instance ∙ subst (λ (n : ℕ). item_at l.strands n ≡ Some (listener t)) (sym here) at in
        absurd (cc)
    listener_there place s t (listener u) at here own =
        let e : Some (listener (apply_to f u)) ≡ Some (listener t) = sym (c.listeners s u own) ∙ subst (λ (n : ℕ). item_at l.strands n ≡ Some (listener t)) (sym here) at in
        let same : apply_to f u ≡ t = cc in
        ap (event_at b.strands) (ap on_blocks.nodes (sym here) ∙ goes_as_block s) ∙ stands.listeners s u own ∙ ap (λ (m : Message). Some (recv m)) (sym (same_term u) ∙ ap (value_of h.values) same)

    listener_stands : (place : ℕ) (t : Term) → item_at l.strands place ≡ Some (listener t) → event_at b.strands (on_blocks.nodes place) ≡ Some (recv (value_of h.values t))
    listener_stands place t at =
        let own = strand_at_place k.strands l.strands p (is_partition k h b stands).each c.count place (listener t) at in
        listener_there place own.0 t own.1 at own.2 own.3

    image_there : (n : Node) (st : SkeletonStrand) → item_at k.strands n.strand ≡ Some st → image_of l on_blocks (node_in p n) ≡ image_of k h n
    image_there n (instance role height terms) at = rw (at, (c.instances n.strand role height terms at).on_instance) (ap (λ (m : Node). node_at m.strand n.index) (goes_as_block n.strand))
    image_there n (listener t) at = rw (at, c.listeners n.strand t at) (goes_as_block n.strand)

    module _ (protocol : Protocol) (sk : IsSkeleton protocol k) where
      pair_precedes : (q : OrderPair) → IsIn q k.pairs → Precedes b (image_of l on_blocks (node_in p q.earlier)) (image_of l on_blocks (node_in p q.later))
      pair_precedes q inq =
          let o = sk.order_pairs q inq in
          let e = strand_of_event k.strands q.earlier (send o.sent) o.transmission in
          let d = strand_of_event k.strands q.later (recv o.received) o.reception in
          subst₂ (Precedes b) (sym (image_there q.earlier e.0 e.1)) (sym (image_there q.later d.0 d.1)) (stands.ordered q.earlier q.later (one_step (along_pair inq)) o.between_strands)

      pub merged_precedes : (r : OrderPair) → IsIn r l.pairs → Precedes b (image_of l on_blocks r.earlier) (image_of l on_blocks r.later)
      merged_precedes r listed =
          let q = ((c.pairs r).0 listed).0 in
          subst (λ (d : OrderPair). Precedes b (image_of l on_blocks d.earlier) (image_of l on_blocks d.later)) q.2 (pair_precedes q.0 q.1)

      unique_stands : (w : UniqueAt) → IsIn w l.assumptions.uniquely_originating → KeepsUnique b.strands (atom (value_of_atom h.values w.value)) (image_of l on_blocks w.origin)
      unique_stands w inw =
          let u = ((assumptions_are k l p c).unique w).0 inw in
          let o = sk.origins u.0 u.1 in
          subst (λ (d : UniqueAt). KeepsUnique b.strands (atom (value_of_atom h.values d.value)) (image_of l on_blocks d.origin)) u.2
          (subst₂ (λ (a : Atom) (n : Node). KeepsUnique b.strands (atom a) n) (sym (same_atom u.0.value)) (sym (image_there u.0.origin (instance o.role o.height o.terms) o.on_instance)) (stands.unique u.0 u.1))

      pub merged_stands : StandsIn l b on_blocks
      merged_stands = record {
        instances = instance_stands;
        listeners = listener_stands;
        ordered = ordered l b on_blocks instance_stands merged_precedes;
        non = λ v inv.
            let w = ((assumptions_are k l p c).non v).0 inv in
            subst (λ (a : Atom). KeepsNon b.strands (atom a)) (sym (same_atom w.0) ∙ ap (value_of_atom h.values) w.2) (stands.non w.0 w.1);
        penetrator_non = λ v inv.
            let w = ((assumptions_are k l p c).penetrator_non v).0 inv in
            subst (λ (a : Atom). KeepsPenetratorNon b.strands (atom a)) (sym (same_atom w.0) ∙ ap (value_of_atom h.values) w.2) (stands.penetrator_non w.0 w.1);
        unique = unique_stands;
      }

      pub merged_never_circles : IsBundle protocol b → (n : Node) → Before l n n → ⊥
      merged_never_circles is n before = no_cycle l b on_blocks instance_stands merged_precedes protocol n is before

    pub merged_apart : StandsApart l on_blocks
    merged_apart a d role height terms role' height' terms' at au e =
        let one = c.tallest a role height terms at in
        let two = c.tallest d role' height' terms' au in
        let node : on_blocks.nodes a ≡ h.nodes one.strand = ap on_blocks.nodes (sym one.at_place) ∙ goes_as_block one.strand in
        let node' : on_blocks.nodes d ≡ h.nodes two.strand = ap on_blocks.nodes (sym two.at_place) ∙ goes_as_block two.strand in
        sym one.at_place
        ∙ one_place one.strand two.strand role height one.terms role' height' two.terms one.on_instance two.on_instance (ap (λ (n : Node). n.strand) (sym node) ∙ e ∙ ap (λ (n : Node). n.strand) node')
        ∙ two.at_place

    nodes_factor : (ss : List ℕ) → map h.nodes ss ≡ map on_blocks.nodes (map (place_in p) ss)
    nodes_factor [] = refl
    nodes_factor (s ∷ ss) = ap₂ ◌∷◌ (sym (goes_as_block s)) (nodes_factor ss)

    values_factor : (ts : List Term) → map (value_of h.values) ts ≡ map (value_of h.values) (map (apply_to f) ts)
    values_factor [] = refl
    values_factor (t ∷ ts) = ap₂ ◌∷◌ (sym (same_term t)) (values_factor ts)

    pub merged_factors : FactorsThrough k h l on_blocks
    merged_factors = record {
      strands = nodes_factor k.from_problem.strands ∙ ap (map on_blocks.nodes) (sym c.from_problem.strands);
      values = values_factor k.from_problem.values ∙ ap (map (value_of h.values)) (sym c.from_problem.values);
    }
