-- A skeleton of which all nodes have happened stands in the bundle, with no order beyond its own.
use Rattle.std.proofs.Common.{◌≡◌, ◌≢◌, ℕ, zero, suc, List, Some, refl, sym, ap, ◌∙◌, subst, ◌⊎◌, inl, inr, le_refl, arith}
use Rattle.cp_lists.specs.Lists.{item_at, IsIn, one_step, more_steps}
use Rattle.cp_model.specs.Message.{atom}
use Rattle.cp_model.specs.Term.{Term, value_of, value_of_atom, after}
use Rattle.cp_model.specs.Bindings.{Binding, as_substitution}
use Rattle.cp_model.specs.Strand.{Role, Protocol, event_map}
use Rattle.cp_model.specs.declared.strand.Event.{Event}
use Rattle.cp_model.specs.declared.strand.Event.TheVariants.{Send as send, Receive as recv}
use Rattle.cp_model.specs.Bundle.{node_at, trace_or_none, KeepsUnique, Precedes}
use Rattle.cp_model.specs.declared.node.Node.{Node}
use Rattle.cp_model.specs.Skeleton.{SkeletonStrand, instance, listener, skeleton_trace, skeleton_trace_or_none, term_event_at, IsNodeOf, UniqueAt, Skeleton, OrderStep, along_strand_of, along_pair, Before, IsSkeleton}
use Rattle.cp_model.specs.Realisation.{AllDerivable, KeepsAssumptions}
use Rattle.cp_model.specs.Standing.{image_of, StandsOnRegular, StandsIn, IsRealised}
use Rattle.cp_lists.proofs.Items.{item_before}
use Rattle.cp_lists.proofs.Reached.{steps_append}
use Rattle.cp_model.proofs.LawStandings.{strand_of_event, event_on}
use Rattle.cp_model.proofs.SingleBundle.{own_number, own_numbers_distinct}
use Rattle.cp_theory.proofs.SameNodes.{same_node}
use Rattle.cp_theory.proofs.Sorted.{IsUp, IsPair, step_cases, nodes_in_order}
use Rattle.cp_theory.proofs.Histories.{Entry, Leads, AtOrBefore, HasHappened}
use Rattle.cp_theory.proofs.States.{own_values, own_standing, home, State}
use Rattle.cp_theory.proofs.Derivations.{image_event}
use Rattle.cp_theory.proofs.WovenNodes.{image_at, step_on}
use Rattle.cp_theory.proofs.PlacedNodes.{all_placed}
use Rattle.cp_theory.proofs.Kept.{regular_of, keeps_non, keeps_penetrator_non, keeps_unique, of_protocol}
use Rattle.cp_theory.proofs.Bundles.{the_bundle, precedes, happened_before, is_bundle}

home_strand : (s : SkeletonStrand) (n : Node) → (home s n).strand ≡ n.strand
home_strand (instance role height terms) n = refl
home_strand (listener t) n = refl

module _ (protocol : Protocol) (k : Skeleton) (is : IsSkeleton protocol k) (ns : List Node) (all : (n : Node) → IsNodeOf k.strands n → IsIn n ns) (st : State k ns) where
  -- Images of nodes, one of which is before the other.
  abbrev Follows : Node → Node → Type 0
  Follows x y = ((image_of k own_standing x ≡ image_of k own_standing y) × (x.strand ≡ y.strand)) ⊎ Leads st.entries (image_of k own_standing x) (image_of k own_standing y)

  follows_both : (x y z : Node) → Follows x y → Follows y z → Follows x z
  follows_both x y z (inl p) (inl q) = inl (p.0 ∙ q.0, p.1 ∙ q.1)
  follows_both x y z (inl p) (inr q) = inr (subst (λ w. Leads st.entries w (image_of k own_standing z)) (sym p.0) q)
  follows_both x y z (inr p) (inl q) = inr (subst (Leads st.entries (image_of k own_standing x)) q.0 p)
  follows_both x y z (inr p) (inr q) = inr (steps_append p q)

  up : (s i : ℕ) (e : Event Term) → term_event_at k.strands (node_at s (suc i)) ≡ Some e → Follows (node_at s i) (node_at s (suc i))
  up s i e ev = let r = strand_of_event k.strands (node_at s (suc i)) e ev in of r.0 r.1
    where
      of : (ss : SkeletonStrand) → item_at k.strands s ≡ Some ss → Follows (node_at s i) (node_at s (suc i))
      of (listener t) on = inl (image_at k (node_at s i) (listener t) on ∙ sym (image_at k (node_at s (suc i)) (listener t) on), refl)
      of (instance role height terms) on =
          let at = image_event role height terms (suc i) e (event_on k (node_at s (suc i)) (instance role height terms) e on ev) in
          let h = st.done (node_at s (suc i)) (instance role height terms) (event_map (value_of own_values) e) on at (all (node_at s (suc i)) (e, ev)) in
          let x = image_at k (node_at s i) (instance role height terms) on in
          let y = image_at k (node_at s (suc i)) (instance role height terms) on in
          inr (subst (λ w. Leads st.entries w (image_of k own_standing (node_at s (suc i)))) (sym x) (subst (Leads st.entries (node_at s i)) (sym y) (one_step (step_on h))))

  follows_step : {x y : Node} → OrderStep k x y → Follows x y
  follows_step (along_strand_of {s = s} {i = i} {e = e} ev) = up s i e ev
  follows_step (along_pair {p = p} h) =
      let o = is.order_pairs p h in
      inr (st.woven p h (all p.later (recv o.received, o.reception)))

  follows : {x y : Node} → Before k x y → Follows x y
  follows (one_step s) = follows_step s
  follows {x} {y = z} (more_steps {y = y} s p) = follows_both x y z (follows_step s) (follows p)

  ordered : (x y : Node) → Before k x y → x.strand ≢ y.strand → Precedes (the_bundle k ns all st) (image_of k own_standing x) (image_of k own_standing y)
  ordered x y h ne = of (follows h)
    where
      of : Follows x y → Precedes (the_bundle k ns all st) (image_of k own_standing x) (image_of k own_standing y)
      of (inl p) = absurd (ne p.1)
      of (inr p) = precedes k ns all st p

  -- A node of another strand that comes after a listener's reception comes after its transmission.
  module _ (s : ℕ) (t : Term) (on : item_at k.strands s ≡ Some (listener t)) where
    to_next : {x y : Node} → OrderStep k x y → x ≡ node_at s 0 → y ≡ node_at s 1
    to_next {x} {y} step q = of (step_cases k step)
      where
        reception : term_event_at k.strands (node_at s 0) ≡ Some (recv t)
        reception = subst (λ o. item_at (skeleton_trace_or_none o) 0 ≡ Some (recv t)) (sym on) refl

        of : IsUp k x y ⊎ IsPair k.pairs x y → y ≡ node_at s 1
        of (inl u) = same_node (sym u.0.0 ∙ ap (λ (n : Node). n.strand) q) (u.0.1 ∙ ap (λ (n : Node). suc n.index) q)
        of (inr r) =
            let o = is.order_pairs r.0 r.1 in
            let sent : term_event_at k.strands (node_at s 0) ≡ Some (send o.sent) = subst (λ n. term_event_at k.strands n ≡ Some (send o.sent)) (r.2 ∙ q) o.transmission in
            absurd (cc)

    after_reception : {x z : Node} → Before k x z → x ≡ node_at s 0 → z.strand ≢ s → Before k (node_at s 1) z
    after_reception (one_step step) q ne = absurd (ne (ap (λ (n : Node). n.strand) (to_next step q)))
    after_reception {z = z} (more_steps step p) q ne = subst (λ n. Before k n z) (to_next step q) p

    to_end : (x : Node) (e : Event Term) (i : ℕ) → x.strand ≡ s → x.index ≡ i → item_at (skeleton_trace (listener t)) i ≡ Some e → (x ≡ node_at s 0) ⊎ (x ≡ node_at s 1)
    to_end x e zero a b h = inl (same_node a b)
    to_end x e (suc zero) a b h = inr (same_node a b)
    to_end x e (suc (suc i)) a b h = absurd (cc)

  -- What a node's image is before, and what is before it, on other strands.
  from_home : (s : SkeletonStrand) (x z : Node) → item_at k.strands x.strand ≡ Some s → IsNodeOf k.strands x → x.strand ≢ z.strand → Before k (home s x) z → Before k x z
  from_home (instance role height terms) x z on nx ne p = p
  from_home (listener t) x z on nx ne p = of (to_end x.strand t on x nx.0 x.index refl refl (event_on k x (listener t) nx.0 on nx.1))
    where
      of : (x ≡ node_at x.strand 0) ⊎ (x ≡ node_at x.strand 1) → Before k x z
      of (inl q) = subst (λ n. Before k n z) (sym q) p
      of (inr q) = subst (λ n. Before k n z) (sym q) (after_reception x.strand t on p refl (λ e. ne (sym e)))

  to_home : (s : SkeletonStrand) (y z : Node) → item_at k.strands y.strand ≡ Some s → IsNodeOf k.strands y → Before k z (home s y) → Before k z y
  to_home (instance role height terms) y z on ny p = p
  to_home (listener t) y z on ny p = of (to_end y.strand t on y ny.0 y.index refl refl (event_on k y (listener t) ny.0 on ny.1))
    where
      of : (y ≡ node_at y.strand 0) ⊎ (y ≡ node_at y.strand 1) → Before k z y
      of (inl q) = subst (Before k z) (sym q) p
      of (inr q) =
          let last : term_event_at k.strands (node_at y.strand 1) ≡ Some ny.0 = subst (λ n. term_event_at k.strands n ≡ Some ny.0) q ny.1 in
          subst (Before k z) (sym q) (steps_append p (one_step (along_strand_of last)))

  -- The image of a node has happened, for its home.
  image_happened : (s : SkeletonStrand) (x : Node) → item_at k.strands x.strand ≡ Some s → IsNodeOf k.strands x → HasHappened st.entries (home s x)
  image_happened (instance role height terms) x on nx =
      st.done x (instance role height terms) (event_map (value_of own_values) nx.0) on (image_event role height terms x.index nx.0 (event_on k x (instance role height terms) nx.0 on nx.1)) (all x nx)
  image_happened (listener t) x on nx =
      st.done (node_at x.strand 0) (listener t) (recv (value_of own_values t)) on refl
      (all (node_at x.strand 0) (recv t, subst (λ o. item_at (skeleton_trace_or_none o) 0 ≡ Some (recv t)) (sym on) refl))

  home_twice : (s : SkeletonStrand) (x : Node) → home s (home s x) ≡ home s x
  home_twice (instance role height terms) x = refl
  home_twice (listener t) x = refl

  label_of : (s : SkeletonStrand) (x : Node) → item_at k.strands x.strand ≡ Some s → (e : Entry) → IsIn e st.entries → e.node ≡ home s x → e.label ≡ home s x
  label_of s x on e h q =
      let there : item_at k.strands e.node.strand ≡ Some s = subst (λ a. item_at k.strands a ≡ Some s) (sym (ap (λ (n : Node). n.strand) q ∙ home_strand s x)) on in
      (st.homes e s h there).1 ∙ ap (home s) q ∙ home_twice s x

  no_more_order : (x y : Node) → IsNodeOf k.strands x → IsNodeOf k.strands y → x.strand ≢ y.strand →
      Precedes (the_bundle k ns all st) (image_of k own_standing x) (image_of k own_standing y) → Before k x y
  no_more_order x y nx ny ne p =
      let a = strand_of_event k.strands x nx.0 nx.1 in
      let b = strand_of_event k.strands y ny.0 ny.1 in
      let p' : Precedes (the_bundle k ns all st) (home a.0 x) (home b.0 y) =
      subst (Precedes (the_bundle k ns all st) (home a.0 x)) (image_at k y b.0 b.1) (subst (λ w. Precedes (the_bundle k ns all st) w (image_of k own_standing y)) (image_at k x a.0 a.1) p) in
      let h = image_happened b.0 y b.1 ny in
      let r = happened_before k ns all st p' h.entry h.listed h.same in
      let before = subst (AtOrBefore k r.entry.label) (label_of b.0 y b.1 h.entry h.listed h.same) r.before in
      of a.0 b.0 a.1 b.1 (subst (λ w. AtOrBefore k w (home b.0 y)) (label_of a.0 x a.1 r.entry r.listed r.same) before)
    where
      of : (s t : SkeletonStrand) → item_at k.strands x.strand ≡ Some s → item_at k.strands y.strand ≡ Some t → AtOrBefore k (home s x) (home t y) → Before k x y
      of s t on on' (inl q) = absurd (ne (sym (home_strand s x) ∙ ap (λ (n : Node). n.strand) q ∙ home_strand t y))
      of s t on on' (inr q) = from_home s x y on nx ne (to_home t y (home s x) on' ny q)

  stands_on : (s : ℕ) (role : Role) (height : ℕ) (terms : List Binding) → item_at k.strands s ≡ Some (instance role height terms) → StandsOnRegular (the_bundle k ns all st) own_standing s role height terms
  stands_on s role height terms on = record {
    at_start = refl;
    to_height = height;
    to_values = after own_values (as_substitution terms);
    on_regular = st.own s (instance role height terms) on;
    at_least = le_refl height;
    equal_values = λ x h. refl;
  }

  unique_at : KeepsAssumptions k → (u : UniqueAt) → IsIn u k.assumptions.uniquely_originating → KeepsUnique st.strands (atom (value_of_atom own_values u.value)) (image_of k own_standing u.origin)
  unique_at keeps u h =
      let o = is.origins u h in
      subst (KeepsUnique st.strands (atom (value_of_atom own_values u.value))) (sym (image_at k u.origin (instance o.role o.height o.terms) o.on_instance)) (keeps_unique k ns st keeps u h)

  stands : KeepsAssumptions k → StandsIn k (the_bundle k ns all st) own_standing
  stands keeps = record {
    instances = stands_on;
    listeners = λ s t on. subst (λ o. item_at (trace_or_none o) 0 ≡ Some (recv (value_of own_values t))) (sym (st.own s (listener t) on)) refl;
    ordered = ordered;
    non = keeps_non k ns st keeps;
    penetrator_non = keeps_penetrator_non k ns st keeps;
    unique = unique_at keeps;
  }

  is_realised : KeepsAssumptions k → IsRealised protocol k
  is_realised keeps = record {
    bundle = the_bundle k ns all st;
    is_bundle = is_bundle k ns all st protocol (of_protocol k ns st keeps protocol is);
    nodes = λ s. node_at s 0;
    number = own_number;
    distinct = own_numbers_distinct;
    stands = stands keeps;
    apart = λ s t role height terms role' height' terms' a b same. same;
    regular_strands = λ t role height g h.
        let r = regular_of k ns st t role height g h in
        record { strand = t; role = role; terms = r.0; on_instance = r.1; goes_to = refl };
    no_more_order = no_more_order;
  }

-- A node before one of the skeleton's is one of them.
earlier_node : (protocol : Protocol) (k : Skeleton) → IsSkeleton protocol k → {x y : Node} → OrderStep k x y → IsNodeOf k.strands x
earlier_node protocol k is (along_strand_of {s = s} {i = i} {e = e} h) = item_before (skeleton_trace_or_none (item_at k.strands s)) i (suc i) e h (omega arith)
earlier_node protocol k is (along_pair {p = p} h) = let o = is.order_pairs p h in (send o.sent, o.transmission)

pub realised : (protocol : Protocol) (k : Skeleton) → IsSkeleton protocol k → KeepsAssumptions k → AllDerivable k → IsRealised protocol k
realised protocol k is keeps derivable =
    let order = nodes_in_order k is.no_cycle in
    is_realised protocol k is order.items order.each (all_placed protocol k is derivable order.items order.sorted (λ x y s h. order.each x (earlier_node protocol k is s)) order.only) keeps
