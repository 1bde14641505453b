-- The least weights that rise along all pairs are those of the heaviest chains.
use Rattle.std.proofs.Common.{◌≡◌, ◌⊎◌, inl, inr, ℕ, zero, suc, ◌+◌, ◌-◌, ◌<◌, ◌≤◌, ◌^◌, Bool, true, false, if◌then◌else◌, List, [], ◌∷◌, ◌++◌, length, get_or, map, take, replicate, refl, sym, ap, ◌∙◌, subst, subst₂, arith}
use Rattle.std.specs.Prelude.{Option, Some, None}
use Rattle.std.proofs.lemmas.List.{length-map, length-take-le}
use Rattle.cp_lists.specs.Lists.{item_at, IsIn, here, there}
use Rattle.cp_lists.proofs.Fronts.{none_taken}
use Rattle.cp_lists.proofs.Items.{item_there, item_below, item_of_map, item_of_take, there_or_none}
use Rattle.cp_model.specs.Term.{Term, apply_to}
use Rattle.cp_model.specs.Bindings.{as_substitution}
use Rattle.cp_model.specs.Bundle.{node_at}
use Rattle.cp_model.specs.Same.{same_node}
use Rattle.cp_model.specs.Skeleton.{SkeletonStrand, instance, listener, skeleton_trace, skeleton_trace_or_none, term_event_at, IsNodeOf, Skeleton, OrderStep, along_strand_of, along_pair}
use Rattle.cp_model.specs.Strand.{event_map, prefix_of}
use Rattle.cp_model.specs.declared.node.Node.{Node}
use Rattle.cp_model.specs.declared.node.OrderPair.{OrderPair}
use Rattle.cp_model.specs.declared.strand.Event.{Event}
use Rattle.cp_model.specs.declared.strand.Event.TheVariants.{Send as send, Receive as recv}
use Rattle.cp_model.proofs.SameTests.{node_is}
use Rattle.cp_skel.specs.Sound.{IsSound}
use Rattle.cp_fingerprint.specs.SharedValues.{kept}
use Rattle.cp_fingerprint.specs.Chains.{greatest, one_behind, along_strand, along_pairs, heaviest_within, heaviest, chains_on, chains_to, chains_from, chains_of}
use Rattle.cp_fingerprint.specs.ChainTable.{places_on, starts_from, place_on, place_in, weight_on, weight_in, EndWithin, Bounds, AreSettled, Settles, weights_on, weights_of, weights_from}
use Rattle.cp_fingerprint.proofs.ChainPlaces.{places_of_all, start_of, start_first, start_next, start_within, start_found, place_below, place_is, end_is, node_of, node_back}
use Rattle.cp_fingerprint.proofs.ChainRounds.{weight_below}
use Rattle.cp_fingerprint.proofs.HeaviestChains.{greatest_is, heaviest_bounded, step_rises}

-- The strand has a place with this index.
record HasPlace (ss : List SkeletonStrand) (y : Node) : Type 0 where
  strand : SkeletonStrand
  at : item_at ss y.strand ≡ Some strand
  within : y.index < places_on strand

-- ---- nodes have places, and places are of nodes

events_within : (x : SkeletonStrand) (i : ℕ) (e : Event Term) → item_at (skeleton_trace x) i ≡ Some e → i < places_on x
events_within (instance role height terms) i e at =
    let h = item_of_map (event_map (apply_to (as_substitution terms))) (prefix_of role height) i e at in
    (item_of_take height role.trace i h.0 h.1).0
events_within (listener t) i e at = item_below (recv t ∷ send t ∷ []) i e at

has_place : (ss : List SkeletonStrand) (y : Node) → IsNodeOf ss y → HasPlace ss y
has_place ss y there_is = by (there_or_none (item_at ss y.strand))
  where
    by : ((x : SkeletonStrand) × (item_at ss y.strand ≡ Some x)) ⊎ (item_at ss y.strand ≡ None) → HasPlace ss y
    by (inl h) = record { strand = h.0; at = h.1; within = events_within h.0 y.index there_is.0 (ap (λ (o : Option SkeletonStrand). item_at (skeleton_trace_or_none o) y.index) (sym h.1) ∙ there_is.1) }
    by (inr none) = absurd (let e : None ≡ Some there_is.0 = ap (λ (o : Option SkeletonStrand). item_at (skeleton_trace_or_none o) y.index) (sym none) ∙ there_is.1 in cc)

module _ (k : Skeleton) (sound : IsSound k) where
  event_there : (s i : ℕ) (x : SkeletonStrand) → item_at k.strands s ≡ Some x → i < places_on x → (e : Event Term) × (item_at (skeleton_trace x) i ≡ Some e)
  event_there s i (listener t) at l = item_there (recv t ∷ send t ∷ []) i l
  event_there s i (instance role height terms) at l =
      let h = sound.skeleton.heights s role height terms at in
      let long : length (map (event_map (apply_to (as_substitution terms))) (prefix_of role height)) ≡ height =
      length-map (prefix_of role height) (event_map (apply_to (as_substitution terms))) ∙ length-take-le height role.trace h.1 in
      item_there (map (event_map (apply_to (as_substitution terms))) (prefix_of role height)) i (omega (arith, l, long))

  node_there : (s i : ℕ) (x : SkeletonStrand) → item_at k.strands s ≡ Some x → i < places_on x → IsNodeOf k.strands (node_at s i)
  node_there s i x at l = let h = event_there s i x at l in (h.0, ap (λ (o : Option SkeletonStrand). item_at (skeleton_trace_or_none o) i) at ∙ h.1)

  -- Each place up to that of a node is of a node.
  node_before : (y : Node) (i : ℕ) → IsNodeOf k.strands y → i ≤ y.index → IsNodeOf k.strands (node_at y.strand i)
  node_before y i n le = let h = has_place k.strands y n in node_there y.strand i h.strand h.at (let l = h.within in omega (arith, l, le))

  earlier_there : (p : OrderPair) → IsIn p k.pairs → IsNodeOf k.strands p.earlier
  earlier_there p m = let h = sound.skeleton.order_pairs p m in (send h.sent, h.transmission)

  later_there : (p : OrderPair) → IsIn p k.pairs → IsNodeOf k.strands p.later
  later_there p m = let h = sound.skeleton.order_pairs p m in (recv h.received, h.reception)

  abbrev starts : List ℕ
  starts = starts_from 0 k.strands

  -- The weight of the heaviest chain to the node at a place.
  abbrev bound : ℕ → ℕ
  bound p = heaviest k (node_of 0 k.strands p)

  module _ (fits : places_of_all k.strands < 2 ^ 64) where
    found : (y : Node) → IsNodeOf k.strands y → place_in starts y ≡ start_of k.strands y.strand + y.index
    found y n = let h = has_place k.strands y n in place_is k.strands fits y h.strand h.at h.within

    back : (y : Node) → IsNodeOf k.strands y → node_of 0 k.strands (place_in starts y) ≡ y
    back y n = let h = has_place k.strands y n in node_back 0 k.strands y.strand y.index y.strand (place_in starts y) h.strand h.at h.within (omega arith) (found y n)

    pub ends_within : EndWithin (places_of_all k.strands) starts k.pairs
    ends_within p m =
        let n = later_there p m in
        let h = has_place k.strands p.later n in
        let e = found p.later n in
        let below = place_below k.strands p.later.strand p.later.index h.strand h.at h.within in
        omega (arith, e, below)

    rises_between : (x y : Node) → IsNodeOf k.strands x → IsNodeOf k.strands y → OrderStep k x y → kept (bound (place_in starts x) + 1) ≤ bound (place_in starts y)
    rises_between x y m n s = subst₂ (λ (u v : Node). kept (heaviest k u + 1) ≤ heaviest k v) (sym (back x m)) (sym (back y n)) (step_rises k x y s)

    rises_up_to : (y : Node) → IsNodeOf k.strands y → (i : ℕ) → i < y.index → kept (bound (place_in starts (node_at y.strand i)) + 1) ≤ bound (place_in starts (node_at y.strand (suc i)))
    rises_up_to y n i l =
        let next = node_before y (suc i) n l in
        rises_between (node_at y.strand i) (node_at y.strand (suc i)) (node_before y i n (omega (arith, l))) next (along_strand_of next.1)

    -- The weights of heaviest chains bound others.
    heaviest_bounds : (p : OrderPair) → IsIn p k.pairs → Bounds starts bound p
    heaviest_bounds p m = record {
      along_strand = rises_up_to p.earlier (earlier_there p m);
      along_pair = rises_between p.earlier p.later (earlier_there p m) (later_there p m) (along_pair m);
    }

    module _ (ws : List ℕ) (settled : AreSettled starts k.pairs ws) where
      abbrev at_node : Node → ℕ
      at_node y = weight_in starts ws y

      own_within : (start i : ℕ) → get_or ws (place_on start i) 0 ≤ weight_on ws start i
      own_within start zero = omega arith
      own_within start (suc i) = omega arith

      -- ---- weights that rise along all pairs are no less than those of heaviest chains

      module _ (m : ℕ) (small : m < 2 ^ 64 - 1) (no_less : (y : Node) → IsNodeOf k.strands y → heaviest_within k m y ≤ at_node y) where
        abbrev weight : Node → ℕ
        weight y = heaviest_within k m y

        -- One more than the weight of a node is no more than what stands where the step leads.
        more_than : (x : Node) (n : ℕ) → IsNodeOf k.strands x → kept (at_node x + 1) ≤ n → suc (weight x) ≤ n
        more_than x n there_is le =
            let h = no_less x there_is in
            let b = heaviest_bounded k m x in
            omega (arith, h, b, small, le)

        strand_no_less : (s i : ℕ) → IsNodeOf k.strands (node_at s i) → along_strand k weight s i ≤ at_node (node_at s i)
        strand_no_less s zero n = omega arith
        strand_no_less s (suc i) n =
            let more = more_than (node_at s i) (at_node (node_at s (suc i))) (node_before (node_at s (suc i)) i n (omega arith)) (omega arith) in
            let e : one_behind (term_event_at k.strands (node_at s (suc i))) (weight (node_at s i)) ≡ suc (weight (node_at s i)) = ap (λ (o : Option (Event Term)). one_behind o (weight (node_at s i))) n.1 in
            omega (arith, more, e)

        pair_no_less : (y : Node) (p : OrderPair) → IsIn p k.pairs → (b : Bool) → same_node p.later y ≡ b → (if b then suc (weight p.earlier) else 0) ≤ at_node y
        pair_no_less y p i true e =
            let rise = settled p i in
            let own = own_within (get_or starts p.later.strand 0) p.later.index in
            subst (λ (z : Node). suc (weight p.earlier) ≤ at_node z) (node_is p.later y e) (more_than p.earlier (at_node p.later) (earlier_there p i) (omega (arith, rise, own)))
        pair_no_less y p i false e = omega arith

        pairs_no_less : (y : Node) (ps : List OrderPair) → ((p : OrderPair) → IsIn p ps → IsIn p k.pairs) → along_pairs weight y ps ≤ at_node y
        pairs_no_less y [] among = omega arith
        pairs_no_less y (p ∷ ps) among =
            let one = pair_no_less y p (among p here) (same_node p.later y) refl in
            let rest = pairs_no_less y ps (λ q i. among q (there i)) in
            omega (arith, one, rest)

      all_no_less : (m : ℕ) → m ≤ 2 ^ 64 - 1 → (y : Node) → IsNodeOf k.strands y → heaviest_within k m y ≤ at_node y
      all_no_less zero small y n = omega arith
      all_no_less (suc m) small y n =
          let less : m < 2 ^ 64 - 1 = omega (arith, small) in
          let so_far = all_no_less m (omega (arith, small)) in
          let one = strand_no_less m less so_far y.strand y.index n in
          let other = pairs_no_less m less so_far y k.pairs (λ p i. i) in
          omega (arith, one, other)

      module _ (no_more : (p : ℕ) → get_or ws p 0 ≤ bound p) where
        -- The weight of each node is that of the heaviest chain that leads to it.
        at_each_node : (y : Node) → IsNodeOf k.strands y → at_node y ≡ heaviest k y
        at_each_node y n =
            let one : heaviest k y ≤ at_node y = all_no_less greatest (let e = greatest_is in omega (arith, e)) y n in
            let other : at_node y ≤ heaviest k y =
            subst (λ (z : Node). at_node y ≤ heaviest k z) (back y n) (weight_below ws bound (get_or starts y.strand 0) y.index no_more (rises_up_to y n) y.index (omega arith)) in
            omega (arith, one, other)

        on_strand : (s n start : ℕ) (x : SkeletonStrand) → item_at k.strands s ≡ Some x → start ≡ get_or starts s 0 → n ≤ places_on x → (m : ℕ) → m < 2 ^ 64 → weights_on ws start m n ≡ kept (m + chains_on k s n)
        on_strand s zero start x at e l m small = omega (arith, small)
        on_strand s (suc n) start x at e l m small =
            let so_far = on_strand s n start x at e (omega (arith, l)) m small in
            let w : weight_on ws start n ≡ heaviest k (node_at s n) = ap (λ (q : ℕ). weight_on ws q n) e ∙ at_each_node (node_at s n) (node_there s n x at (omega (arith, l))) in
            omega (arith, so_far, w)

        on_kind : (s start : ℕ) (x : SkeletonStrand) → item_at k.strands s ≡ Some x → start ≡ start_of k.strands s → (m : ℕ) → m < 2 ^ 64 → weights_of ws start m x ≡ kept (m + chains_to k s x)
        on_kind s start (instance role height terms) at e m small =
            on_strand s height start (instance role height terms) at (e ∙ sym (start_found k.strands fits s (instance role height terms) at)) (omega arith) m small
        on_kind s start (listener t) at e m small = omega (arith, small)

        -- The weights of the strands from number s on.
        from_strand : (xs : List SkeletonStrand) (s start m : ℕ) → ((t : ℕ) (x : SkeletonStrand) → item_at xs t ≡ Some x → item_at k.strands (s + t) ≡ Some x) → start ≡ start_of k.strands s → m < 2 ^ 64 →
            weights_from ws start m xs ≡ kept (m + chains_from k s xs)
        from_strand [] s start m among e small = omega (arith, small)
        from_strand (x ∷ xs) s start m among e small =
            let at : item_at k.strands s ≡ Some x = ap (item_at k.strands) (let q : s ≡ s + 0 = omega arith in q) ∙ among 0 x refl in
            let one = on_kind s start x at e m small in
            let next = start_next k.strands s x at in
            let within = start_within k.strands (suc s) in
            let start_then : kept (start + places_on x) ≡ start_of k.strands (suc s) = omega (arith, e, next, within, fits) in
            let rest = from_strand xs (suc s) (kept (start + places_on x)) (weights_of ws start m x)
            (λ t y q. ap (item_at k.strands) (let r : suc s + t ≡ s + suc t = omega arith in r) ∙ among (suc t) y q) start_then (omega (arith, one)) in
            omega (arith, one, rest)

        all_weights : weights_from ws 0 0 k.strands ≡ chains_of k
        all_weights =
            let h = from_strand k.strands 0 0 0 (λ t x q. ap (item_at k.strands) (let r : 0 + t ≡ t = omega arith in r) ∙ q) (sym (start_first k.strands)) (omega arith) in
            let e : 0 + chains_from k 0 k.strands ≡ chains_from k 0 k.strands = omega arith in
            h ∙ ap kept e

-- ---- from a table of zeros

zeros_at : (n p : ℕ) → ◌≡◌ {A = ℕ} (get_or (replicate n 0) p 0) 0
zeros_at zero p = refl
zeros_at (suc n) zero = refl
zeros_at (suc n) (suc p) = zeros_at n p

pub all_zeros : (n m : ℕ) (old new : List ℕ) → old ≡ [] → new ≡ take n old ++ replicate m 0 → (p : ℕ) → get_or new p 0 ≡ 0
all_zeros n m old new none filled p =
    let same : new ≡ replicate m 0 = filled ∙ (ap (λ (ws : List ℕ). take n ws ++ replicate m 0) none ∙ ap (λ (ws : List ℕ). ws ++ replicate m 0) (none_taken n)) in
    ap (λ (ws : List ℕ). get_or ws p 0) same ∙ zeros_at m p

module _ (k : Skeleton) (sound : IsSound k) (n : ℕ) (small : n < 2 ^ 64 - 1) (counted : n ≡ get_or (starts_from 0 k.strands) (length k.strands) 0) where
  count : n ≡ places_of_all k.strands
  count =
      let e : get_or (starts_from 0 k.strands) (length k.strands) 0 ≡ 0 + places_of_all k.strands = end_is 0 k.strands (omega (arith, small, counted)) in
      omega (arith, counted, e)

  all_fit : places_of_all k.strands < 2 ^ 64
  all_fit = let e = count in omega (arith, small, e)

  -- The pairs end at places of a table with so many.
  pub table_fits : EndWithin n (starts_from 0 k.strands) k.pairs
  table_fits = subst (λ (m : ℕ). EndWithin m (starts_from 0 k.strands) k.pairs) (sym count) (ends_within k sound all_fit)

  -- Once the weights in it settle they add up to those of the heaviest chains.
  pub settled_chains : (old ws : List ℕ) → ((p : ℕ) → get_or old p 0 ≡ 0) → Settles (starts_from 0 k.strands) k.pairs old ws → weights_from ws 0 0 k.strands ≡ chains_of k
  settled_chains old ws zeros h =
      all_weights k sound all_fit ws h.settled
      (h.risen.below (λ p. heaviest k (node_of 0 k.strands p)) (heaviest_bounds k sound all_fit) (λ p. let z = zeros p in omega (arith, z)))
