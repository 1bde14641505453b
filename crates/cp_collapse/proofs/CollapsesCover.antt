-- The partition of a standing is possible, so a skeleton and its collapses leave no standing out.
use Rattle.std.proofs.Common.{◌≡◌, ◌≢◌, ◌⊎◌, inl, inr, ℕ, ◌<◌, ◌≤◌, List, ◌∷◌, Some, refl, sym, ap, ◌∙◌, subst, subst₂, eq-or-lt_of_le}
use native.Mathlib.Decide.{ℕ_discrete}
use Rattle.cp_lists.specs.Lists.{item_at, IsIn, here, there}
use Rattle.cp_model.specs.Message.{Message}
use Rattle.cp_model.specs.Strand.{Role, Protocol}
use Rattle.cp_model.specs.declared.strand.Event.{Event}
use Rattle.cp_model.specs.Bindings.{Binding}
use Rattle.cp_model.specs.Bundle.{node_at, event_at, Bundle, Precedes, IsBundle}
use Rattle.cp_model.specs.Skeleton.{SkeletonStrand, instance, Skeleton, IsSkeleton}
use Rattle.cp_model.specs.Standing.{Standing, image_of, StandsIn, StandsApart}
use Rattle.cp_model.specs.Homomorphism.{Covers, IsCompleteList}
use Rattle.cp_lists.proofs.Items.{item_below}
use Rattle.cp_lists.proofs.Reached.{steps_append}
use Rattle.cp_model.proofs.LawOrigins.{never_before_itself}
use Rattle.cp_model.proofs.LawStandings.{strand_of_event, bundle_climb}
use Rattle.cp_model.proofs.LawMessages.{dec_list}
use Rattle.cp_skel.proofs.OrderWithout.{way_ends}
use Rattle.cp_theory.proofs.Images.{image_event_at}
use Rattle.cp_theory.proofs.Places.{node_before}
use Rattle.cp_collapse.specs.Partitions.{finest, place_in}
use Rattle.cp_collapse.specs.Collapses.{HasWayBackward, IsImpossible, IsCollapse, AreCollapsesBy, no_collapses, collapse_by, AreCollapses, StandsThroughCollapse}
use Rattle.cp_collapse.proofs.Lowest.{low}
use Rattle.cp_collapse.proofs.Places.{own_entry, one_at_place, place_of_entry}
use Rattle.cp_collapse.proofs.StandingPartition.{together, partition, is_partition, partition_at, alike_or_same, goes_where_low_goes, values_identified, apart_if_finest}
use Rattle.cp_collapse.proofs.MergedStandings.{merged_stands, merged_apart, merged_factors, merged_never_circles, on_blocks, goes_as_block, same_term}

-- ---- nothing in a bundle precedes itself

-- No node precedes itself, or one before it on its strand.
never_backward : (protocol : Protocol) (b : Bundle) (s i j : ℕ) (e : Event Message) → IsBundle protocol b → event_at b.strands (node_at s i) ≡ Some e → j ≤ i → Precedes b (node_at s i) (node_at s j) → ⊥
never_backward protocol b s i j e is ev l r = by (eq-or-lt_of_le l)
  where
    by : (j ≡ i) ⊎ (j < i) → ⊥
    by (inl same) = never_before_itself protocol b (node_at s i) is (subst (λ (m : ℕ). Precedes b (node_at s i) (node_at s m)) same r)
    by (inr less) = never_before_itself protocol b (node_at s i) is (steps_append r (bundle_climb b s j i e ev less))

-- ---- lists

collapse_of : (k : Skeleton) (p : List ℕ) {ps : List (List ℕ)} {ls : List Skeleton} → AreCollapsesBy k ps ls → IsIn p ps → (l : Skeleton) × IsIn l ls × IsCollapse k p l
collapse_of k p no_collapses i = elim i [ ]
collapse_of k p (collapse_by {l = l} c cs) here = (l, here, c)
collapse_of k p (collapse_by c cs) (there i) = let r = collapse_of k p cs i in (r.0, there r.1, r.2)

-- ---- the partition of a standing is possible

module _ (protocol : Protocol) (k : Skeleton) (b : Bundle) (h : Standing) (sk : IsSkeleton protocol k) (is : IsBundle protocol b) (stands : StandsIn k b h) where
  abbrev p : List ℕ
  p = partition k h

  entry : (s : ℕ) (st : SkeletonStrand) → item_at k.strands s ≡ Some st → item_at p s ≡ Some (low (together k h) s)
  entry s st at = partition_at k h s (item_below k.strands s st at)

  one_lowest : (s t : ℕ) (st su : SkeletonStrand) → item_at k.strands s ≡ Some st → item_at k.strands t ≡ Some su → place_in p s ≡ place_in p t → low (together k h) s ≡ low (together k h) t
  one_lowest s t st su at au same =
      let e = entry s st at in
      let f = entry t su au in
      let part = is_partition k h b stands in
      one_at_place p (low (together k h) s) (low (together k h) t)
      (own_entry p (low (together k h) s) (part.lowest s (low (together k h) s) e).1)
      (own_entry p (low (together k h) t) (part.lowest t (low (together k h) t) f).1)
      (sym (place_of_entry p s (low (together k h) s) e) ∙ same ∙ place_of_entry p t (low (together k h) t) f)

  -- Two different strands in one block are role strands, and go to one strand.
  on_role : (s t : ℕ) → s ≢ t → low (together k h) s ≡ low (together k h) t → Dec (s ≡ low (together k h) s) → (role : Role) × (height : ℕ) × (terms : List Binding) × (item_at k.strands s ≡ Some (instance role height terms))
  on_role s t ne same (no other) = let a = alike_or_same k h b stands s other in (a.role, a.height, a.terms, a.first)
  on_role s t ne same (yes own) =
      let a = alike_or_same k h b stands t (λ e. ne (own ∙ same ∙ sym e)) in
      (a.role, a.height', a.terms', subst (λ (m : ℕ). item_at k.strands m ≡ Some (instance a.role a.height' a.terms')) (sym (own ∙ same)) a.second)

  never_leads_backward : HasWayBackward k p → ⊥
  never_leads_backward w =
      let n = node_before protocol k sk w.way in
      let m = way_ends k w.from w.to sk.order_pairs w.way in
      let s = w.from.strand in
      let t = w.to.strand in
      let st = strand_of_event k.strands w.from n.0 n.1 in
      let su = strand_of_event k.strands w.to m.0 m.1 in
      let same = one_lowest s t st.0 su.0 st.1 su.1 w.on_one in
      let i = on_role s t w.other_strand same (ℕ_discrete s (low (together k h) s)) in
      let j = on_role t s (λ e. w.other_strand (sym e)) (sym same) (ℕ_discrete t (low (together k h) t)) in
      let one : (h.nodes s).strand ≡ (h.nodes t).strand = sym (goes_where_low_goes k h s) ∙ ap (λ (u : ℕ). (h.nodes u).strand) same ∙ goes_where_low_goes k h t in
      let from : image_of k h w.from ≡ node_at (h.nodes s).strand w.from.index = rw i.3 refl in
      let to : image_of k h w.to ≡ node_at (h.nodes s).strand w.to.index = rw j.3 (ap (λ (u : ℕ). node_at u w.to.index) (sym one)) in
      let ev = image_event_at k b h stands w.from n.0 n.1 in
      never_backward protocol b (h.nodes s).strand w.from.index w.to.index ev.event is
      (ap (event_at b.strands) (sym from) ∙ ev.there) w.backward
      (subst₂ (Precedes b) from to (stands.ordered w.from w.to w.way w.other_strand))

  possible : IsImpossible k p → ⊥
  possible (inl never) = never h.values (values_identified k h b stands)
  possible (inr (inl back)) = never_leads_backward back
  possible (inr (inr cycle)) = merged_never_circles k b h stands cycle.merged cycle.collapsed protocol sk is cycle.node cycle.cycle

  -- ---- the collapses cover

  itself_covers : (ls : List Skeleton) → p ≡ finest k → Covers (k ∷ ls) k b h
  itself_covers ls fine = record { skeleton = k; listed = here; standing = h; stands = stands; apart = apart_if_finest k h fine; factors = record { strands = refl; values = refl } }

  collapse_covers : (ls : List Skeleton) (l : Skeleton) → IsIn l ls → IsCollapse k p l → Covers (k ∷ ls) k b h
  collapse_covers ls l listed c = record {
    skeleton = l;
    listed = there listed;
    standing = on_blocks k b h stands;
    stands = merged_stands k b h stands l c.collapsed protocol sk;
    apart = merged_apart k b h stands l c.collapsed;
    factors = merged_factors k b h stands l c.collapsed;
  }

  covers_at : (ls : List Skeleton) → AreCollapses k ls → Dec (p ≡ finest k) → Covers (k ∷ ls) k b h
  covers_at ls are (yes fine) = itself_covers ls fine
  covers_at ls are (no other) = by (are.all p (is_partition k h b stands) other)
    where
      by : IsIn p are.partitions ⊎ IsImpossible k p → Covers (k ∷ ls) k b h
      by (inl listed) = let r = collapse_of k p are.each listed in collapse_covers ls r.0 r.1 r.2
      by (inr never) = absurd (possible never)

  -- ---- each standing goes through a collapse

  through_collapse : (ls : List Skeleton) (l : Skeleton) → IsIn l ls → IsCollapse k p l → StandsThroughCollapse k ls b h
  through_collapse ls l listed c = record {
    partition = p;
    skeleton = l;
    listed = listed;
    collapse = c;
    through = record {
      standing = on_blocks k b h stands;
      stands = merged_stands k b h stands l c.collapsed protocol sk;
      apart = merged_apart k b h stands l c.collapsed;
      same_nodes = λ s. sym (goes_as_block k b h stands s);
      same_values = λ t. sym (same_term k b h stands l c.collapsed t);
    };
  }

  through_at : (ls : List Skeleton) → AreCollapses k ls → Dec (p ≡ finest k) → StandsApart k h ⊎ StandsThroughCollapse k ls b h
  through_at ls are (yes fine) = inl (apart_if_finest k h fine)
  through_at ls are (no other) = by (are.all p (is_partition k h b stands) other)
    where
      by : IsIn p are.partitions ⊎ IsImpossible k p → StandsApart k h ⊎ StandsThroughCollapse k ls b h
      by (inl listed) = let r = collapse_of k p are.each listed in inr (through_collapse ls r.0 r.1 r.2)
      by (inr never) = absurd (possible never)

pub collapses_are_complete : (protocol : Protocol) (k : Skeleton) (ls : List Skeleton) → IsSkeleton protocol k → AreCollapses k ls → IsCompleteList protocol k (k ∷ ls)
collapses_are_complete protocol k ls sk are b h is stands = covers_at protocol k b h sk is stands ls are (dec_list (partition k h) (finest k))

pub standings_go_through : (protocol : Protocol) (k : Skeleton) (ls : List Skeleton) (b : Bundle) (h : Standing) → IsSkeleton protocol k → AreCollapses k ls → IsBundle protocol b → StandsIn k b h →
    StandsApart k h ⊎ StandsThroughCollapse k ls b h
standings_go_through protocol k ls b h sk are is stands = through_at protocol k b h sk is stands ls are (dec_list (partition k h) (finest k))
