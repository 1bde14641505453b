-- Finding the tallest of a block, and going along the strands to merge them.
use Rattle.std.proofs.Common.{◌≡◌, ◌≢◌, ◌⊎◌, inl, inr, ℕ, suc, ◌<◌, ◌≤◌, List, [], ◌∷◌, ◌++◌, Some, length, refl, sym, ap, ◌∙◌, subst, arith, eq-or-lt_of_le}
use Rattle.cp_lists.specs.Lists.{item_at}
use Rattle.cp_lists.proofs.Items.{item_in_front, item_last}
use Rattle.cp_lists.proofs.Appended.{length_pushed}
use Rattle.cp_model.specs.Term.{Substitution}
use Rattle.cp_model.specs.Bindings.{Binding}
use Rattle.cp_model.specs.Strand.{Role}
use Rattle.cp_model.specs.Skeleton.{SkeletonStrand, instance, Skeleton}
use Rattle.cp_theory.specs.Normal.{strand_under}
use Rattle.cp_collapse.specs.Partitions.{lowest_before}
use Rattle.cp_collapse.specs.MergedStrands.{IsAsTall, IsTallestTo, IsMergedAt, AreMergedTo}
use Rattle.cp_collapse.proofs.Places.{own_entry, stays_other, rises}

-- ---- the tallest of a block

module _ (k : Skeleton) (p : List ℕ) (l : ℕ) where
  pub tallest_first : item_at p l ≡ Some l → IsTallestTo k p l 0 l
  tallest_first own = record { in_block = own; as_tall = λ s role height terms less e at. absurd (omega (arith, less)) }

  module _ (i t : ℕ) (so_far : IsTallestTo k p l i t) where
    keeping : ((role : Role) (height : ℕ) (terms : List Binding) → item_at p i ≡ Some l → item_at k.strands i ≡ Some (instance role height terms) → IsAsTall k t role height) →
        (s : ℕ) (role : Role) (height : ℕ) (terms : List Binding) → (s ≡ i) ⊎ (s < i) → item_at p s ≡ Some l → item_at k.strands s ≡ Some (instance role height terms) → IsAsTall k t role height
    keeping here s role height terms (inl e) own at = here role height terms (ap (item_at p) (sym e) ∙ own) (ap (item_at k.strands) (sym e) ∙ at)
    keeping here s role height terms (inr less) own at = so_far.as_tall s role height terms less own at

    -- The next strand is in another block, or a listener, or not taller.
    pub tallest_keeps : ((role : Role) (height : ℕ) (terms : List Binding) → item_at p i ≡ Some l → item_at k.strands i ≡ Some (instance role height terms) → IsAsTall k t role height) → IsTallestTo k p l (suc i) t
    tallest_keeps here = record { in_block = so_far.in_block; as_tall = λ s role height terms less own at. keeping here s role height terms (eq-or-lt_of_le (omega (arith, less))) own at }

    -- The next strand is in the block, and at least as tall.
    pub tallest_changes : (role : Role) (height : ℕ) (terms : List Binding) (higher : ℕ) (other : List Binding) → item_at p i ≡ Some l →
        item_at k.strands t ≡ Some (instance role height terms) → item_at k.strands i ≡ Some (instance role higher other) → height ≤ higher → IsTallestTo k p l (suc i) i
    tallest_changes role height terms higher other own at now le = record { in_block = own; as_tall = λ s role' height' terms' less e there. by s role' height' terms' (eq-or-lt_of_le (omega (arith, less))) e there }
      where
        by : (s : ℕ) (role' : Role) (height' : ℕ) (terms' : List Binding) → (s ≡ i) ⊎ (s < i) → item_at p s ≡ Some l → item_at k.strands s ≡ Some (instance role' height' terms') → IsAsTall k i role' height'
        by s role' height' terms' (inl e) q there = record { own_height = height'; own_terms = terms'; on_instance = ap (item_at k.strands) (sym e) ∙ there; at_least = omega arith }
        by s role' height' terms' (inr less) q there =
            let tall = so_far.as_tall s role' height' terms' less q there in
            let e : Some (instance role' tall.own_height tall.own_terms) ≡ Some (instance role height terms) = sym tall.on_instance ∙ at in
            let same : role ≡ role' = cc in
            let h : tall.own_height ≡ height = cc in
            let at_least = tall.at_least in
            record { own_height = higher; own_terms = other; on_instance = subst (λ (x : Role). item_at k.strands i ≡ Some (instance x higher other)) same now; at_least = omega (arith, at_least, h, le) }

-- ---- the merged strands, place by place

module _ (k : Skeleton) (p : List ℕ) (f : Substitution) where
  pub none_merged : AreMergedTo k p f 0 []
  none_merged = record { count = refl; each = λ l less own. absurd (omega (arith, less)) }

  module _ (n : ℕ) (strands : List SkeletonStrand) (so_far : AreMergedTo k p f n strands) where
    next_up : ((item_at p n ≡ Some n) → IsMergedAt k p f n strands) → (l : ℕ) → (l ≡ n) ⊎ (l < n) → item_at p l ≡ Some l → IsMergedAt k p f l strands
    next_up here l (inl e) own = subst (λ (m : ℕ). IsMergedAt k p f m strands) (sym e) (here (subst (λ (m : ℕ). item_at p m ≡ Some m) e own))
    next_up here l (inr less) own = so_far.each l less own

    -- The next strand is not the lowest of its block.
    pub passes_on : (l : ℕ) → item_at p n ≡ Some l → l ≢ n → AreMergedTo k p f (suc n) strands
    passes_on l e ne = record {
      count = so_far.count ∙ sym (stays_other p n l e ne);
      each = λ m less own. next_up (λ here. absurd (ne (let h : Some l ≡ Some n = sym e ∙ here in cc))) m (eq-or-lt_of_le (omega (arith, less))) own;
    }

    still_merged : (st : SkeletonStrand) (l : ℕ) → l < n → item_at p l ≡ Some l → IsMergedAt k p f l (strands ++ (st ∷ []))
    still_merged st l less own =
        let m = so_far.each l less own in
        let c = so_far.count in
        let r = rises p l n (own_entry p l own) less in
        record { tallest = m.tallest; is_tallest = m.is_tallest; strand = m.strand; was_there = m.was_there; merged = item_in_front strands (st ∷ []) (lowest_before p l) (omega (arith, c, r)) ∙ m.merged }

    -- It is the lowest, and the tallest of its block is put at its place.
    pub puts_next : (t : ℕ) (st : SkeletonStrand) → item_at p n ≡ Some n → IsTallestTo k p n (length p) t → item_at k.strands t ≡ Some st → AreMergedTo k p f (suc n) (strands ++ (strand_under f st ∷ []))
    puts_next t st own tall at = record {
      count = length_pushed strands (strand_under f st) ∙ ap suc so_far.count ∙ sym up;
      each = λ l less own'. by l own' (eq-or-lt_of_le (omega (arith, less)));
    }
      where
        up : lowest_before p (suc n) ≡ suc (lowest_before p n)
        up = let e = own_entry p n own in rw e (omega arith)

        by : (l : ℕ) → item_at p l ≡ Some l → (l ≡ n) ⊎ (l < n) → IsMergedAt k p f l (strands ++ (strand_under f st ∷ []))
        by l own' (inr less) = still_merged (strand_under f st) l less own'
        by l own' (inl e) =
            subst (λ (m : ℕ). IsMergedAt k p f m (strands ++ (strand_under f st ∷ []))) (sym e)
            (record { tallest = t; is_tallest = tall; strand = st; was_there = at; merged = ap (item_at (strands ++ (strand_under f st ∷ []))) (sym so_far.count) ∙ item_last strands (strand_under f st) })
