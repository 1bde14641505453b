-- The tallest of a block by heights, and the merged strands as the program keeps them.
use Rattle.std.proofs.Common.{◌≡◌, ◌≢◌, ℕ, suc, ◌<◌, ◌≤◌, ◌+◌, List, [], ◌∷◌, ◌++◌, Some, length, sym, ap, ◌∙◌, subst, arith}
use native.Mathlib.Decide.{ℕ_discrete}
use Rattle.cp_lists.specs.Lists.{item_at}
use Rattle.cp_model.specs.Strand.{Role}
use Rattle.cp_model.specs.Term.{Substitution}
use Rattle.cp_model.specs.Bindings.{Binding}
use Rattle.cp_model.specs.Skeleton.{SkeletonStrand, instance, Skeleton}
use Rattle.cp_lists.proofs.Items.{item_below, item_there}
use Rattle.cp_theory.specs.Normal.{strand_under}
use Rattle.cp_model.specs.Declares.{HasDeclaredPrefixes}
use Rattle.cp_collapse.specs.SameSkeletons.{IsSameStrand, AreSameStrands, no_strands, same_strands}
use Rattle.cp_collapse.specs.MergedStrands.{height_of, IsAsTall, IsTallestTo, AreMergedTo, AreMergedAlike, IsUnder}
use Rattle.cp_collapse.specs.Partitions.{AreOfOneRole, IsPartitionByRole}
use Rattle.cp_collapse.proofs.Joined.{alike_back, alike_then}
use Rattle.cp_collapse.proofs.MergeLoops.{tallest_keeps, tallest_changes, none_merged, passes_on, puts_next}
use Rattle.cp_collapse.proofs.Values.{same_under}

module _ (k : Skeleton) (p : List ℕ) (part : IsPartitionByRole k p) (l : ℕ) where
  both_alike : (i t : ℕ) → item_at p i ≡ Some l → item_at p t ≡ Some l → i ≢ t → Dec (i ≡ l) → Dec (t ≡ l) → AreOfOneRole k.strands i t
  both_alike i t e f ne (yes a) (yes b) = absurd (ne (a ∙ sym b))
  both_alike i t e f ne (yes a) (no b) = subst (λ (m : ℕ). AreOfOneRole k.strands m t) (sym a) (alike_back k.strands t l (part.alike t l f b))
  both_alike i t e f ne (no a) (yes b) = subst (λ (m : ℕ). AreOfOneRole k.strands i m) (sym b) (part.alike i l e a)
  both_alike i t e f ne (no a) (no b) = alike_then k.strands i l t (part.alike i l e a) (alike_back k.strands t l (part.alike t l f b))

  alike_both : (i t : ℕ) → item_at p i ≡ Some l → item_at p t ≡ Some l → i ≢ t → AreOfOneRole k.strands i t
  alike_both i t e f ne = both_alike i t e f ne (ℕ_discrete i l) (ℕ_discrete t l)

  module _ (i t : ℕ) (so_far : IsTallestTo k p l i t) where
    as_tall : height_of (item_at k.strands i) ≤ height_of (item_at k.strands t) → (role : Role) (height : ℕ) (terms : List Binding) → item_at p i ≡ Some l → item_at k.strands i ≡ Some (instance role height terms) → Dec (i ≡ t) → IsAsTall k t role height
    as_tall le role height terms own at (yes same) = record { own_height = height; own_terms = terms; on_instance = ap (item_at k.strands) (sym same) ∙ at; at_least = omega arith }
    as_tall le role height terms own at (no ne) =
        let a = alike_both i t own so_far.in_block ne in
        let e : Some (instance a.role a.height a.terms) ≡ Some (instance role height terms) = sym a.first ∙ at in
        let r : a.role ≡ role = cc in
        let hi : height_of (item_at k.strands i) ≡ height = ap height_of at in
        let ht : height_of (item_at k.strands t) ≡ a.height' = ap height_of a.second in
        record { own_height = a.height'; own_terms = a.terms'; on_instance = subst (λ (x : Role). item_at k.strands t ≡ Some (instance x a.height' a.terms')) r a.second; at_least = omega (arith, le, hi, ht) }

    pub tallest_passes : (item_at p i ≡ Some l → ⊥) → IsTallestTo k p l (i + 1) t
    tallest_passes none = let next : suc i ≡ i + 1 = omega arith in subst (λ (m : ℕ). IsTallestTo k p l m t) next (tallest_keeps k p l i t so_far (λ role height terms own at. absurd (none own)))

    pub tallest_stays : height_of (item_at k.strands i) ≤ height_of (item_at k.strands t) → IsTallestTo k p l (i + 1) t
    tallest_stays le = let next : suc i ≡ i + 1 = omega arith in subst (λ (m : ℕ). IsTallestTo k p l m t) next (tallest_keeps k p l i t so_far (λ role height terms own at. as_tall le role height terms own at (ℕ_discrete i t)))

    pub tallest_next : item_at p i ≡ Some l → height_of (item_at k.strands t) < height_of (item_at k.strands i) → IsTallestTo k p l (i + 1) i
    tallest_next own less =
        let next : suc i ≡ i + 1 = omega arith in
        let a = alike_both i t own so_far.in_block (λ same. let e : height_of (item_at k.strands i) ≡ height_of (item_at k.strands t) = ap (λ (m : ℕ). height_of (item_at k.strands m)) same in omega (arith, less, e)) in
        let hi : height_of (item_at k.strands i) ≡ a.height = ap height_of a.first in
        let ht : height_of (item_at k.strands t) ≡ a.height' = ap height_of a.second in
        subst (λ (m : ℕ). IsTallestTo k p l m i) next (tallest_changes k p l i t so_far a.role a.height' a.terms' a.height a.terms own a.second a.first (omega (arith, less, hi, ht)))

  pub tallest_there : (t : ℕ) → IsTallestTo k p l (length p) t → t < length k.strands
  tallest_there t a = let b = item_below p t l a.in_block in let e = part.each in omega (arith, b, e)

-- ---- strands, one more put at a time

same_more : {ss ts : List SkeletonStrand} {s t : SkeletonStrand} → AreSameStrands ss ts → IsSameStrand s t → AreSameStrands (ss ++ (s ∷ [])) (ts ++ (t ∷ []))
same_more no_strands e = same_strands e no_strands
same_more (same_strands f more) e = same_strands f (same_more more e)

module _ (k : Skeleton) (p : List ℕ) (f : Substitution) where
  pub none_alike : (new : List SkeletonStrand) → new ≡ [] → AreMergedAlike k p f 0 new
  none_alike new e = subst (AreMergedAlike k p f 0) (sym e) (record { exact = []; merged = none_merged k p f; alike = no_strands })

  module _ (n : ℕ) (old : List SkeletonStrand) (so_far : AreMergedAlike k p f n old) where
    other : n < length p → (item_at p n ≡ Some n → ⊥) → (l : ℕ) × (item_at p n ≡ Some l) × (l ≢ n)
    other less none = let r = item_there p n less in (r.0, r.1, λ e. none (r.1 ∙ ap Some e))

    pub alike_passes : n < length p → (item_at p n ≡ Some n → ⊥) → AreMergedAlike k p f (n + 1) old
    alike_passes less none =
        let next : suc n ≡ n + 1 = omega arith in
        let r = other less none in
        record { exact = so_far.exact; merged = subst (λ (m : ℕ). AreMergedTo k p f m so_far.exact) next (passes_on k p f n so_far.exact so_far.merged r.0 r.1 r.2); alike = so_far.alike }

    pub alike_puts : (ss : List SkeletonStrand) → k.strands ≡ ss → HasDeclaredPrefixes k → (t : ℕ) (new : List SkeletonStrand) (st : SkeletonStrand) → item_at p n ≡ Some n → IsTallestTo k p n (length p) t → IsUnder ss t f st → new ≡ old ++ (st ∷ []) → AreMergedAlike k p f (n + 1) new
    alike_puts ss views declared t new st own tall u put =
        let next : suc n ≡ n + 1 = omega arith in
        let at : item_at k.strands t ≡ Some u.strand = ap (λ (xs : List SkeletonStrand). item_at xs t) views ∙ u.was_there in
        let same : IsSameStrand (strand_under f u.strand) st =
        subst (IsSameStrand (strand_under f u.strand)) (sym u.changed) (same_under f u.strand (λ role height terms e. declared t role height terms (at ∙ ap Some e))) in
        record {
          exact = so_far.exact ++ (strand_under f u.strand ∷ []);
          merged = subst (λ (m : ℕ). AreMergedTo k p f m (so_far.exact ++ (strand_under f u.strand ∷ []))) next (puts_next k p f n so_far.exact so_far.merged t u.strand own tall at);
          alike = subst (AreSameStrands (so_far.exact ++ (strand_under f u.strand ∷ []))) (sym put) (same_more so_far.alike same);
        }
