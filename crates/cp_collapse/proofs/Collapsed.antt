-- Going along the partitions of all strands, what is not the finest and not impossible is a collapse.
use Rattle.std.proofs.Common.{◌≡◌, ◌≢◌, ◌⊎◌, inl, inr, ℕ, zero, suc, ◌<◌, ◌≤◌, ◌+◌, List, [], ◌∷◌, ◌++◌, Option, Some, None, length, refl, sym, ap, ◌∙◌, subst, arith, eq-or-lt_of_le}
use Rattle.cp_lists.specs.Lists.{item_at, IsIn, here}
use Rattle.cp_model.specs.Term.{Assignment}
use Rattle.cp_model.specs.Skeleton.{Skeleton}
use Rattle.cp_model.specs.Homomorphism.{number_or}
use Rattle.cp_model.specs.Problem.{numbers_from}
use Rattle.cp_model.proofs.NumbersFrom.{numbers_length}
use Rattle.cp_lists.proofs.Members.{in_append_left, in_append_right, in_append, only_item}
use Rattle.cp_lists.proofs.Items.{item_below, item_before, place_of, at_place}
use Rattle.cp_unify.proofs.Free.{free}
use Rattle.cp_collapse.specs.Partitions.{IsPartitionByRole, finest, IdentifiesValues, IsLower, AreDescending}
use Rattle.cp_collapse.specs.Collapses.{HasWayBackward, IsImpossible, IsCollapse, AreCollapsesBy, no_collapses, collapse_by, AreCollapses}
use Rattle.cp_collapse.specs.FirstPartitions.{IsRuledOut, ArePartitionsOfFirst, AreCollapsedTo, EqualAt}
use Rattle.cp_collapse.proofs.Lowest.{at_numbers}
use Rattle.cp_collapse.proofs.DescendingLists.{never_lower, descending_at, descending_with}
use Rattle.cp_collapse.proofs.RuledOut.{one_block, ruled_out_impossible}
use Rattle.cp_collapse.proofs.Extended.{of_first_all}
use Rattle.cp_collapse.proofs.OneStrandMore.{equal_itself}

-- ---- the finest partition

at_finest : (k : Skeleton) (s l : ℕ) → item_at (finest k) s ≡ Some l → (s < length k.strands) × (l ≡ s)
at_finest k s l e = let r = at_numbers 0 k.strands s l e in let f = r.1 in (r.0, omega (arith, f))

pub finest_is_partition : (k : Skeleton) → IsPartitionByRole k (finest k)
finest_is_partition k = record {
  each = numbers_length 0 k.strands;
  lowest = λ s l e. let r = at_finest k s l e in let f : l ≡ s = r.1 in (omega (arith, f), subst (λ (m : ℕ). item_at (finest k) m ≡ Some l) (sym f) e);
  alike = λ s l e ne. absurd (ne (sym (at_finest k s l e).1));
}

finest_identifies : (k : Skeleton) (g : Assignment) → IdentifiesValues k (finest k) g
finest_identifies k g s t role height terms height' terms' at au a =
    let same : s ≡ t = sym (at_finest k s a.0 a.1).1 ∙ (at_finest k t a.0 a.2).1 in
    subst (λ (m : ℕ). EqualAt k s m g) same (equal_itself k s g) role height terms height' terms' at au

alone_in_finest : (k : Skeleton) (s : ℕ) (o : Option ℕ) → item_at (finest k) s ≡ o → number_or s o ≡ s
alone_in_finest k s None e = refl
alone_in_finest k s (Some l) e = (at_finest k s l e).1

finest_not_turned : (k : Skeleton) → HasWayBackward k (finest k) → ⊥
finest_not_turned k w =
    let s = w.from.strand in
    let t = w.to.strand in
    w.other_strand (sym (alone_in_finest k s (item_at (finest k) s) refl)
    ∙ one_block k (length k.strands) (finest k) (of_first_all k (finest k) (finest_is_partition k)) s t w.on_one
    ∙ alone_in_finest k t (item_at (finest k) t) refl)

-- No partition is higher.
not_higher : {A : Type 0} (n : ℕ) (xs : List A) (q : List ℕ) → ((s l : ℕ) → item_at q s ≡ Some l → l ≤ n + s) → IsLower (numbers_from n xs) q → ⊥
not_higher n [] q h l = l
not_higher n (x ∷ xs) [] h l = l
not_higher n (x ∷ xs) (b ∷ q) h (inl l) = let m = h 0 b refl in omega (arith, l, m)
not_higher n (x ∷ xs) (b ∷ q) h (inr r) = not_higher (suc n) xs q (λ s l e. let m = h (suc s) l e in omega (arith, m)) r.1

module _ (k : Skeleton) (ps : List (List ℕ)) (are : ArePartitionsOfFirst k (length k.strands) ps) where
  finest_listed : IsIn (finest k) ps ⊎ IsRuledOut k (finest k) → IsIn (finest k) ps
  finest_listed (inl i) = i
  finest_listed (inr (inl never)) = absurd (never free (finest_identifies k free))
  finest_listed (inr (inr turned)) = absurd (finest_not_turned k turned)

  first_at : (j : ℕ) → item_at ps j ≡ Some (finest k) → item_at ps 0 ≡ Some (finest k)
  first_at zero e = e
  first_at (suc j) e =
      let q = item_before ps 0 (suc j) (finest k) e (omega arith) in
      let part = are.each q.0 (at_place ps 0 _ q.1) in
      absurd (not_higher 0 k.strands q.0 (λ s l f. let le = (part.lowest s l f).0 in omega (arith, le)) (descending_at ps 0 (suc j) (finest k) q.0 are.descending (omega arith) q.1 e))

  -- The finest partition is the first, and no other is it.
  pub finest_first : item_at ps 0 ≡ Some (finest k)
  finest_first = let r = place_of (finest_listed (are.all (finest k) (of_first_all k (finest k) (finest_is_partition k)))) in first_at r.0 r.1

  pub later_not_finest : (i : ℕ) (p : List ℕ) → item_at ps (suc i) ≡ Some p → p ≢ finest k
  later_not_finest i p e same =
      never_lower p (subst (IsLower p) (sym same) (descending_at ps 0 (suc i) p (finest k) are.descending (omega arith) finest_first e))

-- ---- the loop

module _ (k : Skeleton) (ps : List (List ℕ)) where
  pub none_collapsed : AreCollapsedTo k ps 0 []
  none_collapsed = record { partitions = []; each = no_collapses; descending = tt; from = λ q i. elim i [ ]; all = λ j p l e ne. absurd (omega (arith, l)) }

  module _ (i : ℕ) (p : List ℕ) (at : item_at ps i ≡ Some p) (ls : List Skeleton) (so_far : AreCollapsedTo k ps i ls) where
    up : (q : List ℕ) → IsIn q so_far.partitions → (j : ℕ) × (j < suc i) × (item_at ps j ≡ Some q)
    up q inq = let r = so_far.from q inq in let l = r.1 in (r.0, omega (arith, l), r.2)

    same_at : (j : ℕ) (q : List ℕ) → item_at ps j ≡ Some q → j ≡ i → p ≡ q
    same_at j q e f = let h : Some p ≡ Some q = sym at ∙ ap (item_at ps) (sym f) ∙ e in cc

    -- The partition is the finest, or impossible.
    pub not_collapsed : (p ≢ finest k → IsImpossible k p) → AreCollapsedTo k ps (suc i) ls
    not_collapsed never = record {
      partitions = so_far.partitions;
      each = so_far.each;
      descending = so_far.descending;
      from = up;
      all = λ j q l e ne. by j q e ne (eq-or-lt_of_le (omega (arith, l)));
    }
      where
        by : (j : ℕ) (q : List ℕ) → item_at ps j ≡ Some q → q ≢ finest k → (j ≡ i) ⊎ (j < i) → IsIn q so_far.partitions ⊎ IsImpossible k q
        by j q e ne (inl f) = let same = same_at j q e f in inr (subst (IsImpossible k) same (never (λ g. ne (sym same ∙ g))))
        by j q e ne (inr l) = so_far.all j q l e ne

    -- It gives a collapse.
    more_collapses : {qs : List (List ℕ)} {ms : List Skeleton} (l : Skeleton) → IsCollapse k p l → AreCollapsesBy k qs ms → AreCollapsesBy k (qs ++ (p ∷ [])) (ms ++ (l ∷ []))
    more_collapses l c no_collapses = collapse_by c no_collapses
    more_collapses l c (collapse_by d ds) = collapse_by d (more_collapses l c ds)

    pub one_collapsed : (l : Skeleton) → AreDescending ps → IsCollapse k p l → AreCollapsedTo k ps (suc i) (ls ++ (l ∷ []))
    one_collapsed l d c = record {
      partitions = so_far.partitions ++ (p ∷ []);
      each = more_collapses l c so_far.each;
      descending = descending_with so_far.partitions p so_far.descending (λ q inq. let r = so_far.from q inq in descending_at ps r.0 i p q d r.1 r.2 at);
      from = λ q inq. into q (in_append so_far.partitions (p ∷ []) inq);
      all = λ j q less e ne. by j q e ne (eq-or-lt_of_le (omega (arith, less)));
    }
      where
        into : (q : List ℕ) → IsIn q so_far.partitions ⊎ IsIn q (p ∷ []) → (j : ℕ) × (j < suc i) × (item_at ps j ≡ Some q)
        into q (inl old) = up q old
        into q (inr now) = (i, omega arith, at ∙ ap Some (sym (only_item now)))

        more : (q : List ℕ) → IsIn q so_far.partitions ⊎ IsImpossible k q → IsIn q (so_far.partitions ++ (p ∷ [])) ⊎ IsImpossible k q
        more q (inl old) = inl (in_append_left (p ∷ []) old)
        more q (inr never) = inr never

        by : (j : ℕ) (q : List ℕ) → item_at ps j ≡ Some q → q ≢ finest k → (j ≡ i) ⊎ (j < i) → IsIn q (so_far.partitions ++ (p ∷ [])) ⊎ IsImpossible k q
        by j q e ne (inl f) = inl (subst (λ (r : List ℕ). IsIn r (so_far.partitions ++ (p ∷ []))) (same_at j q e f) (in_append_right so_far.partitions here))
        by j q e ne (inr less) = more q (so_far.all j q less e ne)

  pub all_collapsed : (ls : List Skeleton) → ArePartitionsOfFirst k (length k.strands) ps → AreCollapsedTo k ps (length ps) ls → AreCollapses k ls
  all_collapsed ls are so_far = record {
    partitions = so_far.partitions;
    each = so_far.each;
    descending = so_far.descending;
    all = λ p part ne. by p ne (are.all p (of_first_all k p part));
  }
    where
      by : (p : List ℕ) → p ≢ finest k → IsIn p ps ⊎ IsRuledOut k p → IsIn p so_far.partitions ⊎ IsImpossible k p
      by p ne (inl listed) = let r = place_of listed in so_far.all r.0 p (item_below ps r.0 p r.1) r.1 ne
      by p ne (inr out) = inr (ruled_out_impossible k p out)
