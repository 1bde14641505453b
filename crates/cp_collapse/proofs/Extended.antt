-- Extending each partition of the first strands by each entry of the next strand, from its own number down, gives the
-- partitions of one strand more.
use Rattle.std.proofs.Common.{◌≡◌, ◌≢◌, ◌⊎◌, inl, inr, ℕ, suc, ◌<◌, ◌≤◌, List, [], ◌∷◌, ◌++◌, Some, length, refl, sym, ap, ◌∙◌, subst, subst₂, arith, eq-or-lt_of_le}
use Rattle.cp_lists.specs.Lists.{item_at, IsIn, here}
use Rattle.cp_model.specs.Skeleton.{Skeleton}
use Rattle.cp_lists.proofs.Members.{in_append_left, in_append_right, in_append, only_item, empty_in}
use Rattle.cp_lists.proofs.Items.{item_below, place_of, at_place, item_in_front, item_last, end_cases}
use Rattle.cp_lists.proofs.Appended.{length_pushed}
use Rattle.cp_lists.proofs.Fronts.{split_end}
use Rattle.cp_collapse.specs.Partitions.{AreOfOneRole, IsPartitionByRole, IsLower, AreDescending}
use Rattle.cp_collapse.specs.FirstPartitions.{IsPartitionOfFirst, IsRuledOut, ArePartitionsOfFirst, MayHave, IsLaterEntry, IsOneBehind, AreExtendedTo}
use Rattle.cp_collapse.proofs.RuledOut.{still_ruled_out}
use Rattle.cp_collapse.proofs.DescendingLists.{lower_with, lower_last, descending_at, descending_with}

-- ---- one strand more

module _ (k : Skeleton) (n : ℕ) where
  module _ (p : List ℕ) (part : IsPartitionOfFirst k n p) (l : ℕ) (may : MayHave k p n l) where
    length_is : length p ≡ n
    length_is = part.each

    own_at : MayHave k p n l → (l ≤ n) × (item_at (p ++ (l ∷ [])) l ≡ Some l)
    own_at (inl e) = (omega (arith, e), ap (item_at (p ++ (l ∷ []))) (e ∙ sym part.each) ∙ item_last p l)
    own_at (inr m) = let b = m.0 in let e = part.each in (omega (arith, b), item_in_front p (l ∷ []) l (omega (arith, b, e)) ∙ m.1)

    lowest_more : (s m : ℕ) → ((s < length p) × (item_at p s ≡ Some m)) ⊎ ((s ≡ length p) × (l ≡ m)) → (m ≤ s) × (item_at (p ++ (l ∷ [])) m ≡ Some m)
    lowest_more s m (inl r) =
        let below : s < length p = r.0 in
        let q = part.lowest s m r.1 in
        let le : m ≤ s = q.0 in
        (q.0, item_in_front p (l ∷ []) m (omega (arith, below, le)) ∙ q.1)
    lowest_more s m (inr r) =
        let o = own_at may in
        let le : l ≤ n = o.0 in
        let e = part.each in
        let f : s ≡ length p = r.0 in
        let same : l ≡ m = r.1 in
        (omega (arith, le, e, f, same), subst (λ (x : ℕ). item_at (p ++ (l ∷ [])) x ≡ Some x) same o.1)

    alike_at : MayHave k p n l → n ≢ l → AreOfOneRole k.strands n l
    alike_at (inl e) ne = absurd (ne (sym e))
    alike_at (inr m) ne = m.2

    alike_more : (s m : ℕ) → ((s < length p) × (item_at p s ≡ Some m)) ⊎ ((s ≡ length p) × (l ≡ m)) → s ≢ m → AreOfOneRole k.strands s m
    alike_more s m (inl r) ne = part.alike s m r.1 ne
    alike_more s m (inr r) ne =
        let e : n ≡ s = sym part.each ∙ sym r.0 in
        subst₂ (AreOfOneRole k.strands) e r.1 (alike_at may (λ q. ne (sym e ∙ q ∙ r.1)))

    pub extended_is_partition : IsPartitionOfFirst k (suc n) (p ++ (l ∷ []))
    extended_is_partition = record {
      each = length_pushed p l ∙ ap suc part.each;
      lowest = λ s m e. lowest_more s m (end_cases p l s m e);
      alike = λ s m e ne. alike_more s m (end_cases p l s m e) ne;
    }

  module _ (p : List ℕ) (l : ℕ) (len : length p ≡ n) (part : IsPartitionOfFirst k (suc n) (p ++ (l ∷ []))) where
    longer : (s m : ℕ) → item_at p s ≡ Some m → item_at (p ++ (l ∷ [])) s ≡ Some m
    longer s m e = item_in_front p (l ∷ []) s (item_below p s m e) ∙ e

    pub first_is_partition : IsPartitionOfFirst k n p
    first_is_partition = record {
      each = len;
      lowest = λ s m e.
          let r = part.lowest s m (longer s m e) in
          let le : m ≤ s = r.0 in
          let below = item_below p s m e in
          (r.0, sym (item_in_front p (l ∷ []) m (omega (arith, le, below))) ∙ r.1);
      alike = λ s m e ne. part.alike s m (longer s m e) ne;
    }

    last_at : item_at (p ++ (l ∷ [])) n ≡ Some l
    last_at = ap (item_at (p ++ (l ∷ []))) (sym len) ∙ item_last p l

    last_may : (l ≡ n) ⊎ (l < n) → MayHave k p n l
    last_may (inl e) = inl e
    last_may (inr less) = inr (less, sym (item_in_front p (l ∷ []) l (omega (arith, less, len))) ∙ (part.lowest n l last_at).1, part.alike n l last_at (λ e. omega (arith, less, e)))

    pub last_may_have : MayHave k p n l
    last_may_have = last_may (eq-or-lt_of_le (part.lowest n l last_at).0)

  -- ---- the loop

  at_most : (p : List ℕ) (l : ℕ) → MayHave k p n l → l < suc n
  at_most p l (inl e) = omega (arith, e)
  at_most p l (inr m) = let b = m.0 in omega (arith, b)

  module _ (ps : List (List ℕ)) where
    no_first : (p : List ℕ) (l j : ℕ) → MayHave k p n l → (j < 0) ⊎ ((j ≡ 0) × (suc n ≤ l)) → ⊥
    no_first p l j may (inl less) = omega (arith, less)
    no_first p l j may (inr r) = let h = r.1 in let b = at_most p l may in omega (arith, h, b)

    -- Nothing is tried yet.
    pub none_extended : AreExtendedTo k n ps 0 (suc n) []
    none_extended = record {
      each = λ q i. elim i [ ];
      all = λ p l b may. absurd (no_first p l b.0 may b.2);
      descending = tt;
    }

    -- What was behind still is.
    behind_down : (i m j l : ℕ) → (j < i) ⊎ ((j ≡ i) × (suc m ≤ l)) → (j < i) ⊎ ((j ≡ i) × (m ≤ l))
    behind_down i m j l (inl less) = inl less
    behind_down i m j l (inr r) = let h = r.1 in inr (r.0, omega (arith, h))

    one_behind_down : (i m : ℕ) (q : List ℕ) → IsOneBehind k n ps i (suc m) q → IsOneBehind k n ps i m q
    one_behind_down i m q o = record { partition = o.partition; entry = o.entry; extended = o.extended; behind = (o.behind.0, o.behind.1, behind_down i m o.behind.0 o.entry o.behind.2); may_have = o.may_have }

    -- What is behind now was so, or is the partition with the entry m.
    behind_up : (i m j l : ℕ) → (j < i) ⊎ ((j ≡ i) × (m ≤ l)) → ((j < i) ⊎ ((j ≡ i) × (suc m ≤ l))) ⊎ ((j ≡ i) × (m ≡ l))
    behind_up i m j l (inl less) = inl (inl less)
    behind_up i m j l (inr r) = by (eq-or-lt_of_le r.1)
      where
        by : (m ≡ l) ⊎ (m < l) → ((j < i) ⊎ ((j ≡ i) × (suc m ≤ l))) ⊎ ((j ≡ i) × (m ≡ l))
        by (inl e) = inr (r.0, e)
        by (inr less) = inl (inr (r.0, omega (arith, less)))

    same_partition : (i j : ℕ) (p q : List ℕ) → item_at ps i ≡ Some p → item_at ps j ≡ Some q → j ≡ i → p ≡ q
    same_partition i j p q e f same = let h : Some p ≡ Some q = sym e ∙ ap (item_at ps) (sym same) ∙ f in cc

    module _ (i m : ℕ) (p : List ℕ) (at : item_at ps i ≡ Some p) (new : List (List ℕ)) (so_far : AreExtendedTo k n ps i (suc m) new) where
      abbrev Listed : List (List ℕ) → List ℕ → ℕ → Type 0
      Listed qs r l = IsIn (r ++ (l ∷ [])) qs ⊎ IsRuledOut k (r ++ (l ∷ []))

      -- The entry m is not taken, since the strand may not have it, or the partition is then ruled out.
      pub not_extended : (MayHave k p n m → IsRuledOut k (p ++ (m ∷ []))) → AreExtendedTo k n ps i m new
      not_extended never = record {
        each = λ q inq. one_behind_down i m q (so_far.each q inq);
        all = λ r l b may. by r l b may (behind_up i m b.0 l b.2);
        descending = so_far.descending;
      }
        where
          by : (r : List ℕ) (l : ℕ) (b : IsLaterEntry ps i m r l) → MayHave k r n l → ((b.0 < i) ⊎ ((b.0 ≡ i) × (suc m ≤ l))) ⊎ ((b.0 ≡ i) × (m ≡ l)) → Listed new r l
          by r l b may (inl before) = so_far.all r l (b.0, b.1, before) may
          by r l b may (inr now) =
              let e = same_partition i b.0 p r at b.1 now.0 in
              inr (subst₂ (λ (s : List ℕ) (t : ℕ). IsRuledOut k (s ++ (t ∷ []))) e now.1 (never (subst₂ (λ (s : List ℕ) (t : ℕ). MayHave k s n t) (sym e) (sym now.1) may)))

      -- What is listed is higher.
      lower_than : AreDescending ps → (q : List ℕ) → IsOneBehind k n ps i (suc m) q → IsLower (p ++ (m ∷ [])) q
      lower_than d q o = subst (IsLower (p ++ (m ∷ []))) (sym o.extended) (by o.behind.2)
        where
          by : (o.behind.0 < i) ⊎ ((o.behind.0 ≡ i) × (suc m ≤ o.entry)) → IsLower (p ++ (m ∷ [])) (o.partition ++ (o.entry ∷ []))
          by (inl less) = lower_with p o.partition m o.entry (descending_at ps o.behind.0 i p o.partition d less o.behind.1 at)
          by (inr r) = subst (λ (s : List ℕ). IsLower (p ++ (m ∷ [])) (s ++ (o.entry ∷ []))) (same_partition i o.behind.0 p o.partition at o.behind.1 r.0) (lower_last p m o.entry (let h = r.1 in omega (arith, h)))

      -- The entry m is taken.
      pub one_extended : AreDescending ps → MayHave k p n m → AreExtendedTo k n ps i m (new ++ ((p ++ (m ∷ [])) ∷ []))
      one_extended d may = record {
        each = λ q inq. from q (in_append new ((p ++ (m ∷ [])) ∷ []) inq);
        all = λ r l b allowed. by r l b allowed (behind_up i m b.0 l b.2);
        descending = descending_with new (p ++ (m ∷ [])) so_far.descending (λ q inq. lower_than d q (so_far.each q inq));
      }
        where
          from : (q : List ℕ) → IsIn q new ⊎ IsIn q ((p ++ (m ∷ [])) ∷ []) → IsOneBehind k n ps i m q
          from q (inl old) = one_behind_down i m q (so_far.each q old)
          from q (inr now) = record { partition = p; entry = m; extended = only_item now; behind = (i, at, inr (refl, omega arith)); may_have = may }

          more : (r : List ℕ) (l : ℕ) → Listed new r l → Listed (new ++ ((p ++ (m ∷ [])) ∷ [])) r l
          more r l (inl listed) = inl (in_append_left ((p ++ (m ∷ [])) ∷ []) listed)
          more r l (inr never) = inr never

          by : (r : List ℕ) (l : ℕ) (b : IsLaterEntry ps i m r l) → MayHave k r n l → ((b.0 < i) ⊎ ((b.0 ≡ i) × (suc m ≤ l))) ⊎ ((b.0 ≡ i) × (m ≡ l)) → Listed (new ++ ((p ++ (m ∷ [])) ∷ [])) r l
          by r l b allowed (inl before) = more r l (so_far.all r l (b.0, b.1, before) allowed)
          by r l b allowed (inr now) =
              inl (subst₂ (λ (s : List ℕ) (t : ℕ). IsIn (s ++ (t ∷ [])) (new ++ ((p ++ (m ∷ [])) ∷ []))) (same_partition i b.0 p r at b.1 now.0) now.1 (in_append_right new here))

    -- The partition is done, and the next begins.
    next_behind : (i j l : ℕ) → (j < i) ⊎ ((j ≡ i) × (0 ≤ l)) → (j < suc i) ⊎ ((j ≡ suc i) × (suc n ≤ l))
    next_behind i j l (inl less) = inl (omega (arith, less))
    next_behind i j l (inr r) = let e = r.0 in inl (omega (arith, e))

    was_behind : (i j l : ℕ) (p : List ℕ) → MayHave k p n l → (j < suc i) ⊎ ((j ≡ suc i) × (suc n ≤ l)) → (j < i) ⊎ ((j ≡ i) × (0 ≤ l))
    was_behind i j l p may (inl less) = by (eq-or-lt_of_le (omega (arith, less)))
      where
        by : (j ≡ i) ⊎ (j < i) → (j < i) ⊎ ((j ≡ i) × (0 ≤ l))
        by (inl e) = inr (e, omega arith)
        by (inr h) = inl h
    was_behind i j l p may (inr r) = absurd (let h = r.1 in let b = at_most p l may in omega (arith, h, b))

    pub next_extended : (i : ℕ) (new : List (List ℕ)) → AreExtendedTo k n ps i 0 new → AreExtendedTo k n ps (suc i) (suc n) new
    next_extended i new so_far = record {
      each = λ q inq. let o = so_far.each q inq in record { partition = o.partition; entry = o.entry; extended = o.extended; behind = (o.behind.0, o.behind.1, next_behind i o.behind.0 o.entry o.behind.2); may_have = o.may_have };
      all = λ p l b may. so_far.all p l (b.0, b.1, was_behind i b.0 l p may b.2) may;
      descending = so_far.descending;
    }

    -- All partitions are done.
    pub all_extended : (new : List (List ℕ)) → ArePartitionsOfFirst k n ps → AreExtendedTo k n ps (length ps) (suc n) new → ArePartitionsOfFirst k (suc n) new
    all_extended new are so_far = record {
      each = λ q inq. let o = so_far.each q inq in subst (IsPartitionOfFirst k (suc n)) (sym o.extended) (extended_is_partition o.partition (are.each o.partition (at_place ps o.behind.0 _ o.behind.1)) o.entry o.may_have);
      all = λ q part. let r = split_end n q part.each in subst (λ (x : List ℕ). IsIn x new ⊎ IsRuledOut k x) (sym r.2) (by r.0 r.1 r.3 (subst (IsPartitionOfFirst k (suc n)) r.2 part));
      descending = so_far.descending;
    }
      where
        at : (p : List ℕ) (l : ℕ) (len : length p ≡ n) → IsPartitionOfFirst k (suc n) (p ++ (l ∷ [])) → IsIn p ps ⊎ IsRuledOut k p → IsIn (p ++ (l ∷ [])) new ⊎ IsRuledOut k (p ++ (l ∷ []))
        at p l len part (inl listed) =
            let place = place_of listed in
            so_far.all p l (place.0, place.1, inl (item_below ps place.0 p place.1)) (last_may_have p l len part)
        at p l len part (inr out) = inr (still_ruled_out k n p (first_is_partition p l len part) l out)

        by : (p : List ℕ) (l : ℕ) (len : length p ≡ n) → IsPartitionOfFirst k (suc n) (p ++ (l ∷ [])) → IsIn (p ++ (l ∷ [])) new ⊎ IsRuledOut k (p ++ (l ∷ []))
        by p l len part = at p l len part (are.all p (first_is_partition p l len part))

-- Of no strand there is one partition.
pub first_partition : (k : Skeleton) → ArePartitionsOfFirst k 0 ([] ∷ [])
first_partition k = record {
  each = λ p i. subst (IsPartitionOfFirst k 0) (sym (only_item i)) (record { each = refl; lowest = λ s l e. absurd (cc); alike = λ s l e ne. absurd (cc) });
  all = λ p part. inl (empty_in p part.each);
  descending = (λ q i. elim i [ ], tt);
}

-- A partition of all strands.
pub of_all : (k : Skeleton) (p : List ℕ) → IsPartitionOfFirst k (length k.strands) p → IsPartitionByRole k p
of_all k p part = record { each = part.each; lowest = part.lowest; alike = part.alike }

pub of_first_all : (k : Skeleton) (p : List ℕ) → IsPartitionByRole k p → IsPartitionOfFirst k (length k.strands) p
of_first_all k p part = record { each = part.each; lowest = part.lowest; alike = part.alike }
