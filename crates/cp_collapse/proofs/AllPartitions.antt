-- The loop over the partitions of all strands, as the program keeps them.
use Rattle.std.proofs.Common.{◌≡◌, ◌⊎◌, inl, inr, ℕ, suc, ◌≤◌, ◌+◌, ◌-◌, List, [], ◌∷◌, ◌++◌, Some, length, refl, sym, ap, ◌∙◌, subst, arith}
use Rattle.cp_lists.specs.Lists.{item_at, IsIn}
use Rattle.cp_model.specs.Skeleton.{Skeleton}
use Rattle.cp_lists.proofs.Items.{item_below, at_place}
use Rattle.cp_lists.proofs.Members.{in_append, only_item}
use Rattle.cp_collapse.specs.Collapses.{IsCollapsed, HasNoCycle, IsImpossible, AreCollapses}
use Rattle.cp_collapse.specs.FirstPartitions.{ArePartitionsOfFirst, AreCollapsedTo}
use Rattle.cp_collapse.specs.Partitions.{IsPartitionByRole, finest}
use Rattle.cp_collapse.proofs.Collapsed.{finest_first, later_not_finest, none_collapsed, not_collapsed, one_collapsed, all_collapsed}
use Rattle.cp_collapse.proofs.Extended.{of_all}

module _ (k : Skeleton) (ps : List (List ℕ)) (are : ArePartitionsOfFirst k (length k.strands) ps) where
  pub first_done : (ls : List Skeleton) → ls ≡ [] → AreCollapsedTo k ps 1 ls
  first_done ls e = subst (AreCollapsedTo k ps 1) (sym e) (not_collapsed k ps 0 (finest k) (finest_first k ps are) [] (none_collapsed k ps) (λ ne. absurd (ne refl)))

  pub whole : (i : ℕ) (p : List ℕ) → item_at ps i ≡ Some p → IsPartitionByRole k p
  whole i p at = of_all k p (are.each p (at_place ps i _ at))

  module _ (i : ℕ) (p : List ℕ) (at : item_at ps i ≡ Some p) (ls : List Skeleton) (so_far : AreCollapsedTo k ps i ls) where
    pub none_more : IsImpossible k p → AreCollapsedTo k ps (i + 1) ls
    none_more never = let next : suc i ≡ i + 1 = omega arith in subst (λ (m : ℕ). AreCollapsedTo k ps m ls) next (not_collapsed k ps i p at ls so_far (λ ne. never))

    pub one_more : 1 ≤ i → (l : Skeleton) (new : List Skeleton) → IsCollapsed k p l → HasNoCycle l → new ≡ ls ++ (l ∷ []) → AreCollapsedTo k ps (i + 1) new
    one_more le l new c none e =
        let next : suc i ≡ i + 1 = omega arith in
        let before : i ≡ suc (i - 1) = omega (arith, le) in
        subst (AreCollapsedTo k ps (i + 1)) (sym e) (subst (λ (m : ℕ). AreCollapsedTo k ps m (ls ++ (l ∷ []))) next
        (one_collapsed k ps i p at ls so_far l are.descending (record { partition = whole i p at; not_finest = later_not_finest k ps are (i - 1) p (ap (item_at ps) (sym before) ∙ at); collapsed = c; no_cycle = none })))

  pub all_done : (i : ℕ) (ls : List Skeleton) → length ps ≤ i → AreCollapsedTo k ps i ls → AreCollapses k ls
  all_done i ls done a = all_collapsed k ps ls are (record {
    partitions = a.partitions;
    each = a.each;
    descending = a.descending;
    from = λ q inq. let r = a.from q inq in (r.0, item_below ps r.0 q r.2, r.2);
    all = λ j p less at ne. a.all j p (omega (arith, less, done)) at ne;
  })

-- Each of the program's collapses has the variables of k.
abbrev pub HaveVariablesOf : Skeleton → List Skeleton → Type 0
HaveVariablesOf k ls = (l : Skeleton) → IsIn l ls → l.variables ≡ k.variables

pub none_of_these : (k : Skeleton) (ls : List Skeleton) → ls ≡ [] → HaveVariablesOf k ls
none_of_these k ls e l i = elim (subst (IsIn l) e i) [ ]

pub one_of_these : (k : Skeleton) (ls new : List Skeleton) (l : Skeleton) → HaveVariablesOf k ls → l.variables ≡ k.variables → new ≡ ls ++ (l ∷ []) → HaveVariablesOf k new
one_of_these k ls new l old same e m i = by (in_append ls (l ∷ []) (subst (IsIn m) e i))
  where
    by : IsIn m ls ⊎ IsIn m (l ∷ []) → m.variables ≡ k.variables
    by (inl j) = old m j
    by (inr j) = subst (λ (n : Skeleton). n.variables ≡ k.variables) (sym (only_item j)) same
