-- With fewer than two instances among its strands a skeleton has no collapses: there is nothing to identify.
use Rattle.std.proofs.Common.{◌≡◌, ◌⊎◌, inl, inr, ℕ, zero, suc, ◌+◌, ◌<◌, ◌≤◌, nat_lt, false, cond, List, [], ◌∷◌, Some, refl, sym, ap, ◌∙◌, arith, eq-or-lt_of_le}
use Rattle.std.specs.List.{count_by}
use Rattle.std.proofs.lemmas.Bool.{ltb-false}
use Rattle.std.proofs.lemmas.List.Recursion.{is_count_by}
use Rattle.cp_lists.specs.Lists.{item_at}
use Rattle.cp_model.specs.Bindings.{Binding}
use Rattle.cp_model.specs.Strand.{Role}
use Rattle.cp_model.specs.Skeleton.{SkeletonStrand, instance, listener, Skeleton}
use Rattle.cp_model.specs.Problem.{numbers_from}
use Rattle.cp_model.proofs.NumbersFrom.{numbers_length}
use Rattle.cp_lists.proofs.Items.{item_there}
use Rattle.cp_lists.proofs.SameLists.{same_items}
use Rattle.cp_skel.specs.Events.{is_role_strand}
use Rattle.cp_collapse.specs.Partitions.{IsPartitionByRole, finest}
use Rattle.cp_collapse.specs.Collapses.{no_collapses, AreCollapses}
use Rattle.cp_collapse.proofs.Lowest.{at_numbers}

-- How many of the strands are instances.
abbrev instances : List SkeletonStrand → ℕ
instances [] = 0
instances (s ∷ ss) = cond (is_role_strand s) (1 + instances ss) (instances ss)

one_more : (s : SkeletonStrand) (n m : ℕ) → m ≤ n → m ≤ cond (is_role_strand s) (1 + n) n
one_more (instance role height terms) n m l = omega (arith, l)
one_more (listener t) n m l = l

first_counts : (s : SkeletonStrand) (role : Role) (height : ℕ) (terms : List Binding) (n m : ℕ) → Some s ≡ Some (instance role height terms) → m ≤ n → suc m ≤ cond (is_role_strand s) (1 + n) n
first_counts (instance role' height' terms') role height terms n m e l = omega (arith, l)
first_counts (listener t) role height terms n m e l = absurd (cc)

one_there : (ss : List SkeletonStrand) (i : ℕ) (role : Role) (height : ℕ) (terms : List Binding) → item_at ss i ≡ Some (instance role height terms) → 1 ≤ instances ss
one_there [] i role height terms e = absurd (cc)
one_there (s ∷ ss) zero role height terms e = first_counts s role height terms (instances ss) 0 e (omega arith)
one_there (s ∷ ss) (suc i) role height terms e = one_more s (instances ss) 1 (one_there ss i role height terms e)

two_there : (ss : List SkeletonStrand) (i j : ℕ) (role : Role) (height : ℕ) (terms : List Binding) (height' : ℕ) (terms' : List Binding) → i < j →
    item_at ss i ≡ Some (instance role height terms) → item_at ss j ≡ Some (instance role height' terms') → 2 ≤ instances ss
two_there [] i j role height terms height' terms' l e f = absurd (cc)
two_there (s ∷ ss) i zero role height terms height' terms' l e f = absurd (omega (arith, l))
two_there (s ∷ ss) zero (suc j) role height terms height' terms' l e f = first_counts s role height terms (instances ss) 1 e (one_there ss j role height' terms' f)
two_there (s ∷ ss) (suc i) (suc j) role height terms height' terms' l e f = one_more s (instances ss) 2 (two_there ss i j role height terms height' terms' (omega (arith, l)) e f)

module _ (k : Skeleton) (few : instances k.strands < 2) where
  -- Each strand is the lowest of its block.
  alone : (p : List ℕ) (part : IsPartitionByRole k p) (s l : ℕ) → item_at p s ≡ Some l → (l ≡ s) ⊎ (l < s) → l ≡ s
  alone p part s l e (inl same) = same
  alone p part s l e (inr less) =
      let a = part.alike s l e (λ same. omega (arith, same, less)) in
      let two = two_there k.strands l s a.role a.height' a.terms' a.height a.terms less a.second a.first in
      absurd (omega (arith, two, few))

  entry : (p : List ℕ) → IsPartitionByRole k p → (s n : ℕ) → item_at (numbers_from 0 k.strands) s ≡ Some n → item_at p s ≡ Some n
  entry p part s n e =
      let at = at_numbers 0 k.strands s n e in
      let below = at.0 in
      let each = part.each in
      let own = at.1 in
      let r = item_there p s (omega (arith, below, each)) in
      let lowest = (part.lowest s r.0 r.1).0 in
      let same : r.0 ≡ s = alone p part s r.0 r.1 (eq-or-lt_of_le lowest) in
      r.1 ∙ ap Some (omega (arith, same, own))

  only_finest : (p : List ℕ) → IsPartitionByRole k p → p ≡ finest k
  only_finest p part = same_items p (finest k) (part.each ∙ sym (numbers_length 0 k.strands)) (entry p part)

  none_to_identify : AreCollapses k []
  none_to_identify = record { partitions = []; each = no_collapses; descending = tt; all = λ p part ne. absurd (ne (only_finest p part)) }

counted : (strands : List SkeletonStrand) → instances strands ≡ count_by is_role_strand strands
counted strands = is_count_by instances is_role_strand refl (λ s ss. refl) strands

-- A skeleton of these strands, of which not two are instances.
pub nothing_to_identify : (k : Skeleton) (strands : List SkeletonStrand) → k.strands ≡ strands → nat_lt 1 (count_by is_role_strand strands) ≡ false → AreCollapses k []
nothing_to_identify k strands e test =
    let count : instances k.strands ≡ count_by is_role_strand strands = ap instances e ∙ counted strands in
    let bound : count_by is_role_strand strands ≤ 1 = ltb-false 1 (count_by is_role_strand strands) test in
    none_to_identify k (omega (arith, count, bound))
