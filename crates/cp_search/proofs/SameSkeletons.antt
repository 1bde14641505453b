-- Pairs and skeletons that are found to be the same.
use Rattle.std.proofs.Common.{◌≡◌, ℕ, List, Bool, true, ◌&&◌, sym, ap, ap₂, subst, arith}
use Rattle.std.specs.Prelude.{◌==◌}
use Rattle.std.specs.Bool.{Decides}
use Rattle.std.specs.Cmp.Lexicographic.{pointwise}
use Rattle.std.proofs.lemmas.Bool.Decides.{nat_tests}
use Rattle.std.proofs.lemmas.Slice.Eq.{slice_eq-Decides}
use Rattle.cp_model.specs.Skeleton.{Skeleton}
use Rattle.cp_model.specs.Bundle.{node_at}
use Rattle.cp_model.specs.declared.node.OrderPair.{OrderPair}
use Rattle.cp_model.proofs.LawEmbeddings.{embeds_same}
use Rattle.cp_skel.specs.Tables.{DiffersInTable}
use Rattle.cp_fingerprint.specs.Isomorphic.{IsIsomorphic}
use Rattle.cp_expansion.proofs.Tables.{embeds_tabled}

-- ---- pairs

are_tested : (i j m n i' j' m' n' : ℕ) → (((i == i') && (j == j')) && ((m == m') && (n == n'))) ≡ true → (i ≡ i') × (j ≡ j') × (m ≡ m') × (n ≡ n')
are_tested i j m n i' j' m' n' e = grind (arith, nat_tests)

test_true : (i j m n i' j' m' n' : ℕ) → i ≡ i' → j ≡ j' → m ≡ m' → n ≡ n' → (((i == i') && (j == j')) && ((m == m') && (n == n'))) ≡ true
test_true i j m n i' j' m' n' p q r s = grind (arith, nat_tests)

pair_told : (p q : OrderPair) → Decides (((p.earlier.strand == q.earlier.strand) && (p.earlier.index == q.earlier.index)) && ((p.later.strand == q.later.strand) && (p.later.index == q.later.index))) (p ≡ q)
pair_told p q = (
  λ e.
      let h = are_tested _ _ _ _ _ _ _ _ e in
      let earlier : p.earlier ≡ q.earlier = ap₂ node_at h.0 h.1 in
      let later : p.later ≡ q.later = ap₂ node_at h.2 h.3 in
      ap₂ (λ x y. record { earlier = x; later = y }) earlier later,
  λ e. test_true _ _ _ _ _ _ _ _ (ap (λ (r : OrderPair). r.earlier.strand) e) (ap (λ (r : OrderPair). r.earlier.index) e) (ap (λ (r : OrderPair). r.later.strand) e) (ap (λ (r : OrderPair). r.later.index) e),
)

-- Lists of pairs that are found equal are.
pub same_pairs : (ps qs : List OrderPair) (found : Bool) →
    found ≡ pointwise (λ (p q : OrderPair). ((p.earlier.strand == q.earlier.strand) && (p.earlier.index == q.earlier.index)) && ((p.later.strand == q.later.strand) && (p.later.index == q.later.index))) ps qs → found ≡ true → ps ≡ qs
same_pairs ps qs found is e = (slice_eq-Decides pair_told ps qs found is).0 e

-- ---- skeletons

-- Skeletons that differ in their tables of variables alone are isomorphic.
pub isomorphic_tabled : (a b : Skeleton) → DiffersInTable a b → IsIsomorphic a b
isomorphic_tabled a b differs =
    subst (IsIsomorphic a) (sym differs) (embeds_tabled a a a.variables b.variables (embeds_same a), embeds_tabled a a b.variables a.variables (embeds_same a))
