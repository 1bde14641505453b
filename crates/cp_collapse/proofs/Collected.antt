-- A skeleton whose strands say the same as merged ones is collapsed; and what the program's tests say of it.
use Rattle.std.proofs.Common.{◌≡◌, inl, inr, ℕ, suc, ◌<◌, ◌≤◌, List, length, refl, sym, ap, ◌∙◌, subst, arith}
use native.Mathlib.Decide.{dec_lt}
use Rattle.cp_lists.specs.Lists.{IsIn, one_step}
use Rattle.cp_model.specs.Term.{Substitution}
use Rattle.cp_model.specs.Given.{listed}
use Rattle.cp_model.specs.Skeleton.{SkeletonStrand, Assumptions, Skeleton, IsOrderPair, along_pair}
use Rattle.cp_model.specs.declared.node.OrderPair.{OrderPair}
use Rattle.cp_model.proofs.LawPrefixes.{variables_of_higher}
use Rattle.cp_unify.specs.Bindings.{Binding, as_substitution}
use Rattle.cp_collapse.specs.SameSkeletons.{AreSameStrands, no_strands, same_strands}
use Rattle.cp_collapse.specs.Collapses.{ArePairsIn, LiesOnOne, assumptions_in, IsFromProblemIn, IsCollapsed, HasNoCycle, IsImpossible}
use Rattle.cp_collapse.specs.Cycles.{ClosesCycleAt}
use Rattle.cp_collapse.specs.Property.{Has}
use Rattle.cp_collapse.specs.FirstPartitions.{IsExactFor}
use Rattle.cp_collapse.specs.MergedStrands.{AreMergedAlike}
use Rattle.cp_collapse.specs.Partitions.{IsPartitionByRole, IdentifiesValues}
use Rattle.cp_collapse.proofs.CyclesByPairs.{closed_of_cycle, cycle_of_closed}
use Rattle.cp_collapse.proofs.Exact.{exact_is_most_general}
use Rattle.cp_collapse.proofs.MergedSkeletons.{merged_pairs}
use Rattle.cp_collapse.proofs.MergedStrands.{HasMergedStrands, has_merged_strands}
use Rattle.cp_collapse.proofs.SameStrands.{all_same_back, instance_at, listener_at}

same_count : {ss ts : List SkeletonStrand} → AreSameStrands ss ts → length ts ≡ length ss
same_count no_strands = refl
same_count (same_strands e more) = ap suc (same_count more)

-- Merged strands may say the same by other terms.
like_merged : (k l : Skeleton) (p : List ℕ) (f : Substitution) (ss : List SkeletonStrand) → AreSameStrands ss l.strands → HasMergedStrands k p f (record l { strands = ss }) → HasMergedStrands k p f l
like_merged k l p f ss same m = record {
  count = same_count same ∙ m.count;
  instances = λ s role height terms at.
      let g = m.instances s role height terms at in
      let i = instance_at (all_same_back same) _ role g.to_height g.to_terms g.on_instance in
      record { to_height = g.to_height; to_terms = i.0; on_instance = i.1; at_least = g.at_least; equal_terms = λ x n. g.equal_terms x n ∙ sym (i.2 x (variables_of_higher role height g.to_height g.at_least x n)) };
  tallest = λ place role height terms at. let i = instance_at same place role height terms at in m.tallest place role height i.0 i.1;
  listeners = λ s t at. listener_at (all_same_back same) _ _ (m.listeners s t at);
}

alike_merged : (k l : Skeleton) (p : List ℕ) (r : List Binding) (ss : List SkeletonStrand) → IsPartitionByRole k p → IsExactFor (IdentifiesValues k p) r → AreMergedAlike k p (as_substitution r) (length p) ss → l.strands ≡ ss →
    HasMergedStrands k p (as_substitution r) l
alike_merged k l p r ss part exact m views =
    like_merged k l p (as_substitution r) m.exact (subst (AreSameStrands m.exact) (sym views) m.alike) (has_merged_strands k (record l { strands = m.exact }) p r part exact m.merged)

-- A skeleton with merged strands, and with the images of all else, is collapsed when its assumptions are listed.
is_collapsed : (k m : Skeleton) (p : List ℕ) (r : List Binding) → IsExactFor (IdentifiesValues k p) r → HasMergedStrands k p (as_substitution r) m →
    ArePairsIn p k.pairs m.pairs → ((q : OrderPair) → IsIn q k.pairs → LiesOnOne p q → q.earlier.index < q.later.index) →
    m.assumptions ≡ assumptions_in p (as_substitution r) k.assumptions → IsFromProblemIn p (as_substitution r) k.from_problem m.from_problem → IsCollapsed k p (record m { assumptions = listed m })
is_collapsed k m p r exact strands pairs forward assumptions from_problem = record {
  unifier = as_substitution r;
  most_general = exact_is_most_general k p r exact;
  count = strands.count;
  instances = λ s role height terms at.
      let g = strands.instances s role height terms at in
      record { to_height = g.to_height; to_terms = g.to_terms; on_instance = g.on_instance; at_least = g.at_least; equal_terms = g.equal_terms };
  tallest = strands.tallest;
  listeners = strands.listeners;
  pairs = pairs;
  forward = forward;
  assumptions = ap (λ (a : Assumptions). listed (record m { assumptions = a })) assumptions;
  from_problem = from_problem;
}

pub listed_collapsed : (k m l : Skeleton) (p : List ℕ) (r : List Binding) (ss : List SkeletonStrand) → IsPartitionByRole k p → IsExactFor (IdentifiesValues k p) r → AreMergedAlike k p (as_substitution r) (length p) ss → m.strands ≡ ss →
    ArePairsIn p k.pairs m.pairs → ((q : OrderPair) → IsIn q k.pairs → LiesOnOne p q → q.earlier.index < q.later.index) →
    m.assumptions ≡ assumptions_in p (as_substitution r) k.assumptions → IsFromProblemIn p (as_substitution r) k.from_problem m.from_problem → l ≡ record m { assumptions = listed m } → IsCollapsed k p l
listed_collapsed k m l p r ss part exact merged views pairs forward assumptions from_problem is =
    subst (IsCollapsed k p) (sym is) (is_collapsed k m p r exact (alike_merged k m p r ss part exact merged views) pairs forward assumptions from_problem)

-- ---- the tests

-- Where no pair lies backward, those that lie on one strand go forward.
pub all_forward : (k : Skeleton) (p : List ℕ) → (Has (λ q. LiesOnOne p q × (q.later.index ≤ q.earlier.index)) k.pairs → ⊥) → (q : OrderPair) → IsIn q k.pairs → LiesOnOne p q → q.earlier.index < q.later.index
all_forward k p none q i one = by (dec_lt q.earlier.index q.later.index)
  where
    by : Dec (q.earlier.index < q.later.index) → q.earlier.index < q.later.index
    by (yes less) = less
    by (no not) = absurd (none (q, i, (one, omega (arith, not))))

pub backward_impossible : (k : Skeleton) (p : List ℕ) → ((q : OrderPair) → IsIn q k.pairs → IsOrderPair k q) → Has (λ q. LiesOnOne p q × (q.later.index ≤ q.earlier.index)) k.pairs → IsImpossible k p
backward_impossible k p order_pairs h =
    let o = order_pairs h.0 h.1 in
    inr (inl (record { order_pairs = order_pairs; from = h.0.earlier; to = h.0.later; way = one_step (along_pair h.1); other_strand = o.between_strands; on_one = h.2.0; backward = h.2.1 }))

pub cycle_impossible : (k l : Skeleton) (p : List ℕ) → ((q : OrderPair) → IsIn q k.pairs → IsOrderPair k q) → IsCollapsed k p l → Has (λ q. ClosesCycleAt l.pairs q.earlier) l.pairs → IsImpossible k p
cycle_impossible k l p order_pairs c h =
    let n = cycle_of_closed l (merged_pairs k l p c order_pairs) h in
    inr (inr (record { merged = l; collapsed = c; node = n.0; cycle = n.1 }))

pub no_cycle_left : (l : Skeleton) → (Has (λ q. ClosesCycleAt l.pairs q.earlier) l.pairs → ⊥) → HasNoCycle l
no_cycle_left l none n b = none (closed_of_cycle l n b)
