-- The example's problem has one root: itself.
use Rattle.std.proofs.Common.{◌≡◌, inl, inr, ℕ, zero, suc, ◌<◌, List, [], ◌∷◌, Some, refl, sym, ap, ⊎_elim, arith}
use Rattle.cp_lists.specs.Lists.{IsIn, one_step, more_steps}
use Rattle.cp_lists.proofs.Members.{not_in_none}
use Rattle.cp_model.specs.Term.{Term}
use Rattle.cp_model.specs.Strand.{payload}
use Rattle.cp_model.specs.declared.strand.Event.{Event}
use Rattle.cp_model.specs.declared.strand.Event.TheVariants.{Send as send, Receive as recv}
use Rattle.cp_model.specs.Bundle.{node_at}
use Rattle.cp_model.specs.declared.node.Node.{Node}
use Rattle.cp_model.specs.declared.node.OrderPair.{OrderPair}
use Rattle.cp_model.specs.Skeleton.{term_event_at, OrderStep, along_strand_of, along_pair, Before}
use Rattle.cp_theory.specs.Normal.{with_pairs}
use Rattle.cp_collapse.specs.Collapses.{no_collapses, AreCollapses}
use Rattle.cp_collapse.specs.Partitions.{IsPartitionByRole, finest}
use Rattle.cp_normal.specs.Findings.{IsAddedPair, ClosesCycle, AreNormalPairs, IsContradictory}
use Rattle.cp_normal.specs.Exact.{HasForms, normal}
use Rattle.cp_theory.specs.EncryptionExamples.{locked, heard}
use Rattle.cp_cohort.proofs.OneChild.{key_is_not_carried}
use Rattle.cp_roots.specs.Roots.{AreRoots}
use Rattle.cp_roots.specs.Roots as rooting
use Rattle.cp_tree.specs.Example.{heard_root}

-- ---- its one normal form

-- Each event has the encryption.
each_locked : (s i : ℕ) (e : Event Term) → term_event_at heard.strands (node_at s i) ≡ Some e → payload e ≡ locked
each_locked zero zero e at = let same : recv locked ≡ e = cc in ap payload (sym same)
each_locked zero (suc zero) e at = let same : send locked ≡ e = cc in ap payload (sym same)
each_locked zero (suc (suc i)) e at = absurd (cc)
each_locked (suc s) i e at = absurd (cc)

none_added : (p : OrderPair) → IsAddedPair heard p → ⊥
none_added p added = not_in_none added.0.listed

-- With no pairs the order is that of strands.
module _ (pairs : List OrderPair) (none : (p : OrderPair) → IsIn p pairs → ⊥) where
  step_rises : {x y : Node} → OrderStep (with_pairs heard pairs) x y → x.index < y.index
  step_rises (along_strand_of {s = s} {i = i} ev) = omega arith
  step_rises (along_pair {p = p} i) = absurd (none p i)

  rises : {x y : Node} → Before (with_pairs heard pairs) x y → x.index < y.index
  rises (one_step s) = step_rises s
  rises {x} {y = z} (more_steps {y = y} s p) = let l : x.index < y.index = step_rises s in let m : y.index < z.index = rises p in omega (arith, l, m)

closes_no_cycle : ClosesCycle heard → ⊥
closes_no_cycle c =
    let none : (p : OrderPair) → IsIn p c.pairs → ⊥ = (λ p i. ⊎_elim (λ own. not_in_none own) (λ added. none_added p added) ((c.normal p).0 i)) in
    let l : c.node.index < c.node.index = rises c.pairs none c.cycle in
    omega (arith, l)

consistent : IsContradictory heard → ⊥
consistent (inl carries) = key_is_not_carried heard refl each_locked carries
consistent (inr (inl two)) = not_in_none two.first_listed
consistent (inr (inr (inl lost))) = not_in_none lost.listed
consistent (inr (inr (inr cycle))) = closes_no_cycle cycle

normal_pairs : AreNormalPairs heard []
normal_pairs p = (λ i. inl i, λ e. ⊎_elim (λ i. i) (λ added. absurd (none_added p added)) e)

has_form : HasForms heard (heard ∷ [])
has_form = normal (λ u x misplaced. not_in_none misplaced.listed) normal_pairs consistent

-- ---- no collapses

one_partition : (p : List ℕ) → IsPartitionByRole heard p → p ≡ finest heard
one_partition [] is = absurd (let e = is.each in omega (arith, e))
one_partition (n ∷ []) is = let l = (is.lowest 0 n refl).0 in let first : n ≡ 0 = omega (arith, l) in ap (λ (m : ℕ). m ∷ []) first
one_partition (n ∷ m ∷ p) is = absurd (let e = is.each in omega (arith, e))

abbrev collapses_none : AreCollapses heard []
collapses_none = record { partitions = []; each = no_collapses; descending = tt; all = λ p is other. absurd (other (one_partition p is)) }

pub heard_roots : AreRoots heard (heard_root ∷ [])
heard_roots = record { forms = heard ∷ []; collapses = []; others = []; has_forms = has_form; are_collapses = collapses_none; of_collapses = rooting.no_collapses; whole = refl }
