-- The tests of a normal skeleton, put together.
use Rattle.std.proofs.Common.{◌≡◌, ◌↔◌, ◌⊎◌, inl, inr, List, Bool, true, false, refl, sym, ap, subst}
use Rattle.cp_lists.specs.Lists.{IsIn, one_step, more_steps}
use Rattle.cp_lists.proofs.Reached.{steps_append}
use Rattle.cp_model.specs.declared.strand.Event.TheVariants.{Receive as recv}
use Rattle.cp_model.specs.declared.node.Node.{Node}
use Rattle.cp_model.specs.declared.node.OrderPair.{OrderPair}
use Rattle.cp_model.specs.Order.{ReachesAlong}
use Rattle.cp_model.specs.Skeleton.{Skeleton, OrderStep, along_strand_of, along_pair, Before}
use Rattle.cp_model.proofs.LawOrder.{before_leads, leads_before}
use Rattle.cp_theory.specs.Normal.{with_pairs}
use Rattle.cp_skel.specs.Sound.{IsSound}
use Rattle.cp_model.proofs.CarriedParts.{not_both}
use Rattle.cp_normal.specs.Findings.{IsAddedPair, AreNormalPairs, ClosesCycle}
use Rattle.cp_normal.specs.NormalForms.{IsNormal}
use Rattle.cp_normal.specs.Branches.{IsSettled}
use Rattle.cp_normal.specs.Exact.{IsRefuted}
use Rattle.cp_normal.specs.OwnPairs.{AllLead}
use Rattle.cp_normal.proofs.Normalised.{contradictory, consistent}

-- ---- pairs that are in an order without cycles close none

module _ (k : Skeleton) (before : (p : OrderPair) → IsAddedPair k p → Before k p.earlier p.later) (ps : List OrderPair) (normal_pairs : AreNormalPairs k ps) where
  pair_within : (p : OrderPair) → IsIn p k.pairs ⊎ IsAddedPair k p → Before k p.earlier p.later
  pair_within p (inl i) = one_step (along_pair i)
  pair_within p (inr a) = before p a

  step_within : (x y : Node) → OrderStep (with_pairs k ps) x y → Before k x y
  step_within x y (along_strand_of e) = one_step (along_strand_of e)
  step_within x y (along_pair {p = p} m) = pair_within p ((normal_pairs p).0 m)

  way_within : (x y : Node) → Before (with_pairs k ps) x y → Before k x y
  way_within x y (one_step s) = step_within x y s
  way_within x z (more_steps {y = y} s r) = steps_append (step_within x y s) (way_within y z r)

pub closes_none : (k : Skeleton) → ((p : OrderPair) → IsAddedPair k p → Before k p.earlier p.later) → ((n : Node) → Before k n n → ⊥) → ClosesCycle k → ⊥
closes_none k before no_cycle c = no_cycle c.node (way_within k before c.pairs c.normal c.node c.node c.cycle)

-- ---- what the tests say

-- A skeleton that is refuted, or in which a unique value is misplaced, is not normal.
pub refuted_not_normal : (k : Skeleton) → IsRefuted k → (false ≡ true) ↔ IsNormal k
refuted_not_normal k r = (λ e. absurd (not_both refl e), λ n. absurd (n.consistent (contradictory k r)))

pub misplaced_not_normal : (k : Skeleton) → (IsSettled k → ⊥) → (false ≡ true) ↔ IsNormal k
misplaced_not_normal k misplaced = (λ e. absurd (not_both refl e), λ n. absurd (misplaced n.no_misplaced))

-- Any other is normal exactly where its order has the pairs that are added.
pub normal_if : (k : Skeleton) (own added : List OrderPair) (all : Bool) → IsSound k → own ≡ k.pairs → (IsRefuted k → ⊥) → IsSettled k → ((p : OrderPair) → IsIn p added ↔ IsAddedPair k p)
    → (all ≡ true) ↔ AllLead own added → (all ≡ true) ↔ IsNormal k
normal_if k own added all sound same refuted settled are h = (λ e. normal (each (h.0 e)), λ n. h.1 (lead n))
  where
    apart : (p : OrderPair) → IsAddedPair k p → (p.earlier ≡ p.later) ⊎ Before k p.earlier p.later → Before k p.earlier p.later
    apart p a (inl e) = absurd (a.1 (ap (λ (n : Node). n.strand) e))
    apart p a (inr b) = b

    each : AllLead own added → (p : OrderPair) → IsAddedPair k p → Before k p.earlier p.later
    each l p a =
        apart p a (leads_before k sound.skeleton.order_pairs p.earlier p.later (recv a.0.received, a.0.reception) (subst (λ (ps : List OrderPair). ReachesAlong ps p.earlier p.later) same (l p ((are p).1 a))))

    normal : ((p : OrderPair) → IsAddedPair k p → Before k p.earlier p.later) → IsNormal k
    normal before = record { consistent = consistent k refuted (closes_none k before sound.skeleton.no_cycle); no_misplaced = settled; ordered = before }

    lead : IsNormal k → AllLead own added
    lead n p m = subst (λ (ps : List OrderPair). ReachesAlong ps p.earlier p.later) (sym same) (before_leads k p.earlier p.later (n.ordered p ((are p).0 m)))
