-- The order of a skeleton by strands and pairs alone.
use Rattle.std.proofs.Common.{Some, ◌≡◌, ◌↔◌, ◌⊎◌, inl, inr, ℕ, zero, suc, ◌<◌, List, refl, sym, ◌∙◌, subst, arith}
use Rattle.cp_lists.specs.Lists.{item_at, IsIn, one_step, more_steps}
use Rattle.cp_lists.proofs.Items.{item_before}
use Rattle.cp_lists.proofs.Reached.{steps_append}
use Rattle.cp_lists.proofs.Least.{less_or_same}
use Rattle.cp_model.specs.Strand.{send}
use Rattle.cp_model.specs.Bundle.{node_at}
use Rattle.cp_model.specs.declared.node.Node.{Node}
use Rattle.cp_model.specs.Skeleton.{term_event_at, skeleton_trace_or_none, IsNodeOf, Skeleton, OrderStep, along_strand_of, along_pair, Before, IsOrderPair}
use Rattle.cp_model.specs.declared.node.OrderPair.{OrderPair}
use Rattle.cp_model.specs.Order.{IsAtOrAfter, ReachesAlong, on_strand, over_pair}

-- ---- a node that is before another reaches it

leads_from_before : (pairs : List OrderPair) (x y z : Node) → IsAtOrAfter x y → ReachesAlong pairs y z → ReachesAlong pairs x z
leads_from_before pairs x y z a (on_strand b) = on_strand (a.0 ∙ b.0, omega (arith, a.1, b.1))
leads_from_before pairs x y z a (over_pair m b l) = over_pair m (a.0 ∙ b.0, omega (arith, a.1, b.1)) l

step_leads : (k : Skeleton) (x y z : Node) → OrderStep k x y → ReachesAlong k.pairs y z → ReachesAlong k.pairs x z
step_leads k x y z (along_strand_of {s} {i} e) l = leads_from_before k.pairs (node_at s i) (node_at s (suc i)) z (refl, omega arith) l
step_leads k x y z (along_pair {p} m) l = over_pair m (refl, omega arith) l

pub before_leads : (k : Skeleton) (x y : Node) → Before k x y → ReachesAlong k.pairs x y
before_leads k x y (one_step s) = step_leads k x y y s (on_strand (refl, omega arith))
before_leads k x z (more_steps {y} s l) = step_leads k x y z s (before_leads k y z l)

-- ---- a node that reaches another is before it

-- up a strand to an event
along : (k : Skeleton) (s i j : ℕ) → i < j → IsNodeOf k.strands (node_at s j) → Before k (node_at s i) (node_at s j)
along k s i zero l n = absurd (omega arith)
along k s i (suc j) l n =
    let below : IsNodeOf k.strands (node_at s j) = item_before (skeleton_trace_or_none (item_at k.strands s)) j (suc j) n.0 n.1 (omega arith) in
    let last : Before k (node_at s j) (node_at s (suc j)) = one_step (along_strand_of n.1) in
    elim (less_or_same i j l) as (λ _. Before k (node_at s i) (node_at s (suc j))) [
      | inl less ↦ steps_append (along k s i j less below) last
      | inr same ↦ subst (λ h. Before k (node_at s h) (node_at s (suc j))) (sym same) last
    ]

same_or_along : (k : Skeleton) (x y : Node) → IsAtOrAfter x y → IsNodeOf k.strands y → (x ≡ y) ⊎ Before k x y
same_or_along k x y a n = elim (less_or_same x.index y.index (omega (arith, a.1))) as (λ _. (x ≡ y) ⊎ Before k x y) [
  | inl less ↦ inr (subst (λ s. Before k (node_at s x.index) y) (sym a.0) (along k y.strand x.index y.index less n))
  | inr same ↦ inl (λ i. record { strand = a.0 i; index = same i })
]

then_before : (k : Skeleton) (x y z : Node) → (x ≡ y) ⊎ Before k x y → Before k y z → Before k x z
then_before k x y z (inl e) b = subst (λ (n : Node). Before k n z) (sym e) b
then_before k x y z (inr a) b = steps_append a b

before_then : (k : Skeleton) (x y z : Node) → Before k x y → (y ≡ z) ⊎ Before k y z → Before k x z
before_then k x y z a (inl e) = subst (Before k x) e a
before_then k x y z a (inr b) = steps_append a b

module _ (k : Skeleton) (order_pairs : (p : OrderPair) → IsIn p k.pairs → IsOrderPair k p) where
  is_node : (p : OrderPair) → IsIn p k.pairs → IsNodeOf k.strands p.earlier
  is_node p m = (send (order_pairs p m).sent, (order_pairs p m).transmission)

  pub leads_before : (x y : Node) → IsNodeOf k.strands y → ReachesAlong k.pairs x y → (x ≡ y) ⊎ Before k x y
  leads_before x y n (on_strand a) = same_or_along k x y a n
  leads_before x y n (over_pair {p} m a l) =
      inr (then_before k x p.earlier y (same_or_along k x p.earlier a (is_node p m))
      (before_then k p.earlier p.later y (one_step (along_pair m)) (leads_before p.later y n l)))

  differ : (x y : Node) → (x ≡ y → ⊥) → (x ≡ y) ⊎ Before k x y → Before k x y
  differ x y other (inl e) = absurd (other e)
  differ x y other (inr b) = b

  pub before_by_pairs : ((n : Node) → Before k n n → ⊥) → (x y : Node) → IsNodeOf k.strands y → Before k x y ↔ (ReachesAlong k.pairs x y × (x ≡ y → ⊥))
  before_by_pairs no_cycle x y n =
      (λ b. (before_leads k x y b, λ e. no_cycle x (subst (Before k x) (sym e) b)), λ h. differ x y h.1 (leads_before x y n h.0))

-- ---- with more pairs

module _ (k l : Skeleton) (strands : l.strands ≡ k.strands) (wider : (p : OrderPair) → IsIn p k.pairs → IsIn p l.pairs) where
  step_wider : {x y : Node} → OrderStep k x y → OrderStep l x y
  step_wider (along_strand_of {s = s} {i = i} {e = e} ev) = along_strand_of (subst (λ ss. term_event_at ss (node_at s (suc i)) ≡ Some e) (sym strands) ev)
  step_wider (along_pair {p = p} inp) = along_pair (wider p inp)

  pub before_wider : {x y : Node} → Before k x y → Before l x y
  before_wider (one_step p) = one_step (step_wider p)
  before_wider (more_steps p q) = more_steps (step_wider p) (before_wider q)
