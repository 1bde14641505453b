-- A pair that covers is one of those by which the skeleton is ordered.
use Rattle.std.proofs.Common.{◌≡◌, sym, ap, ◌∙◌, subst}
use Rattle.cp_lists.specs.Lists.{IsIn, one_step, more_steps}
use Rattle.cp_model.specs.declared.node.Node.{Node}
use Rattle.cp_model.specs.declared.node.OrderPair.{OrderPair}
use Rattle.cp_model.specs.Skeleton.{Skeleton, along_strand_of, along_pair, Before}
use Rattle.cp_general.specs.Steps.{IsCoveringPair}
use Rattle.cp_general.specs.Generalisation.{WeakensNone}
use Rattle.cp_general.specs.ProgramSteps.{HasFreePair}

module _ (k : Skeleton) (p : OrderPair) (covering : IsCoveringPair k p) where
  -- no node is between the two, so that the way is one step, and that leads to another strand
  by_way : (x y : Node) → x ≡ p.earlier → y ≡ p.later → Before k x y → IsIn p k.pairs
  by_way x y first last (one_step (along_strand_of w)) = absurd (covering.of_order.pair.between_strands (ap (λ (z : Node). z.strand) (sym first) ∙ ap (λ (z : Node). z.strand) last))
  by_way x y first last (one_step (along_pair {p = q} m)) =
      let same : q ≡ p = λ i. record { earlier = first i; later = last i } in
      subst (λ (r : OrderPair). IsIn r k.pairs) same m
  by_way x y first last (more_steps {y = z} s r) =
      absurd (covering.none_between z (subst (λ (n : Node). Before k n z) first (one_step s)) (subst (λ (n : Node). Before k z n) last r))

  pub covering_is_listed : IsIn p k.pairs
  covering_is_listed = by_way p.earlier p.later (λ _. p.earlier) (λ _. p.later) covering.of_order.ordered

pub no_free_pair : (k : Skeleton) → (HasFreePair k → ⊥) → WeakensNone k
no_free_pair k none p h drops fit = none (record { pair = p; listed = covering_is_listed k p drops.covering; not_own = drops.not_own; not_added = drops.not_added })
