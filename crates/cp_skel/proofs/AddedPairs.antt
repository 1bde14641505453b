-- A skeleton to whose order a pair is added, or that refuses one since it would close a cycle.
use Rattle.std.proofs.Common.{◌≡◌, ◌↔◌, List, ◌∷◌, Bool, true, false, sym, subst}
use Rattle.cp_model.specs.declared.node.Node.{Node}
use Rattle.cp_model.specs.declared.node.OrderPair.{OrderPair}
use Rattle.cp_model.specs.Order.{ReachesAlong}
use Rattle.cp_model.specs.Skeleton.{Skeleton, Before, IsOrderPair}
use Rattle.cp_order.specs.Closed.{KeepsOrder}
use Rattle.cp_skel.specs.Ordered.{IsOrdered, ordered_by}
use Rattle.cp_skel.specs.Sound.{IsSound}
use Rattle.cp_skel.proofs.OrderKept.{leads_back, leads_not_back, more_ordered, kept_before}
use Rattle.cp_skel.proofs.SoundSkeletons.{sound_ordered, added_sound}

module _ (parts seen : Skeleton) (same : parts ≡ seen) (sound : IsSound parts) (p : OrderPair) (fits : IsOrderPair seen p)
    (leads : Bool) (pairs : List OrderPair) (own : pairs ≡ parts.pairs) (has : (leads ≡ true) ↔ ReachesAlong pairs p.later p.earlier) where
  abbrev k : Skeleton
  k = parts

  pair : IsOrderPair k p
  pair = subst (λ d. IsOrderPair d p) (sym same) fits

  told : (leads ≡ true) ↔ ReachesAlong parts.pairs p.later p.earlier
  told = subst (λ (ps : List OrderPair). (leads ≡ true) ↔ ReachesAlong ps p.later p.earlier) own has

  free : leads ≡ false → Before k p.later p.earlier → ⊥
  free = leads_not_back k p leads (sound_ordered k sound) pair told

  pub is_back : leads ≡ true → Before seen p.later p.earlier
  is_back h = subst (λ d. Before d p.later p.earlier) same (leads_back k p leads (sound_ordered k sound) pair told h)

  pub not_back : leads ≡ false → Before seen p.later p.earlier → ⊥
  not_back h b = free h (subst (λ d. Before d p.later p.earlier) (sym same) b)

  pub sound_with : leads ≡ false → (new : List OrderPair) → KeepsOrder (p ∷ parts.pairs) new → IsSound (ordered_by k new)
  sound_with h new keeps = added_sound k p new pair (free h) keeps sound

  pub before_with : leads ≡ false → (new : List OrderPair) → KeepsOrder (p ∷ parts.pairs) new → (x y : Node) → Before (ordered_by k new) x y ↔ Before (ordered_by seen (p ∷ seen.pairs)) x y
  before_with h new keeps =
      let more : IsOrdered (ordered_by k (p ∷ k.pairs)) = more_ordered k p (sound_ordered k sound) pair (free h) in
      subst (λ d. (x y : Node) → Before (ordered_by k new) x y ↔ Before (ordered_by d (p ∷ d.pairs)) x y) same
      (kept_before (ordered_by k (p ∷ k.pairs)) more new keeps)
