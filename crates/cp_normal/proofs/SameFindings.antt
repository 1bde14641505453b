-- Normalising finds the same in skeletons that say the same.
use Rattle.std.proofs.Common.{◌⊎◌, inl, inr, List, sym, ◌∙◌, subst}
use Rattle.cp_lists.specs.Lists.{IsIn}
use Rattle.cp_model.specs.Term.{AtomTerm}
use Rattle.cp_model.specs.Bundle.{node_at}
use Rattle.cp_model.specs.declared.node.Node.{Node}
use Rattle.cp_model.specs.Skeleton.{UniqueAt, Assumptions, Skeleton}
use Rattle.cp_model.specs.declared.node.OrderPair.{OrderPair}
use Rattle.cp_theory.specs.Normal.{IsOriginPair, with_pairs}
use Rattle.cp_collapse.specs.SameSkeletons.{SaysTheSame}
use Rattle.cp_collapse.proofs.SameFacts.{says_back, says_with_pairs, same_event, same_before, same_originates, same_carried, listed_too}
use Rattle.cp_normal.specs.NormalForms.{IsMisplaced, IsReceivedBefore}
use Rattle.cp_normal.specs.Findings.{IsAddedPair, AreNormalPairs, CarriesNonOriginating, HasTwoOrigins, LosesOrigin, ClosesCycle, IsContradictory}

module _ (k l : Skeleton) (s : SaysTheSame k l) where
  pub same_heard : (a : AtomTerm) (x : Node) → IsReceivedBefore k a x → IsReceivedBefore l a x
  same_heard a x h = record { index = h.index; earlier = h.earlier; received = h.received; reception = sym (same_event k l s (node_at x.strand h.index)) ∙ h.reception; carried = h.carried }

  pub same_misplaced : (u : UniqueAt) (x : Node) → IsMisplaced k u x → IsMisplaced l u x
  same_misplaced u x t = record { listed = listed_too k l s u t.listed; originates = same_originates k l s u.value x t.originates; elsewhere = t.elsewhere }

  same_origin_pair : (p : OrderPair) → IsOriginPair k p → IsOriginPair l p
  same_origin_pair p o = record {
    entry = o.entry;
    listed = listed_too k l s o.entry o.listed;
    from_origin = o.from_origin;
    received = o.received;
    reception = sym (same_event k l s p.later) ∙ o.reception;
    carried = o.carried;
  }

  pub same_added : (p : OrderPair) → IsAddedPair k p → IsAddedPair l p
  same_added p a = (same_origin_pair p a.0, a.1)

  same_own_or_added : (p : OrderPair) → IsIn p k.pairs ⊎ IsAddedPair k p → IsIn p l.pairs ⊎ IsAddedPair l p
  same_own_or_added p (inl own) = inl (subst (IsIn p) s.pairs own)
  same_own_or_added p (inr added) = inr (same_added p added)

  same_non : CarriesNonOriginating k → CarriesNonOriginating l
  same_non c = record { value = c.value; listed = subst (λ (a : Assumptions). IsIn c.value a.non_originating) s.assumptions c.listed; node = c.node; carried = same_carried k l s c.value c.node c.carried }

  same_two : HasTwoOrigins k → HasTwoOrigins l
  same_two t = record { first = t.first; second = t.second; first_listed = listed_too k l s t.first t.first_listed; second_listed = listed_too k l s t.second t.second_listed; same_value = t.same_value; elsewhere = t.elsewhere }

pub same_normal_pairs : (k l : Skeleton) (pairs : List OrderPair) → SaysTheSame k l → AreNormalPairs k pairs → AreNormalPairs l pairs
same_normal_pairs k l pairs s normal p = (λ i. same_own_or_added k l s p ((normal p).0 i), λ o. (normal p).1 (same_own_or_added l k (says_back k l s) p o))

same_lost : (k l : Skeleton) → SaysTheSame k l → LosesOrigin k → LosesOrigin l
same_lost k l s o = record { entry = o.entry; listed = listed_too k l s o.entry o.listed; lost = λ there. o.lost (same_originates l k (says_back k l s) o.entry.value o.entry.origin there) }

same_cycle : (k l : Skeleton) → SaysTheSame k l → ClosesCycle k → ClosesCycle l
same_cycle k l s c = record {
  pairs = c.pairs;
  normal = same_normal_pairs k l c.pairs s c.normal;
  node = c.node;
  cycle = same_before (with_pairs k c.pairs) (with_pairs l c.pairs) (says_with_pairs k l c.pairs s) c.cycle;
}

pub same_contradictory : (k l : Skeleton) → SaysTheSame k l → IsContradictory k → IsContradictory l
same_contradictory k l s (inl c) = inl (same_non k l s c)
same_contradictory k l s (inr (inl t)) = inr (inl (same_two k l s t))
same_contradictory k l s (inr (inr (inl o))) = inr (inr (inl (same_lost k l s o)))
same_contradictory k l s (inr (inr (inr c))) = inr (inr (inr (same_cycle k l s c)))
