-- A skeleton with no misplaced value and the pairs that its unique values add is a normal form.
use Rattle.std.proofs.Common.{◌≡◌, ◌⊎◌, inl, inr, List, [], ◌∷◌, refl}
use Rattle.cp_lists.specs.Lists.{IsIn, one_step}
use Rattle.cp_model.specs.Term.{AtomTerm}
use Rattle.cp_model.specs.declared.node.Node.{Node}
use Rattle.cp_model.specs.Skeleton.{UniqueAt, Skeleton, along_pair, IsSkeleton}
use Rattle.cp_model.specs.declared.node.OrderPair.{OrderPair}
use Rattle.cp_model.specs.Realisation.{OriginatesAtTerm}
use Rattle.cp_model.specs.Strand.{Protocol}
use Rattle.cp_theory.specs.Normal.{IsCarriedAt, with_pairs, LosesNoStanding}
use Rattle.cp_theory.proofs.NoStandingLost.{pairs_lose_none}
use Rattle.cp_normal.proofs.Losses.{only_origin_pairs}
use Rattle.cp_normal.specs.Findings.{ClosesCycle, IsAddedPair, AreNormalPairs, IsContradictory}
use Rattle.cp_normal.specs.Candidates.{unifiers_of}
use Rattle.cp_normal.specs.NormalForms.{IsMisplaced, NarrowsTo, IsNormal, IsNormalFormOf}

module _ (k : Skeleton) (pairs : List OrderPair) where
  originates_of : (v : AtomTerm) (n : Node) → OriginatesAtTerm (with_pairs k pairs) v n → OriginatesAtTerm k v n
  originates_of v n o = (record { role = o.0.role; height = o.0.height; terms = o.0.terms; on_instance = o.0.on_instance }, o.1)

  originates_with : (v : AtomTerm) (n : Node) → OriginatesAtTerm k v n → OriginatesAtTerm (with_pairs k pairs) v n
  originates_with v n o = (record { role = o.0.role; height = o.0.height; terms = o.0.terms; on_instance = o.0.on_instance }, o.1)

  pub misplaced_of : (u : UniqueAt) (x : Node) → IsMisplaced (with_pairs k pairs) u x → IsMisplaced k u x
  misplaced_of u x s = record { listed = s.listed; originates = originates_of u.value x s.originates; elsewhere = s.elsewhere }

  pub added_of : (p : OrderPair) → IsAddedPair (with_pairs k pairs) p → IsAddedPair k p
  added_of p a = (record { entry = a.0.entry; listed = a.0.listed; from_origin = a.0.from_origin; received = a.0.received; reception = a.0.reception; carried = a.0.carried }, a.1)

  added_with : (p : OrderPair) → IsAddedPair k p → IsAddedPair (with_pairs k pairs) p
  added_with p a = (record { entry = a.0.entry; listed = a.0.listed; from_origin = a.0.from_origin; received = a.0.received; reception = a.0.reception; carried = a.0.carried }, a.1)

  carried_of : (v : AtomTerm) (n : Node) → IsCarriedAt (with_pairs k pairs) v n → IsCarriedAt k v n
  carried_of v n c = record { event = c.event; there = c.there; carried = c.carried }

  module _ (normal : AreNormalPairs k pairs) where
    own_of : (p : OrderPair) → IsIn p pairs ⊎ IsAddedPair (with_pairs k pairs) p → IsIn p k.pairs ⊎ IsAddedPair k p
    own_of p (inl i) = (normal p).0 i
    own_of p (inr a) = inr (added_of p a)

    own_with : (p : OrderPair) → IsIn p k.pairs ⊎ IsAddedPair k p → IsIn p pairs ⊎ IsAddedPair (with_pairs k pairs) p
    own_with p o = inl ((normal p).1 o)

    cycle_of : ClosesCycle (with_pairs k pairs) → ClosesCycle k
    cycle_of c = record { pairs = c.pairs; normal = λ p. (λ i. own_of p ((c.normal p).0 i), λ o. (c.normal p).1 (own_with p o)); node = c.node; cycle = c.cycle }

    pub contradictory_of : IsContradictory (with_pairs k pairs) → IsContradictory k
    contradictory_of (inl c) = inl (record { value = c.value; listed = c.listed; node = c.node; carried = carried_of c.value c.node c.carried })
    contradictory_of (inr (inl t)) = inr (inl (record { first = t.first; second = t.second; first_listed = t.first_listed; second_listed = t.second_listed; same_value = t.same_value; elsewhere = t.elsewhere }))
    contradictory_of (inr (inr (inl l))) = inr (inr (inl (record { entry = l.entry; listed = l.listed; lost = λ there. l.lost (originates_with l.entry.value l.entry.origin there) })))
    contradictory_of (inr (inr (inr c))) = inr (inr (inr (cycle_of c)))

    pub normal_with_pairs : (IsContradictory k → ⊥) → ((u : UniqueAt) (x : Node) → IsMisplaced k u x → ⊥) → IsNormal (with_pairs k pairs)
    normal_with_pairs consistent settled = record {
      consistent = λ c. consistent (contradictory_of c);
      no_misplaced = λ u x s. settled u x (misplaced_of u x s);
      ordered = λ p a. one_step (along_pair ((normal p).1 (inr (added_of p a))));
    }

pub normal_form : (k narrowed : Skeleton) (pairs : List OrderPair) → NarrowsTo k narrowed → AreNormalPairs narrowed pairs × (IsContradictory narrowed → ⊥) → ((u : UniqueAt) (x : Node) → IsMisplaced narrowed u x → ⊥) →
    IsNormalFormOf k (with_pairs narrowed pairs)
normal_form k narrowed pairs steps found settled = record {
  narrowed = narrowed;
  by_steps = steps;
  pairs = found.0;
  same = refl;
  normal = normal_with_pairs narrowed pairs found.0 found.1 settled;
}

-- It comes by the unifiers of the steps.
pub normal_form_unifiers : (k narrowed : Skeleton) (pairs : List OrderPair) (steps : NarrowsTo k narrowed) (found : AreNormalPairs narrowed pairs × (IsContradictory narrowed → ⊥)) (settled : (u : UniqueAt) (x : Node) → IsMisplaced narrowed u x → ⊥) →
    unifiers_of (normal_form k narrowed pairs steps found settled).by_steps ≡ unifiers_of steps
unfolding normal_form
normal_form_unifiers k narrowed pairs steps found settled = refl

-- With its pairs it loses no standing.
pub pairs_lose_no_standing : (protocol : Protocol) (k : Skeleton) (pairs : List OrderPair) → IsSkeleton protocol k → AreNormalPairs k pairs → LosesNoStanding protocol k (with_pairs k pairs ∷ [])
pairs_lose_no_standing protocol k pairs sk normal = pairs_lose_none protocol k pairs sk (only_origin_pairs k pairs normal)
