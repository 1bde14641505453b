-- What normalising finds in a skeleton: values of assumptions that are carried or recorded where they cannot be, and
-- the pairs that it adds to the order.
use Rattle.std.specs.Prelude.{◌≡◌, ◌≢◌, ◌↔◌, ◌⊎◌, List, Option, Some, None}
use Rattle.cp_lists.specs.Lists.{IsIn}
use Rattle.cp_model.specs.Term.{AtomTerm}
use Rattle.cp_model.specs.declared.node.Node.{Node}
use Rattle.cp_model.specs.Skeleton.{UniqueAt, Skeleton, Before}
use Rattle.cp_model.specs.declared.node.OrderPair.{OrderPair}
use Rattle.cp_model.specs.Realisation.{OriginatesAtTerm}
use Rattle.cp_theory.specs.Normal.{IsCarriedAt, IsOriginPair, with_pairs}

-- Some node, of a role strand or a listener, carries a non-originating value.
pub record CarriesNonOriginating (k : Skeleton) : Type 0 where
  pub value : AtomTerm
  pub listed : IsIn value k.assumptions.non_originating
  pub node : Node
  pub carried : IsCarriedAt k value node

-- A unique value has two recorded origins, at different nodes.
pub record HasTwoOrigins (k : Skeleton) : Type 0 where
  pub first : UniqueAt
  pub second : UniqueAt
  pub first_listed : IsIn first k.assumptions.uniquely_originating
  pub second_listed : IsIn second k.assumptions.uniquely_originating
  pub same_value : first.value ≡ second.value
  pub elsewhere : first.origin ≢ second.origin

-- A unique value does not originate at its recorded origin.
pub record LosesOrigin (k : Skeleton) : Type 0 where
  pub entry : UniqueAt
  pub listed : IsIn entry k.assumptions.uniquely_originating
  pub lost : OriginatesAtTerm k entry.value entry.origin → ⊥

-- A pair from the recorded origin of a unique value to a reception of another strand that carries the value.
abbrev pub IsAddedPair : Skeleton → OrderPair → Type 0
IsAddedPair k p = IsOriginPair k p × (p.earlier.strand ≢ p.later.strand)

-- The pairs are the skeleton's own and those that are added.
abbrev pub AreNormalPairs : Skeleton → List OrderPair → Type 0
AreNormalPairs k pairs = (p : OrderPair) → IsIn p pairs ↔ (IsIn p k.pairs ⊎ IsAddedPair k p)

-- With the pairs that are added the order has a cycle.
pub record ClosesCycle (k : Skeleton) : Type 0 where
  pub pairs : List OrderPair
  pub normal : AreNormalPairs k pairs
  pub node : Node
  pub cycle : Before (with_pairs k pairs) node node

-- What a skeleton says of its values contradicts itself, so that it stands apart in no bundle.
abbrev pub IsContradictory : Skeleton → Type 0
IsContradictory k = CarriesNonOriginating k ⊎ (HasTwoOrigins k ⊎ (LosesOrigin k ⊎ ClosesCycle k))

-- What normalising answers: nothing, where the skeleton contradicts itself; and else the pairs of its normal form.
abbrev pub IsNormalised : Skeleton → Option (List OrderPair) → Type 0
IsNormalised k None = IsContradictory k
IsNormalised k (Some pairs) = AreNormalPairs k pairs × (IsContradictory k → ⊥)
