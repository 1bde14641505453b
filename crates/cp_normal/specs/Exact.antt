-- The normal forms that the rules give, in their order.
use Rattle.std.specs.Prelude.{◌⊎◌, List, [], ◌∷◌, ◌++◌}
use Rattle.cp_model.specs.Term.{AtomTerm}
use Rattle.cp_model.specs.declared.node.Node.{Node}
use Rattle.cp_model.specs.Skeleton.{Skeleton}
use Rattle.cp_model.specs.declared.node.OrderPair.{OrderPair}
use Rattle.cp_theory.specs.Normal.{with_pairs}
use Rattle.cp_normal.specs.Findings.{CarriesNonOriginating, HasTwoOrigins, LosesOrigin, AreNormalPairs, IsContradictory}
use Rattle.cp_normal.specs.Branches.{IsSettled}
use Rattle.cp_normal.specs.Branched.{AreInOrder}
use Rattle.cp_normal.specs.ReceivedAtomLists.{heard_before}
use Rattle.cp_normal.specs.MisplacedValues.{IsFirstMisplaced}

-- The skeleton's assumptions contradict what its nodes carry.
abbrev pub IsRefuted : Skeleton → Type 0
IsRefuted k = CarriesNonOriginating k ⊎ (HasTwoOrigins k ⊎ LosesOrigin k)

mutual
  -- These are the normal forms of k, in their order. A skeleton that is refuted has none. One with a misplaced unique value has
  -- those of its branches by the first such value. Any other has none where it contradicts itself, and else one: itself
  -- with its normal pairs.
  pub data HasForms : Skeleton → List Skeleton → Type 0 where
    refuted : {k : Skeleton} → IsRefuted k → HasForms k []
    branching : {k : Skeleton} {v : AtomTerm} {x : Node} {branches rs : List Skeleton} → (IsRefuted k → ⊥) → IsFirstMisplaced k v x → AreInOrder k v (heard_before k x) branches → EachHasForms branches rs → HasForms k rs
    cyclic : {k : Skeleton} → IsSettled k → IsContradictory k → HasForms k []
    normal : {k : Skeleton} {pairs : List OrderPair} → IsSettled k → AreNormalPairs k pairs → (IsContradictory k → ⊥) → HasForms k (with_pairs k pairs ∷ [])

  -- The normal forms of several skeletons, those of the first and then those of the others.
  pub data EachHasForms : List Skeleton → List Skeleton → Type 0 where
    no_more : EachHasForms [] []
    and_then : {k : Skeleton} {ks rs ss : List Skeleton} → HasForms k rs → EachHasForms ks ss → EachHasForms (k ∷ ks) (rs ++ ss)
