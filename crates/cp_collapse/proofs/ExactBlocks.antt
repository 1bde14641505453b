-- Exact bindings of a partition, one strand more: alone, or in a block, strand by strand of the block.
use Rattle.std.proofs.Common.{◌≡◌, ℕ, suc, ◌≤◌, List, [], ◌∷◌, ◌++◌, Some, arith}
use Rattle.cp_lists.specs.Lists.{item_at}
use Rattle.cp_model.specs.Term.{Assignment}
use Rattle.cp_model.specs.Bindings.{as_substitution}
use Rattle.cp_model.specs.Strand.{Role, variables_of_prefix}
use Rattle.cp_model.specs.Skeleton.{instance, Skeleton}
use Rattle.cp_unify.specs.Bindings.{Binding}
use Rattle.cp_collapse.specs.Partitions.{HaveEqualValues, IdentifiesValues}
use Rattle.cp_collapse.specs.Collapses.{IsNeverIdentified}
use Rattle.cp_collapse.specs.FirstPartitions.{IsPartitionOfFirst, IsExactFor, EqualsBlock}
use Rattle.cp_collapse.proofs.Exact.{exact_none, exact_same, AlsoAgree, equal_on_shorter, shorter_on_equal, equal_back}
use Rattle.cp_collapse.proofs.OneStrandMore.{equal_at_instances, identifies_alone, alone_identifies, block_identifies, identifies_block, block_at_first, block_passes, block_takes, block_before, block_has, never_joined}

-- Two instances, of which the first is no taller, have equal values where they agree on the variables of its prefix.
pub exact_values : (e : Assignment → Type 0) (role : Role) (height : ℕ) (terms : List Binding) (height' : ℕ) (terms' : List Binding) (r : List Binding) → height ≤ height' →
    IsExactFor (AlsoAgree e (as_substitution terms) (as_substitution terms') (variables_of_prefix role height)) r → IsExactFor (λ g. e g × HaveEqualValues role height terms height' terms' g) r
exact_values e role height terms height' terms' r le =
    exact_same (AlsoAgree e (as_substitution terms) (as_substitution terms') (variables_of_prefix role height)) (λ g. e g × HaveEqualValues role height terms height' terms' g) r
    (λ g f. (f.0, equal_on_shorter role height terms height' terms' g le f.1))
    (λ g f. (f.0, shorter_on_equal role height terms height' terms' g le f.1))

-- The same where the second comes first.
pub exact_values_back : (e : Assignment → Type 0) (role : Role) (height : ℕ) (terms : List Binding) (height' : ℕ) (terms' : List Binding) (r : List Binding) →
    IsExactFor (λ g. e g × HaveEqualValues role height' terms' height terms g) r → IsExactFor (λ g. e g × HaveEqualValues role height terms height' terms' g) r
exact_values_back e role height terms height' terms' r =
    exact_same (λ g. e g × HaveEqualValues role height' terms' height terms g) (λ g. e g × HaveEqualValues role height terms height' terms' g) r
    (λ g f. (f.0, equal_back role height' terms' height terms g f.1))
    (λ g f. (f.0, equal_back role height terms height' terms' g f.1))

-- Of no strand.
pub exact_no_strand : (k : Skeleton) → IsExactFor (IdentifiesValues k []) []
exact_no_strand k = exact_same (λ g. Unit {0}) (IdentifiesValues k []) [] (λ g f s t role height terms height' terms' at au a. absurd (let e = a.1 in cc)) (λ g f. tt) exact_none

module _ (k : Skeleton) (n : ℕ) (p : List ℕ) (part : IsPartitionOfFirst k n p) where
  pub exact_alone : (r : List Binding) → IsExactFor (IdentifiesValues k p) r → IsExactFor (IdentifiesValues k (p ++ (n ∷ []))) r
  exact_alone r = exact_same (IdentifiesValues k p) (IdentifiesValues k (p ++ (n ∷ []))) r (identifies_alone k n p part) (alone_identifies k n p part)

  module _ (l : ℕ) where
    pub exact_block_first : (r : List Binding) → IsExactFor (IdentifiesValues k p) r → IsExactFor (EqualsBlock k p n l l) r
    exact_block_first r = exact_same (IdentifiesValues k p) (EqualsBlock k p n l l) r (block_at_first k n p part l) (λ g f. f.0)

    pub exact_block_passes : (i : ℕ) (r : List Binding) → (item_at p i ≡ Some l → ⊥) → IsExactFor (EqualsBlock k p n l i) r → IsExactFor (EqualsBlock k p n l (suc i)) r
    exact_block_passes i r other = exact_same (EqualsBlock k p n l i) (EqualsBlock k p n l (suc i)) r (λ g. block_passes k n p part l g i other) (λ g. block_before k n p part l g i (suc i) (omega arith))

    pub exact_block_last : (r : List Binding) → IsExactFor (EqualsBlock k p n l n) r → IsExactFor (IdentifiesValues k (p ++ (l ∷ []))) r
    exact_block_last r = exact_same (EqualsBlock k p n l n) (IdentifiesValues k (p ++ (l ∷ []))) r (block_identifies k n p part l) (λ g. identifies_block k n p part l g n)

    module _ (i : ℕ) (own : item_at p i ≡ Some l) (role : Role) (height : ℕ) (terms : List Binding) (height' : ℕ) (terms' : List Binding)
        (at : item_at k.strands i ≡ Some (instance role height terms)) (last : item_at k.strands n ≡ Some (instance role height' terms')) where
      pub exact_block_takes : (r : List Binding) → IsExactFor (λ g. EqualsBlock k p n l i g × HaveEqualValues role height terms height' terms' g) r → IsExactFor (EqualsBlock k p n l (suc i)) r
      exact_block_takes r =
          exact_same (λ g. EqualsBlock k p n l i g × HaveEqualValues role height terms height' terms' g) (EqualsBlock k p n l (suc i)) r
          (λ g f. block_takes k n p part l g i f.0 (equal_at_instances k i n g role height terms height' terms' at last f.1))
          (λ g f. (block_before k n p part l g i (suc i) (omega arith) f, block_has k n p part l g i own f role height terms height' terms' at last))

      pub never_taken : ((g : Assignment) → EqualsBlock k p n l i g → HaveEqualValues role height terms height' terms' g → ⊥) → IsNeverIdentified k (p ++ (l ∷ []))
      never_taken never = never_joined k n p part l i own (λ g f a. never g f (a role height terms height' terms' at last))
