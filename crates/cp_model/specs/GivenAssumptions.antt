-- What roles give to the assumptions of skeletons, and lists that grow by what is missing in them.
use Rattle.std.specs.Prelude.{◌≡◌, ◌↔◌, ℕ, List, [], ◌∷◌, ◌++◌}
use Rattle.cp_lists.specs.Lists.{IsIn}
use Rattle.cp_model.specs.Term.{AtomTerm, apply_to_atom}
use Rattle.cp_model.specs.Bindings.{Binding, as_substitution}
use Rattle.cp_model.specs.Strand.{Role, Applies, AppliesAt}
use Rattle.cp_model.specs.Bundle.{node_at}
use Rattle.cp_model.specs.Skeleton.{SkeletonStrand, UniqueAt, Assumptions}
use Rattle.cp_model.specs.Given.{atoms_onto, uniques_onto, given_non, given_penetrator_non, given_uniques}

-- One of these atoms of a role applies to an instance of this height, and is v under the instance's terms.
pub record IsGivenFrom (stated : List AtomTerm) (role : Role) (height : ℕ) (terms : List Binding) (v : AtomTerm) : Type 0 where
  pub atom : AtomTerm
  pub listed : IsIn atom stated
  pub applies : Applies role height atom
  pub same : v ≡ apply_to_atom (as_substitution terms) atom

-- An instance gives v as non-originating.
abbrev pub IsGivenNon : Role → ℕ → List Binding → AtomTerm → Type 0
IsGivenNon role = IsGivenFrom role.non_originating role

-- An instance gives v as one that the penetrator does not originate.
abbrev pub IsGivenPenetratorNon : Role → ℕ → List Binding → AtomTerm → Type 0
IsGivenPenetratorNon role = IsGivenFrom role.penetrator_non_originating role

-- One of these atoms of a role originates in its trace at a place that the height reaches; u is that atom under the
-- instance's terms, and its recorded origin is that place of strand number s.
pub record IsOriginFrom (stated : List AtomTerm) (role : Role) (height : ℕ) (terms : List Binding) (s : ℕ) (u : UniqueAt) : Type 0 where
  pub atom : AtomTerm
  pub index : ℕ
  pub listed : IsIn atom stated
  pub applies : AppliesAt role height atom index
  pub same : u ≡ record { value = apply_to_atom (as_substitution terms) atom; origin = node_at s index }

-- An instance, strand number s, gives u as a unique value with its recorded origin.
abbrev pub IsGivenUnique : Role → ℕ → List Binding → ℕ → UniqueAt → Type 0
IsGivenUnique role = IsOriginFrom role.uniquely_originating role

-- No item stands twice in the list.
abbrev pub IsEachOnce : {A : Type 0} → List A → Type 0
IsEachOnce [] = Unit {0}
IsEachOnce (x ∷ xs) = (IsIn x xs → ⊥) × IsEachOnce xs

-- The new list is the old and behind it what is given and was not in it, each item once.
pub record AddsOnce {A : Type 0} (given : A → Type 0) (old new : List A) : Type 0 where
  pub more : List A
  pub behind : new ≡ old ++ more
  pub only_given : (x : A) → IsIn x more → given x
  pub only_missing : (x : A) → IsIn x more → IsIn x old → ⊥
  pub once : IsEachOnce more
  pub all : (x : A) → given x → IsIn x new

-- Each list of assumptions grows by what an instance, strand number s, gives, and by nothing else.
pub record AddsGiven (role : Role) (height : ℕ) (terms : List Binding) (s : ℕ) (old new : Assumptions) : Type 0 where
  pub non : AddsOnce (IsGivenNon role height terms) old.non_originating new.non_originating
  pub penetrator_non : AddsOnce (IsGivenPenetratorNon role height terms) old.penetrator_non_originating new.penetrator_non_originating
  pub unique : AddsOnce (IsGivenUnique role height terms s) old.uniquely_originating new.uniquely_originating

-- The new list has the items of the old, and each once.
pub record HasEachOnce {A : Type 0} (old new : List A) : Type 0 where
  pub same : (x : A) → IsIn x new ↔ IsIn x old
  pub once : IsEachOnce new

-- Assumptions, and behind them those that the strands give, the first of which has number s, each once.
abbrev pub with_given_from : ℕ → List SkeletonStrand → Assumptions → Assumptions
with_given_from s strands own = record {
  non_originating = atoms_onto own.non_originating (given_non strands);
  penetrator_non_originating = atoms_onto own.penetrator_non_originating (given_penetrator_non strands);
  uniquely_originating = uniques_onto own.uniquely_originating (given_uniques s strands);
}
