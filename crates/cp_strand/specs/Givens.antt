-- What the role of a strand gives to it.
use Rattle.std.specs.Prelude.{◌≡◌, ℕ, [], ◌∷◌, map}
use Rattle.cp_model.specs.Bundle.{node_at}
use Rattle.cp_model.specs.Skeleton.{SkeletonStrand, UniqueAt}
use Rattle.cp_model.specs.Given.{given_non, given_penetrator_non, given_uniques}
use Rattle.cp_strand.specs.declared.given.IndexedUnique.{IndexedUnique}
use Rattle.cp_strand.specs.declared.given.Given.{Given}

-- The unique value with its origin, where its strand has number s.
abbrev pub unique_on : ℕ → IndexedUnique → UniqueAt
unique_on s u = record { value = u.value; origin = node_at s u.index }

-- The lists are what the role of the strand gives to it, whatever its number is.
pub record IsGivenBy (k : SkeletonStrand) (g : Given) : Type 0 where
  pub non : g.non_originating.items ≡ given_non (k ∷ [])
  pub penetrator_non : g.penetrator_non_originating.items ≡ given_penetrator_non (k ∷ [])
  pub unique : (s : ℕ) → map (unique_on s) g.uniquely_originating.items ≡ given_uniques s (k ∷ [])
