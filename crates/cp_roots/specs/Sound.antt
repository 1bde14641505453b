-- What is true of the roots of a problem: none of its standings is missed.
use Rattle.std.specs.Prelude.{◌≡◌, ℕ, List, true, false, Some}
use Rattle.cp_lists.specs.Lists.{item_at}
use Rattle.cp_model.specs.Strand.{Protocol}
use Rattle.cp_model.specs.Bundle.{Bundle, IsBundle}
use Rattle.cp_model.specs.Skeleton.{Skeleton, IsSkeleton}
use Rattle.cp_model.specs.Realisation.{KeepsAssumptions}
use Rattle.cp_model.specs.Standing.{Standing, StandsIn, StandsApart}
use Rattle.cp_model.specs.Homomorphism.{CarriesHomomorphism, FactorsThrough}
use Rattle.cp_model.specs.Stated.{KeepsStated}
use Rattle.cp_roots.specs.Roots.{Root}

-- The problem's standing h factors through a standing apart of one of the living roots.
pub record StandsThroughRoot (k : Skeleton) (roots : List Root) (b : Bundle) (h : Standing) : Type 0 where
  pub number : ℕ
  pub root : Root
  pub at : item_at roots number ≡ Some root
  pub lives : root.dead ≡ false
  pub standing : Standing
  pub stands : StandsIn root.skeleton b standing
  pub apart : StandsApart root.skeleton standing
  pub factors : FactorsThrough k h root.skeleton standing

-- The roots of the problem k are skeletons over the protocol, carry homomorphisms from the problem, and keep what it states
-- itself. The assumptions of those that live are true of them. One that is dead stands apart nowhere. Whenever the problem stands in a bundle, that
-- standing goes through one that lives and stands apart.
pub record AreSound (protocol : Protocol) (k : Skeleton) (roots : List Root) : Type 0 where
  pub skeletons : (i : ℕ) (root : Root) → item_at roots i ≡ Some root → IsSkeleton protocol root.skeleton
  pub assumptions : (i : ℕ) (root : Root) → item_at roots i ≡ Some root → root.dead ≡ false → KeepsAssumptions root.skeleton
  pub from_problem : (i : ℕ) (root : Root) → item_at roots i ≡ Some root → CarriesHomomorphism k root.skeleton
  pub stated : (i : ℕ) (root : Root) → item_at roots i ≡ Some root → KeepsStated k root.skeleton
  pub nowhere : (i : ℕ) (root : Root) → item_at roots i ≡ Some root → root.dead ≡ true → (b : Bundle) (g : Standing) → IsBundle protocol b → StandsIn root.skeleton b g → StandsApart root.skeleton g → ⊥
  pub covers : (b : Bundle) (h : Standing) → IsBundle protocol b → StandsIn k b h → StandsThroughRoot k roots b h
