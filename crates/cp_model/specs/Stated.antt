-- What a skeleton keeps of what its problem states itself: its own assumptions and its own pairs.
use Rattle.std.specs.Prelude.{◌≡◌, ◌≢◌, ◌↔◌, ℕ, ◌<◌, List, length}
use Rattle.cp_lists.specs.Lists.{IsIn}
use Rattle.cp_model.specs.Term.{AtomTerm, apply_to_atom}
use Rattle.cp_model.specs.Skeleton.{UniqueAt, Skeleton, Before}
use Rattle.cp_model.specs.declared.node.OrderPair.{OrderPair}
use Rattle.cp_model.specs.Homomorphism.{SkeletonMap, mapped, map_from_problem}

-- A unique value where the map takes it, its recorded origin with it.
abbrev pub unique_image : SkeletonMap → UniqueAt → UniqueAt
unique_image f u = record { value = apply_to_atom f.terms u.value; origin = mapped f u.origin }

-- A pair where the map takes its nodes.
abbrev pub pair_image : SkeletonMap → OrderPair → OrderPair
pair_image f p = record { earlier = mapped f p.earlier; later = mapped f p.later }

-- y is what f makes of one of the items.
pub record IsImageOfOne {A B : Type 0} (f : A → B) (xs : List A) (y : B) : Type 0 where
  pub item : A
  pub listed : IsIn item xs
  pub image : f item ≡ y

-- The items of the second list are exactly what f makes of those of the first, in any order.
abbrev pub AreImages : {A B : Type 0} → (A → B) → List A → List B → Type 0
AreImages f xs ys = (y : _) → IsIn y ys ↔ IsImageOfOne f xs y

-- The assumptions that the problem states itself, as the skeleton has them, are among the skeleton's.
pub record HasOwnAssumptions (k : Skeleton) : Type 0 where
  pub non : (v : AtomTerm) → IsIn v k.from_problem.assumptions.non_originating → IsIn v k.assumptions.non_originating
  pub penetrator_non : (v : AtomTerm) → IsIn v k.from_problem.assumptions.penetrator_non_originating → IsIn v k.assumptions.penetrator_non_originating
  pub unique : (u : UniqueAt) → IsIn u k.from_problem.assumptions.uniquely_originating → IsIn u k.assumptions.uniquely_originating

-- The skeleton keeps what the problem states itself. Each entry of its map is one of its strands. What it has as the
-- problem's own assumptions are exactly the images of these, and they are among its assumptions. What it has as the
-- problem's own pairs are exactly the images of these that lie between different strands, and they are in its order.
pub record KeepsStated (problem k : Skeleton) : Type 0 where
  pub in_range : (s : ℕ) → IsIn s k.from_problem.strands → s < length k.strands
  pub non : AreImages (apply_to_atom (map_from_problem k).terms) problem.from_problem.assumptions.non_originating k.from_problem.assumptions.non_originating
  pub penetrator_non : AreImages (apply_to_atom (map_from_problem k).terms) problem.from_problem.assumptions.penetrator_non_originating k.from_problem.assumptions.penetrator_non_originating
  pub unique : AreImages (unique_image (map_from_problem k)) problem.from_problem.assumptions.uniquely_originating k.from_problem.assumptions.uniquely_originating
  pub assumed : HasOwnAssumptions k
  pub pairs : (p : OrderPair) → IsIn p k.from_problem.pairs ↔ (IsImageOfOne (pair_image (map_from_problem k)) problem.from_problem.pairs p × (p.earlier.strand ≢ p.later.strand))
  pub ordered : (p : OrderPair) → IsIn p k.from_problem.pairs → Before k p.earlier p.later
