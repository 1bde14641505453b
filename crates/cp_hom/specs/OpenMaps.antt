-- The search for an embedding: partial maps that are still open.
use Rattle.std.specs.Prelude.{◌<◌, ◌≤◌, ◌+◌, ◌-◌, ◌*◌, ℕ, suc, List, [], ◌∷◌, ◌++◌, take, drop, length, map, Option, Some, None}
use Rattle.cp_lists.specs.Lists.{IsIn}
use Rattle.cp_model.specs.Skeleton.{Skeleton}
use Rattle.cp_model.specs.Homomorphism.{SkeletonMap, IsEmbedding}
use Rattle.cp_hom.specs.PartialMaps.{PartialMap, partial_view, ExtendsPartial, IsConsistent}
use Rattle.cp_hom.specs.Counterparts.{TakesItem, item_count, IsItemOf, KeepsProblem}
use Rattle.cp_hom.specs.declared.items.Item.{Item}
use Rattle.cp_hom.specs.declared.search.Branch.{Branch}

-- A partial map by which the first items are placed, as many as it says, and the number from which on the next item is
-- still to be tried.
pub record OpenMap : Type 0 where
  pub done : ℕ
  pub choice : ℕ
  pub given : PartialMap

abbrev pub branch_view : Branch → OpenMap
branch_view o = record { done = o.done; choice = o.choice; given = partial_view o.given }

abbrev pub branches_view : List Branch → List OpenMap
branches_view = map branch_view

-- What follows on a partial map: the same, with the next number to be tried, and the one that was found, if any was.
abbrev pub next_maps : OpenMap → Option PartialMap → List OpenMap
next_maps o None = record { done = o.done; choice = o.choice + 1; given = o.given } ∷ []
next_maps o (Some found) = record { done = o.done; choice = o.choice + 1; given = o.given } ∷ record { done = o.done + 1; choice = 0; given = found } ∷ []

-- The partial map with another number from which on its next item is still to be tried.
abbrev pub from_choice : OpenMap → ℕ → OpenMap
from_choice o n = record { done = o.done; choice = n; given = o.given }

-- What follows on a partial map by which the next item is placed already.
abbrev pub placed_map : OpenMap → OpenMap
placed_map o = record { done = o.done + 1; choice = 0; given = o.given }

-- How many steps are left at most, where these items are still to be placed, the first of them from this number on.
abbrev pub steps_left : Skeleton → List Item → ℕ → ℕ
steps_left b [] choice = 1
steps_left b (i ∷ is) choice = suc ((item_count i.kind b - choice) * suc (steps_left b is 0))

abbrev pub steps_of : Skeleton → List Item → OpenMap → ℕ
steps_of b items o = steps_left b (drop o.done items) o.choice

abbrev pub all_steps : Skeleton → List Item → List OpenMap → ℕ
all_steps b items [] = 0
all_steps b items (o ∷ os) = steps_of b items o + all_steps b items os

-- The item is placed: all maps that follow the partial map do one thing with it.
abbrev pub IsPlaced : Skeleton → Skeleton → PartialMap → Item → Type 0
IsPlaced a b given item = (image : ℕ) × ((f : SkeletonMap) → ExtendsPartial f given → TakesItem a b item image f)

-- A partial map that keeps what comes from the problem.
pub record IsStarted (a b : Skeleton) (given : PartialMap) : Type 0 where
  pub consistent : IsConsistent given
  pub problem : (f : SkeletonMap) → ExtendsPartial f given → KeepsProblem a b f

-- A partial map from which nothing is left to place.
pub record IsWholeMap (a b : Skeleton) (given : PartialMap) : Type 0 where
  pub consistent : IsConsistent given
  pub problem : (f : SkeletonMap) → ExtendsPartial f given → KeepsProblem a b f
  pub placed : (item : Item) → IsItemOf a item → IsPlaced a b given item

-- No map that follows the partial one is an embedding.
abbrev pub NeverEmbeds : Skeleton → Skeleton → PartialMap → Type 0
NeverEmbeds a b given = (f : SkeletonMap) → ExtendsPartial f given → IsEmbedding a b f → ⊥

-- What is true of a partial map of the search.
pub record IsOpenMap (a b : Skeleton) (items : List Item) (o : OpenMap) : Type 0 where
  pub consistent : IsConsistent o.given
  pub problem : (f : SkeletonMap) → ExtendsPartial f o.given → KeepsProblem a b f
  pub placed : (item : Item) → IsIn item (take o.done items) → IsPlaced a b o.given item
  pub within : o.done ≤ length items

abbrev pub AreOpen : Skeleton → Skeleton → List Item → List OpenMap → Type 0
AreOpen a b items os = (o : OpenMap) → IsIn o os → IsOpenMap a b items o

-- The map does with the first of the items what a choice from this one on says.
abbrev pub TakesFrom : Skeleton → Skeleton → List Item → ℕ → SkeletonMap → Type 0
TakesFrom a b [] choice f = Unit {0}
TakesFrom a b (i ∷ is) choice f = (image : ℕ) × (choice ≤ image) × (image < item_count i.kind b) × TakesItem a b i image f

-- The map can still be found from here.
abbrev pub IsWithin : Skeleton → Skeleton → List Item → SkeletonMap → OpenMap → Type 0
IsWithin a b items f o = ExtendsPartial f o.given × TakesFrom a b (drop o.done items) o.choice f

-- The map can still be found from one of these.
pub record IsWithinSome (a b : Skeleton) (items : List Item) (f : SkeletonMap) (os : List OpenMap) : Type 0 where
  pub place : OpenMap
  pub listed : IsIn place os
  pub within : IsWithin a b items f place

-- The new ones take the place of one that is taken from behind the old ones: each embedding that could be found still can,
-- and fewer steps are left.
pub record TakePlace (a b : Skeleton) (items : List Item) (o : OpenMap) (old new : List OpenMap) : Type 0 where
  pub are_open : AreOpen a b items new
  pub none_lost : (f : SkeletonMap) → IsEmbedding a b f → IsWithinSome a b items f (old ++ (o ∷ [])) → IsWithinSome a b items f new
  pub fewer_steps : all_steps b items new < all_steps b items (old ++ (o ∷ []))
