-- Items that are placed, and those placed before them still.
use Rattle.std.specs.Prelude.{◌<◌, ℕ, List}
use Rattle.cp_lists.specs.Lists.{IsIn}
use Rattle.cp_model.specs.Skeleton.{Skeleton}
use Rattle.cp_model.specs.Homomorphism.{SkeletonMap}
use Rattle.cp_hom.specs.PartialMaps.{PartialMap, ExtendsPartial, IsConsistent}
use Rattle.cp_hom.specs.Counterparts.{item_count}
use Rattle.cp_hom.specs.OpenMaps.{IsPlaced}
use Rattle.cp_hom.specs.declared.items.Kind.{Kind}
use Rattle.cp_hom.specs.declared.items.Item.{Item}

-- The maps that follow the new partial map follow the old one, and the new one is consistent where the old one is.
pub record Narrows (given found : PartialMap) : Type 0 where
  pub extends : (f : SkeletonMap) → ExtendsPartial f found → ExtendsPartial f given
  pub consistent : IsConsistent given → IsConsistent found

-- The item is placed, too.
pub record PlacesItem (a b : Skeleton) (item : Item) (given found : PartialMap) : Type 0 where
  pub narrows : Narrows given found
  pub placed : IsPlaced a b found item

-- The first so many items of the kind are placed.
abbrev pub ArePlaced : Skeleton → Skeleton → PartialMap → Kind → ℕ → Type 0
ArePlaced a b found kind n = (i : ℕ) → i < n → IsPlaced a b found (record { kind = kind; index = i })

-- All items of these kinds are placed, too.
pub record PlacesKinds (a b : Skeleton) (kinds : List Kind) (given found : PartialMap) : Type 0 where
  pub narrows : Narrows given found
  pub placed : (kind : Kind) → IsIn kind kinds → ArePlaced a b found kind (item_count kind a)
