-- Choices for an item that are passed over, and the next one.
use Rattle.std.specs.Prelude.{◌<◌, ◌≤◌, ℕ, IsTrue}
use Rattle.cp_model.specs.Skeleton.{Skeleton}
use Rattle.cp_model.specs.Homomorphism.{SkeletonMap}
use Rattle.cp_hom.specs.PartialMaps.{PartialMap, ExtendsPartial, IsOfNoExtension}
use Rattle.cp_hom.specs.Counterparts.{TakesItem, item_count}
use Rattle.cp_hom.specs.declared.items.Item.{Item}
use Rattle.cp_hom.specs.declared.known.Choice.{Choice}

-- No choice for the item from the one on, as far as the other, holds for a map that follows the given one.
abbrev pub ArePassed : Skeleton → Skeleton → Item → PartialMap → ℕ → ℕ → Type 0
ArePassed a b item given from to = (n : ℕ) → from ≤ n → n < to → IsOfNoExtension (TakesItem a b item n) given

-- The choice is the next one from there on: those before it hold for no map that follows the given one; and it holds for all
-- of these, where that is sure.
pub record IsNextChoice (a b : Skeleton) (item : Item) (given : PartialMap) (from : ℕ) (choice : Choice) : Type 0 where
  pub behind : from ≤ choice.number
  pub within : choice.number < item_count item.kind b
  pub passed : ArePassed a b item given from choice.number
  pub sure : IsTrue choice.is_sure → (f : SkeletonMap) → ExtendsPartial f given → TakesItem a b item choice.number f
