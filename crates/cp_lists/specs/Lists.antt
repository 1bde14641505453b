-- Words on lists that definitions use, and steps that follow one another.
use Rattle.std.specs.Prelude.{ℕ, zero, suc, List, [], ◌∷◌, Option, Some, None}

-- The item at a place, counted from 0, or none past the end.
abbrev pub item_at : {A : Type 0} → List A → ℕ → Option A
item_at [] n = None
item_at (x ∷ xs) zero = Some x
item_at (x ∷ xs) (suc n) = item_at xs n

-- x is an item of the list.
pub data IsIn {A : Type 0} (x : A) : List A → Type 0 where
  here : {xs : List A} → IsIn x (x ∷ xs)
  there : {y : A} {xs : List A} → IsIn x xs → IsIn x (y ∷ xs)

-- y can be reached from x by one step or more.
pub data Steps {A : Type 0} (step : A → A → Type 0) : A → A → Type 0 where
  one_step : {x y : A} → step x y → Steps step x y
  more_steps : {x y z : A} → step x y → Steps step y z → Steps step x z
