-- For each candidate those of which it is an instance.
use Rattle.std.specs.Prelude.{◌≡◌, ◌↔◌, ℕ, ◌<◌, List, [], ◌∷◌, length, map, Vec, ◌==◌, Bool, false, Option, Some, None}
use Rattle.cp_lists.specs.Lists.{item_at, IsIn}
use Rattle.cp_model.specs.Skeleton.{Skeleton}
use Rattle.cp_shapes.specs.Shapes.{IsInstanceWithin}

-- Each number is above all before it.
abbrev pub IsRising : List ℕ → Type 0
IsRising [] = Unit {0}
IsRising (n ∷ ns) = ((m : ℕ) → IsIn m ns → n < m) × IsRising ns

-- The row lists the candidates of which candidate number m is an instance, in their order.
pub record IsRowOf (ks : List Skeleton) (m : ℕ) (row : List ℕ) : Type 0 where
  pub listed : (n : ℕ) → IsIn n row ↔ IsInstanceWithin ks m n
  pub rising : IsRising row

-- For each candidate its row.
pub record AreEmbeddingRowsOf (ks : List Skeleton) (rows : List (List ℕ)) : Type 0 where
  pub count : length rows ≡ length ks
  pub each : (m : ℕ) (row : List ℕ) → item_at rows m ≡ Some row → IsRowOf ks m row

abbrev pub rows_view : {A : Type 0} → List (Vec ℕ A) → List (List ℕ)
rows_view = map (λ row. row.items)

-- There is a row, and it is empty.
abbrev pub is_empty_row : Option (List ℕ) → Bool
is_empty_row None = false
is_empty_row (Some row) = length row == 0
