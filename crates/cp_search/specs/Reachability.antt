-- Which labels each label reaches, as the search keeps it.
use Rattle.std.specs.Prelude.{◌≡◌, ◌⊎◌, ◌↔◌, ◌<◌, ℕ, zero, suc, List, [], ◌∷◌, length, map, Vec, Option, Some, None}
use Rattle.cp_lists.specs.Lists.{IsIn}
use Rattle.cp_tree.specs.Made.{Reaches}
use Rattle.cp_search.specs.declared.made.Made.{Made}
use Rattle.cp_search.specs.declared.reachability.Reachability.{Reachability}
use Rattle.cp_search.specs.MadeLabels.{made_link}

-- What stands in row n: nothing past the last row.
abbrev pub row_at : {A : Type 0} → List (Vec ℕ A) → ℕ → List ℕ
row_at [] n = []
row_at (row ∷ rows) zero = row.items
row_at (row ∷ rows) (suc n) = row_at rows n

-- What stands in the row that is given: nothing if none is.
abbrev pub given_row : {A : Type 0} → List (Vec ℕ A) → Option ℕ → List ℕ
given_row rows None = []
given_row rows (Some n) = row_at rows n

-- Each of the numbers is below the count.
abbrev pub AreBelow : ℕ → List ℕ → Type 0
AreBelow count ns = (n : ℕ) → IsIn n ns → n < count

-- No number stands twice in the list.
abbrev pub IsDistinct : List ℕ → Type 0
IsDistinct [] = Unit {0}
IsDistinct (n ∷ ns) = (IsIn n ns → ⊥) × IsDistinct ns

-- No number stands twice in a row.
abbrev pub AreDistinct : {A : Type 0} → List (Vec ℕ A) → Type 0
AreDistinct rows = (n : ℕ) → IsDistinct (row_at rows n)

-- In the rows stands what stood there, and number m in row n where that was added; none twice if none did.
pub record AddsToRows {A : Type 0} (added : ℕ → ℕ → Type 0) (old new : List (Vec ℕ A)) : Type 0 where
  pub count : length new ≡ length old
  pub listed : (n m : ℕ) → IsIn m (row_at new n) ↔ (IsIn m (row_at old n) ⊎ added n m)
  pub distinct : AreDistinct old → AreDistinct new

-- It was noted that label n reaches label m where that was added.
pub record Joins (added : ℕ → ℕ → Type 0) (old new : Reachability) : Type 0 where
  pub reaches : AddsToRows added old.reaches.items new.reaches.items
  pub reached_from : AddsToRows (λ m n. added n m) old.reached_from.items new.reached_from.items

-- A label stands in the first row of another exactly if that one stands in its second row.
abbrev pub AreTransposed : Reachability → Type 0
AreTransposed r = (n m : ℕ) → IsIn m (row_at r.reaches.items n) ↔ IsIn n (row_at r.reached_from.items m)

-- Of these labels, label n reaches label m.
abbrev pub ReachesLabel : List Made → ℕ → ℕ → Type 0
ReachesLabel ms n m = (n < length ms) × (m < length ms) × Reaches (map made_link ms) n m

-- For each of the labels those are listed that it reaches, and those that reach it, each once, and no others.
pub record IsReachability (r : Reachability) (ms : List Made) : Type 0 where
  pub rows : length r.reaches.items ≡ length ms
  pub columns : length r.reached_from.items ≡ length ms
  pub reaches : (n m : ℕ) → IsIn m (row_at r.reaches.items n) ↔ ReachesLabel ms n m
  pub reached_from : (n m : ℕ) → IsIn n (row_at r.reached_from.items m) ↔ ReachesLabel ms n m
  pub rows_distinct : AreDistinct r.reaches.items
  pub columns_distinct : AreDistinct r.reached_from.items
