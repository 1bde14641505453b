-- What reaches which node along one of some pairs, to be looked up.
use Rattle.std.specs.Prelude.{◌≡◌, ◌⊎◌, ◌==◌, ◌&&◌, ◌<◌, ◌-◌, nat_eq, ℕ, List, [], length, Bool, true, false, Option, Some, None, is_some}
use Rattle.std.specs.HashMap.{HashMap, get}
use Rattle.cp_lists.specs.Lists.{IsIn, item_at}
use Rattle.cp_model.specs.declared.node.Node.{Node}
use Rattle.cp_model.specs.declared.node.OrderPair.{OrderPair}
use Rattle.cp_model.specs.OrderTests.{any_pair}
use Rattle.cp_order.specs.PredecessorNodes.{Tops, is_under_tops}
use Rattle.cp_order.specs.Composed.{is_between}

-- The nodes at the tops and below them are those from which, or from a node after them, a pair leads to the node y, or
-- to a node before it.
abbrev pub AreTopsAlongOne : List OrderPair → Node → Tops → Type 0
AreTopsAlongOne pairs y tops = (x : Node) → is_under_tops tops x ≡ any_pair (is_between x y) pairs

-- For each of the first indices of the strand the tops are those of its node.
abbrev pub AreRows : List OrderPair → ℕ → List Tops → Type 0
AreRows pairs s rows = (i : ℕ) (tops : Tops) → item_at rows i ≡ Some tops → AreTopsAlongOne pairs (record { strand = s; index = i }) tops

-- There are such tops for each index of the strand at which a pair ends.
pub record AreRowsOn (pairs : List OrderPair) (s : ℕ) (rows : List Tops) : Type 0 where
  pub each : AreRows pairs s rows
  pub all : (p : OrderPair) → IsIn p pairs → p.later.strand ≡ s → p.later.index < length rows

-- So it is for each strand.
abbrev pub AreRowsOf : List OrderPair → (ℕ → List Tops) → Type 0
AreRowsOf pairs rows = (s : ℕ) → AreRowsOn pairs s (rows s)

-- ---- in a table

-- What the value shows, or nothing where there is none.
abbrev pub shown : {V : Type 0} → Option V → (V → List Tops) → List Tops
shown None show = []
shown (Some v) show = show v

-- For each strand what its value in the table shows.
abbrev pub rows_by : {V S : Type 0} → HashMap ℕ V S → (V → List Tops) → ℕ → List Tops
rows_by m show s = shown (get nat_eq m s) show

-- What is in the table is for its strand; and there is something for each strand at which a pair ends but those that are
-- left.
pub record AreRowsSoFar {V : Type 0} (pairs left : List OrderPair) (rows : ℕ → Option V) (show : V → List Tops) : Type 0 where
  pub each : (s : ℕ) (v : V) → rows s ≡ Some v → AreRowsOn pairs s (show v)
  pub all : (p : OrderPair) → IsIn p pairs → (is_some (rows p.later.strand) ≡ true) ⊎ IsIn p left

-- ---- what is looked up

-- The node is at these tops or below, if there are any.
abbrev pub is_in_last : Option Tops → Node → Bool
is_in_last None x = false
is_in_last (Some tops) x = is_under_tops tops x

-- The node is at these tops or below, or at the last ones where these are not there.
abbrev pub is_in_row : Option Tops → Option Tops → Node → Bool
is_in_row (Some tops) last x = is_under_tops tops x
is_in_row None last x = is_in_last last x

-- The node is at the tops for the index or below; past the end the last ones hold.
abbrev pub is_in_rows : List Tops → ℕ → Node → Bool
is_in_rows rows i x = is_in_row (item_at rows i) (item_at rows (length rows - 1)) x

-- The pair ends on the strand.
abbrev pub ends_on : ℕ → OrderPair → Bool
ends_on s p = p.later.strand == s

-- The pair ends at the node.
abbrev pub ends_at : Node → OrderPair → Bool
ends_at n p = (p.later.strand == n.strand) && (p.later.index == n.index)
