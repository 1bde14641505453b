-- Variables that are put in order.
use Rattle.std.specs.Prelude.{◌↔◌, ◌⊎◌, ◌==◌, ◌&&◌, ◌||◌, nat_lt, List, Bool}
use Rattle.cp_lists.specs.Lists.{IsIn}
use Rattle.cp_model.specs.SortNumbers.{sort_number}
use Rattle.cp_model.specs.declared.variable.Variable.{Variable}
use Rattle.cp_escape.specs.WidenedPattern.{AreRisingVariables}

-- Whether x stands before y.
abbrev pub variable_before : Variable → Variable → Bool
variable_before x y = nat_lt x.number y.number || ((x.number == y.number) && nat_lt (sort_number x.sort) (sort_number y.sort))

-- Those of the variables xs that are not used have been put among the old ones, in order.
pub record PutsNew (used xs old new : List Variable) : Type 0 where
  pub exactly : (x : Variable) → IsIn x new ↔ (IsIn x old ⊎ (IsIn x xs × (IsIn x used → ⊥)))
  pub rising : AreRisingVariables old → AreRisingVariables new
