-- Items of a list that have a property.
use Rattle.std.specs.Prelude.{List}
use Rattle.cp_lists.specs.Lists.{IsIn}

-- An item of the list has the property.
abbrev pub Has : {A : Type 0} → (A → Type 0) → List A → Type 0
Has {A = A} has xs = (x : A) × IsIn x xs × has x
