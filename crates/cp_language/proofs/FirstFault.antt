-- The first of several, by what comes before what; and of the faults of forms, as examples show it.
use Rattle.std.specs.Prelude.{ℕ, List, [], ◌∷◌, Bool, Option, Some, None, if◌then◌else◌}
use Rattle.cp_base.specs.declared.place.Place.{Place}
use Rattle.cp_base.specs.declared.place.Refusal.{Refusal}
use Rattle.cp_language.specs.FirstFault.{refusal_before}

-- A place, by its line and its column.
abbrev pub p : ℕ → ℕ → Place
p l c = record { line = l; col = c }

-- The first of an item and others, by what comes before what.
abbrev pub best_by : {A : Type 0} → (A → A → Bool) → A → List A → A
best_by before x [] = x
best_by before x (y ∷ ys) = best_by before (if before y x then y else x) ys

-- The first of some items.
abbrev pub first_by : {A : Type 0} → (A → A → Bool) → List A → Option A
first_by before [] = None
first_by before (x ∷ xs) = Some (best_by before x xs)

-- The first of all faults.
abbrev pub first : List Refusal → Option Refusal
first rs = first_by refusal_before rs
