-- The first of what was met so far, in any order in which things come.
use Rattle.std.specs.Prelude.{List, [], ◌∷◌, Bool, false, not, if◌then◌else◌, Option, Some, None}

-- The first of one more and the one before it; of two of which none comes first the one before.
abbrev pub earlier_of : {A : Type 0} → (A → A → Bool) → Option A → A → A
earlier_of comes_before None r = r
earlier_of comes_before (Some s) r = if comes_before r s then r else s

-- The first of these and the one before them.
abbrev pub first_onto : {A : Type 0} → (A → A → Bool) → Option A → List A → Option A
first_onto comes_before before [] = before
first_onto comes_before before (r ∷ rs) = first_onto comes_before (Some (earlier_of comes_before before r)) rs

-- The first of one more, if there is one, and the one before it.
abbrev pub merged : {A : Type 0} → (A → A → Bool) → Option A → Option A → Option A
merged comes_before before None = before
merged comes_before before (Some r) = first_onto comes_before before (r ∷ [])

-- The first of these, or the one before them if there is one.
abbrev pub onto_none : {A : Type 0} → (A → A → Bool) → Option A → List A → Option A
onto_none comes_before None rs = first_onto comes_before None rs
onto_none comes_before (Some r) rs = Some r

-- Whether there was one before, and one more does not come before it.
abbrev pub stands_before : {A : Type 0} → (A → A → Bool) → Option A → A → Bool
stands_before comes_before None r = false
stands_before comes_before (Some s) r = not (comes_before r s)
