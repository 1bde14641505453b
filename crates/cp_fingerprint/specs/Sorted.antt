-- Lists in ascending order.
use Rattle.std.specs.Prelude.{◌≡◌, false, List, [], ◌∷◌, if◌then◌else◌, ⊤}
use Rattle.std.specs.declared.cmp.Ordering.{Ordering}
use Rattle.std.specs.Ordering.{is_gt}
use Rattle.cp_lists.specs.Lists.{IsIn}

-- The list with x before its first item that is not below x.
abbrev pub put_in : {A : Type 0} → (A → A → Ordering) → A → List A → List A
put_in order x [] = x ∷ []
put_in order x (y ∷ ys) = if is_gt (order x y) then y ∷ put_in order x ys else x ∷ (y ∷ ys)

-- The items in ascending order.
abbrev pub sorted_by : {A : Type 0} → (A → A → Ordering) → List A → List A
sorted_by order [] = []
sorted_by order (x ∷ xs) = put_in order x (sorted_by order xs)

-- No item is above a later one.
abbrev pub IsAscending : {A : Type 0} → (A → A → Ordering) → List A → Type 0
IsAscending order [] = ⊤
IsAscending {A} order (x ∷ xs) = ((y : A) → IsIn y xs → is_gt (order x y) ≡ false) × IsAscending order xs
