-- Where bindings of a number begin, so that looking a variable up need not walk over those before.
use Rattle.std.specs.Prelude.{◌≡◌, ◌⊎◌, ℕ, suc, List, [], ◌∷◌, length, get_or}
use Rattle.cp_unify.specs.Bindings.{Binding}

-- All bindings but the last of this count are of other numbers than n.
abbrev pub BeginAt : ℕ → ℕ → List Binding → Type 0
BeginAt n count [] = count ≡ 0
BeginAt n count (b ∷ bs) = (count ≡ suc (length bs)) ⊎ ((b.variable.number ≡ n → ⊥) × BeginAt n count bs)

-- The table has such a count for each number; a number past its end has 0.
abbrev pub ArePlaces : List ℕ → List Binding → Type 0
ArePlaces places bs = (n : ℕ) → BeginAt n (get_or places n 0) bs

-- The same of a table that is not empty. An empty one says nothing.
abbrev pub ArePlacesIfAny : List ℕ → List Binding → Type 0
ArePlacesIfAny [] bs = Unit {0}
ArePlacesIfAny (count ∷ counts) bs = ArePlaces (count ∷ counts) bs

-- The rest is what is left of the bindings behind some of other numbers than n.
abbrev pub IsRestAfter : ℕ → List Binding → List Binding → Type 0
IsRestAfter n rest [] = rest ≡ []
IsRestAfter n rest (b ∷ bs) = (rest ≡ b ∷ bs) ⊎ ((b.variable.number ≡ n → ⊥) × IsRestAfter n rest bs)
