-- Places, and which of them are flagged.
use Rattle.std.specs.Prelude.{◌↔◌, ℕ, List, [], ◌∷◌, ◌++◌, get_or, set, Bool, true, false, if◌then◌else◌}
use Rattle.cp_lists.specs.Lists.{IsIn}

-- The same places are in both.
abbrev pub AreSamePlaces : List ℕ → List ℕ → Type 0
AreSamePlaces ps qs = (p : ℕ) → IsIn p ps ↔ IsIn p qs

-- A flag at each of these places.
abbrev pub flagged_places : List ℕ → List Bool → List Bool
flagged_places [] flags = flags
flagged_places (p ∷ ps) flags = flagged_places ps (set flags p true)

-- There is a flag at each of these places.
abbrev pub are_flagged : List Bool → List ℕ → Bool
are_flagged flags [] = true
are_flagged flags (p ∷ ps) = if get_or flags p false then are_flagged flags ps else false

-- Those of these places where there is no flag, behind others.
abbrev pub unflagged_behind : List ℕ → List Bool → List ℕ → List ℕ
unflagged_behind done flags [] = done
unflagged_behind done flags (p ∷ ps) = unflagged_behind (if get_or flags p false then done else done ++ (p ∷ [])) flags ps
