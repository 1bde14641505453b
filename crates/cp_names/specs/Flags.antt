-- Flags for the variables of a list that occur.
use Rattle.std.specs.Prelude.{◌≡◌, ℕ, ◌+◌, ◌++◌, ◌<◌, List, [], ◌∷◌, length, get_or, set, Bool, true, false, if◌then◌else◌}
use Rattle.cp_model.specs.declared.variable.Variable.{Variable}
use Rattle.cp_model.specs.declared.variable.Declaration.{Declaration}
use Rattle.cp_language.specs.Names.{free_name, behind, has_number}

-- A flag at each of these numbers.
abbrev pub flagged_variables : List Variable → List Bool → List Bool
flagged_variables [] flags = flags
flagged_variables (x ∷ xs) flags = flagged_variables xs (set flags x.number true)

-- There are so many flags, and the one of a number says whether a variable of that number occurs.
pub record AreFlagsOf (occurring : List Variable) (count : ℕ) (flags : List Bool) : Type 0 where
  pub counted : length flags ≡ count
  pub each : (n : ℕ) → n < count → get_or flags n false ≡ has_number occurring n

-- ---- the names of flagged variables

-- The names of later variables, of which the first has number n: a flagged one gets a name that is not taken, any other an
-- empty one.
abbrev pub later_names_by : List (List ℕ) → List Bool → ℕ → List Declaration → List (List ℕ)
later_names_by taken flags n [] = []
later_names_by taken flags n (d ∷ ds) =
    let x = free_name taken d.identifier in
    if get_or flags n false then x ∷ later_names_by (taken ++ x ∷ []) flags (n + 1) ds else [] ∷ later_names_by taken flags (n + 1) ds

-- The names of a label's variables: first those of the problem's, then those of the flagged ones behind them.
abbrev pub label_names_by : List (List ℕ) → List Bool → List Declaration → List (List ℕ)
label_names_by names flags ds = names ++ later_names_by names flags (length names) (behind (length names) ds)
