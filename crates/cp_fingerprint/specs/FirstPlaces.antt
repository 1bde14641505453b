-- The first of the numbers in a list that is equal to each.
use Rattle.std.specs.Prelude.{◌==◌, ℕ, suc, List, [], ◌∷◌, map, if◌then◌else◌}

-- The place of the first number that is this one; where there is none, the length of the list.
abbrev pub first_place_of : ℕ → List ℕ → ℕ
first_place_of n [] = 0
first_place_of n (m ∷ ms) = if m == n then 0 else suc (first_place_of n ms)

-- For each number the place of the first that is equal to it.
abbrev pub firsts : List ℕ → List ℕ
firsts ns = map (λ n. first_place_of n ns) ns
