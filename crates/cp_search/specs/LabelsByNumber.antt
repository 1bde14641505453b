-- The labels by the bucket keys of their signatures.
use Rattle.std.specs.Prelude.{◌==◌, nat_eq, ℕ, suc, List, [], ◌∷◌, if◌then◌else◌, Option, Some, None}
use Rattle.std.specs.HashMap.{HashMap, get}
use Rattle.cp_search.specs.declared.made.Made.{Made}

-- The labels whose signatures have this bucket key, in ascending order; the first label is number i.
abbrev pub with_key : ℕ → ℕ → List Made → List ℕ
with_key s i [] = []
with_key s i (m ∷ ms) = if m.signature.bucket_key == s then i ∷ with_key s (suc i) ms else with_key s (suc i) ms

abbrev pub shown : {V : Type 0} → Option V → (V → List ℕ) → List ℕ
shown None show = []
shown (Some v) show = show v

-- What a table has for each number.
abbrev pub numbers_by : {V S : Type 0} → HashMap ℕ V S → (V → List ℕ) → ℕ → List ℕ
numbers_by m show s = shown (get nat_eq m s) show
