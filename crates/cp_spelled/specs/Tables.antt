-- Tables that find locals by their numbers.
use Rattle.std.specs.Prelude.{◌≡◌, ◌==◌, ℕ, suc, List, [], ◌∷◌, Option, Some, None, nat_eq, if◌then◌else◌}
use Rattle.std.specs.HashMap.{HashMap, get}
use Rattle.cp_model.specs.declared.variable.Variable.{Variable}

-- The first of the locals with this number: its sort, and its place, where the first of the list has place k.
abbrev pub local_from : ℕ → List Variable → ℕ → Option Variable
local_from k [] n = None
local_from k (l ∷ ls) n = if l.number == n then Some (record { sort = l.sort; number = k }) else local_from (suc k) ls n

-- The table has for each number the first of the locals with it.
abbrev pub AreLocalsOf : List Variable → {S : Type 0} → HashMap ℕ Variable S → Type 0
AreLocalsOf ls table = (n : ℕ) → get nat_eq table n ≡ local_from 0 ls n
