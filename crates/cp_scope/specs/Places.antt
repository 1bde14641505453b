-- Names that are found by the first place at which they stand.
use Rattle.std.specs.Prelude.{◌≡◌, ℕ, suc, List, [], ◌∷◌, Option, Some, None, Vec, if◌then◌else◌}
use Rattle.std.specs.HashMap.{HashMap, get_by}
use Rattle.std.specs.Str.{bytes_eq}
use Rattle.cp_model.specs.Same.{same_text}

-- The first place at which the name stands, where the first of the list has place n.
abbrev pub place_from : ℕ → List (List ℕ) → List ℕ → Option ℕ
place_from n [] t = None
place_from n (x ∷ xs) t = if same_text t x then Some n else place_from (suc n) xs t

-- The table has for each name the first place at which it stands among these.
abbrev pub ArePlacesOf : List (List ℕ) → {A S : Type 0} → HashMap (Vec ℕ A) ℕ S → Type 0
ArePlacesOf names table = (t : List ℕ) → get_by (λ k. bytes_eq t k.items) table ≡ place_from 0 names t
