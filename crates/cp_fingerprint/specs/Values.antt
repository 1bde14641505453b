-- Where a value stands among some values.
use Rattle.std.specs.Prelude.{◌≡◌, ◌++◌, ◌⊎◌, ⊤, ℕ, zero, suc, true, false, List, [], ◌∷◌, length, Option, Some, None}
use Rattle.cp_model.specs.Term.{Term}
use Rattle.cp_model.specs.Same.{same_term}

-- The value number i is t, and none before it is.
abbrev pub IsPlaceOf : Term → List Term → ℕ → Type 0
IsPlaceOf t [] i = ⊥
IsPlaceOf t (u ∷ us) zero = same_term t u ≡ true
IsPlaceOf t (u ∷ us) (suc i) = (same_term t u ≡ false) × IsPlaceOf t us i

-- None of the values is t.
abbrev pub IsAbsent : Term → List Term → Type 0
IsAbsent t [] = ⊤
IsAbsent t (u ∷ us) = (same_term t u ≡ false) × IsAbsent t us

-- The number of the first value that is t, if one is.
abbrev pub IsFoundAmong : Term → List Term → Option ℕ → Type 0
IsFoundAmong t us None = IsAbsent t us
IsFoundAmong t us (Some i) = IsPlaceOf t us i

-- From the values us to the values vs: t has the number i among them, behind all others if it was none of them.
abbrev pub HasEntered : Term → List Term → List Term → ℕ → Type 0
HasEntered t us vs i = ((vs ≡ us) × IsPlaceOf t us i) ⊎ ((vs ≡ us ++ t ∷ []) × (i ≡ length us) × IsAbsent t us)
