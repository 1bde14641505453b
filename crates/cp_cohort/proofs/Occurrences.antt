-- The conditions on a release, from what the tests find.
use Rattle.std.proofs.Common.{◌≡◌, ◌<◌, ℕ, Bool, true, false}
use Rattle.cp_cohort.specs.Releases.{Release, PartialSolution, IsReleasedInside, IsInsideAlone, MeetsBoth}
use Rattle.cp_cohort.specs.Conditions.{HasNoneBefore}

module _ (r : Release) (x : PartialSolution) where
  -- No event before this index carries the term outside.
  abbrev pub HasNoneUpTo : ℕ → Type 0
  HasNoneUpTo n = (i : ℕ) → i < n → IsInsideAlone r x i

  pub outside_if : (b : Bool) → b ≡ false → (IsReleasedInside r x → b ≡ true) → IsReleasedInside r x → ⊥
  outside_if b is finds i = let e : b ≡ true = finds i in cc

  pub both_met : (b : Bool) → b ≡ false → (IsReleasedInside r x → b ≡ true) → HasNoneBefore r x → MeetsBoth r x
  both_met b is finds none = record { outside = outside_if b is finds; inside_before = none }
