-- What is left to look for where a value carries a part, whatever carrying is.
use Rattle.std.proofs.Common.{Bool, true, false, ◌≡◌, ◌≢◌, sym, subst, ◌∙◌}
use Rattle.std.proofs.lemmas.Bool.{both_ways}

-- A test does not answer both, whichever test it is.
pub not_both : {b : Bool} → b ≡ false → b ≡ true → ⊥
not_both {b} p q = both_ways b p q

-- What a value that is made so carries, the whole carries.
pub made_carries : {T : Type 0} (Carries : T → Type 0) (whole rest made : T) → rest ≡ made → Carries made → (Carries rest → Carries whole) → Carries whole
made_carries Carries whole rest made e h up = up (subst Carries (sym e) h)

-- Where a value that is made so is not the part and carries it only in its last part, that one is left.
pub last_left : {T : Type 0} (Carries : T → Type 0) (whole rest part made last : T) → rest ≡ made → rest ≢ part →
    (Carries last → Carries made) → ((made ≢ part) → Carries made → Carries last) →
    (Carries rest → Carries whole) → (Carries whole → Carries rest) → (Carries last → Carries whole) × (Carries whole → Carries last)
last_left Carries whole rest part made last e other in_last only up down = (
  λ h. up (subst Carries (sym e) (in_last h)),
  λ h. only (λ same. other (e ∙ same)) (subst Carries e (down h)),
)
