-- Two items side by side, and the maps that take the one to the other.
use Rattle.std.specs.Prelude.{◌≡◌, ◌↔◌, Option, MatchOption}
use Rattle.cp_model.specs.Term.{apply_to}
use Rattle.cp_model.specs.Homomorphism.{SkeletonMap}
use Rattle.cp_hom.specs.Counterparts.{MakesPart}
use Rattle.cp_hom.specs.declared.pairings.Pairing.{Pairing}
use Rattle.cp_hom.specs.declared.pairings.Pairing.TheVariants.{Strands, Terms, Origins}

-- The map takes the one to the other.
abbrev pub TakesPair : Pairing → SkeletonMap → Type 0
TakesPair (Strands s image x y) f = (f.strands s ≡ image) × MakesPart f.terms x.now y.now
TakesPair (Terms t u) f = apply_to f.terms t.now ≡ u.now
TakesPair (Origins s image t u) f = (f.strands s ≡ image) × (apply_to f.terms t.now ≡ u.now)

-- The fact is true of the maps that take the one to the other; where there is nothing, of no map.
abbrev pub IsPairing : (SkeletonMap → Type 0) → Option Pairing → Type 0
IsPairing fact found = MatchOption found ((f : SkeletonMap) → fact f → ⊥) (λ p. (f : SkeletonMap) → fact f ↔ TakesPair p f)
