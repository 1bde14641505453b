-- What is known of the choices for items before they are tried.
use Rattle.std.proofs.Common.{◌≡◌, ℕ, Bool, true, false, Some, None, if◌then◌else◌, ◌==◌, refl, arith}
use Rattle.std.proofs.lemmas.Bool.Decides.{nat_tests}
use Rattle.cp_hom.specs.PartialMaps.{partial_view, image_in, FindsMaps}
use Rattle.cp_hom.specs.declared.partials.Partial.{Partial}
use Rattle.cp_hom.proofs.Images.{number_there, number_elsewhere}

pub number_known : (given : Partial) (s t other : ℕ) → image_in given.placements.items s ≡ Some other →
    FindsMaps (λ f. f.strands s ≡ t) (partial_view given) (if other == t then Some given else None)
number_known given s t other at = by_test (other == t) refl
  where
    by_test : (b : Bool) → (other == t) ≡ b → FindsMaps (λ f. f.strands s ≡ t) (partial_view given) (if b then Some given else None)
    by_test true e = number_there (partial_view given) s t other at (grind (arith, nat_tests))
    by_test false e = number_elsewhere (partial_view given) s t other at (λ p. grind (arith, nat_tests))
