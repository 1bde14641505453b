-- Where a value originates, if it does.
use Rattle.std.proofs.Common.{◌≡◌, ℕ, List, refl, sym, is_some, Option, Some, None}
use Rattle.std.specs.Prelude.{IfSome, IfNone}
use Rattle.cp_model.specs.Term.{Term}
use Rattle.cp_model.specs.declared.strand.Event.{Event}
use Rattle.cp_model.specs.Strand.{OriginatesInTerms}
use Rattle.cp_model.specs.Same.{origin_in}
use Rattle.cp_language.specs.Roles.{is_somewhere}
use Rattle.cp_model.proofs.SameTests.{origin_found, finds_origin}

pub somewhere : (o : Option ℕ) → is_some o ≡ is_somewhere o
somewhere None = refl
somewhere (Some i) = refl

nowhere : (es : List (Event Term)) (v : Term) (o : Option ℕ) → origin_in es v ≡ o → ((i : ℕ) → OriginatesInTerms es v i → ⊥) → None ≡ o
nowhere es v None e none = refl
nowhere es v (Some i) e none = absurd (none i (origin_found es v i e))

pub exact-origin : (es : List (Event Term)) (v : Term) (o : Option ℕ) → IfSome o (λ i. OriginatesInTerms es v i) → IfNone o ((i : ℕ) → OriginatesInTerms es v i → ⊥) → o ≡ origin_in es v
exact-origin es v (Some i) at none = sym (finds_origin es v i at)
exact-origin es v None at none = nowhere es v (origin_in es v) refl none
