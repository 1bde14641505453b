-- What is known of a match before it is made.
use Rattle.std.proofs.Common.{◌≡◌, Bool, true, false, List, Option, Some, None, if◌then◌else◌, IfSome, sym}
use Rattle.cp_model.specs.Term.{Term}
use Rattle.cp_unify.specs.Bindings.{Binding}
use Rattle.cp_unify.specs.Beside.{MatchesBeside, NeverMatchesBeside}
use Rattle.cp_unify.specs.Matched.{is_listed, matched}
use Rattle.cp_unify.proofs.MatchedTerms.{beside_some, beside_none}

abbrev pub IsKnown : Term → Term → List Binding → Option Bool → Type 0
IsKnown p t r known = IfSome known (λ same. matched (is_listed None) p t r ≡ (if same then Some r else None))

pub known_same : (p t : Term) (r : List Binding) (known : Option Bool) → IsKnown p t r known → known ≡ Some true → MatchesBeside p t r r
known_same p t r None h e = let f : ⊥ = cc in absurd f
known_same p t r (Some true) h e = beside_some p t r (Some r) (sym h)
known_same p t r (Some false) h e = let f : ⊥ = cc in absurd f

pub known_never : (p t : Term) (r : List Binding) (known : Option Bool) → IsKnown p t r known → known ≡ Some false → NeverMatchesBeside p t r
known_never p t r None h e = let f : ⊥ = cc in absurd f
known_never p t r (Some true) h e = let f : ⊥ = cc in absurd f
known_never p t r (Some false) h e = beside_none p t r None (sym h)
