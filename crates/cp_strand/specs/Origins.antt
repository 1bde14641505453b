-- What a role's events carry, and what originates at them, where their terms become others.
use Rattle.std.specs.Prelude.{◌⊎◌, ℕ, List, [], ◌∷◌, map}
use Rattle.cp_model.specs.Term.{Term, IsCarriedByTerm, Substitution, apply_to}
use Rattle.cp_model.specs.Strand.{payload, event_map, OriginatesInTerms}
use Rattle.cp_model.specs.declared.strand.Event.{Event}

-- The message of one of the events carries the term under the substitution.
abbrev pub IsCarriedByOne : Substitution → List (Event Term) → Term → Type 0
IsCarriedByOne s [] t = ⊥
IsCarriedByOne s (e ∷ es) t = IsCarriedByTerm t (apply_to s (payload e)) ⊎ IsCarriedByOne s es t

-- The term originates at a place of the events under the substitution.
abbrev pub OriginatesUnder : Substitution → List (Event Term) → Term → ℕ → Type 0
OriginatesUnder s events t i = OriginatesInTerms (map (event_map (apply_to s)) events) t i
