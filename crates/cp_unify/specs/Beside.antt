-- Bindings that make a pattern a term, beside some that there are already. The variables of the pattern stand apart from
-- those of the term, also where they have the same numbers.
use Rattle.std.specs.Prelude.{◌≡◌, List, [], ◌∷◌}
use Rattle.cp_model.specs.Term.{Term, variable_term, Substitution, apply_to}
use Rattle.cp_unify.specs.Bindings.{Binding, as_substitution}

-- The substitution gives each variable of the bindings its term.
abbrev pub Agrees : Substitution → List Binding → Type 0
Agrees s [] = Unit {0}
Agrees s (b ∷ bs) = (apply_to s (variable_term b.variable) ≡ b.term) × Agrees s bs

-- Of the substitutions that agree with the bindings r, those that make the pattern the term are those that agree with q, and
-- all that agree with q are among them; and where r, as a substitution, agrees with itself, so does q.
pub record MatchesBeside (pattern term : Term) (r q : List Binding) : Type 0 where
  pub extends : (s : Substitution) → Agrees s q → Agrees s r
  pub sound : (s : Substitution) → Agrees s q → apply_to s pattern ≡ term
  pub general : (s : Substitution) → Agrees s r → apply_to s pattern ≡ term → Agrees s q
  pub own : Agrees (as_substitution r) r → Agrees (as_substitution q) q

-- No substitution that agrees with the bindings makes the pattern the term.
abbrev pub NeverMatchesBeside : Term → Term → List Binding → Type 0
NeverMatchesBeside pattern term r = (s : Substitution) → Agrees s r → apply_to s pattern ≡ term → ⊥
