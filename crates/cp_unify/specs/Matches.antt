-- Matching of patterns with terms: values of local variables.
use Rattle.std.specs.Prelude.{◌≡◌, List, [], ◌∷◌}
use Rattle.cp_lists.specs.Lists.{IsIn}
use Rattle.cp_model.specs.Term.{Term, variable_term, Substitution, apply_to}
use Rattle.cp_model.specs.declared.variable.Variable.{Variable}
use Rattle.cp_unify.specs.Bindings.{Binding, as_substitution}

-- The substitution changes only these variables.
abbrev pub ChangesOnly : List Variable → Substitution → Type 0
ChangesOnly locals s = (x : Variable) → (IsIn x locals → ⊥) → apply_to s (variable_term x) ≡ variable_term x

-- The bindings are of these variables.
abbrev pub BindsOnly : List Variable → List Binding → Type 0
BindsOnly locals [] = Unit {0}
BindsOnly locals (b ∷ bs) = IsIn b.variable locals × BindsOnly locals bs

-- The bindings are of locals, and applied as a substitution they make the pattern the term.
pub record IsMatch (pattern term : Term) (locals : List Variable) (r : List Binding) : Type 0 where
  pub binds_locals : BindsOnly locals r
  pub matches : apply_to (as_substitution r) pattern ≡ term

-- No substitution that changes only locals makes the pattern the term.
abbrev pub HasNoMatch : Term → Term → List Variable → Type 0
HasNoMatch pattern term locals = (s : Substitution) → ChangesOnly locals s → apply_to s pattern ≡ term → ⊥
