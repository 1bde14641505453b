-- Most general unifiers of terms.
use Rattle.std.specs.Prelude.{◌≡◌}
use Rattle.cp_model.specs.Term.{Term, Assignment, value_of, after, Substitution, apply_to}
use Rattle.cp_collapse.specs.Directed.{BindsLaterToEarlier}

-- s is the most general unifier of two terms that binds later variables to earlier ones: it makes them one, and every
-- assignment that gives them one value gives each term the value of that term under s.
pub record UnifiesMostGenerally (a b : Term) (s : Substitution) : Type 0 where
  pub unifies : apply_to s a ≡ apply_to s b
  pub general : (g : Assignment) → value_of g a ≡ value_of g b → (t : Term) → value_of (after g s) t ≡ value_of g t
  pub directed : BindsLaterToEarlier s

-- No assignment gives the two terms one value.
abbrev pub NeverEqual : Term → Term → Type 0
NeverEqual a b = (g : Assignment) → value_of g a ≡ value_of g b → ⊥
