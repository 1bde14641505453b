-- Substitutions that bind later variables to earlier ones, and most general unifiers among them.
use Rattle.std.specs.Prelude.{◌≡◌, List}
use Rattle.cp_model.specs.Term.{AtomTerm, Term, Assignment, value_of_atom, value_of, after, Substitution, apply_to_atom, apply_to}
use Rattle.cp_unify.specs.Bindings.{Binding, as_substitution}
use Rattle.cp_unify.specs.Unifiers.{AreLaterToEarlier}

-- The substitution is that of bindings, each of a later variable to an earlier one, or to the inverse of an earlier one, or
-- to another term; and applied twice it does what it does once.
pub record BindsLaterToEarlier (s : Substitution) : Type 0 where
  pub bindings : List Binding
  pub is_substitution : s ≡ as_substitution bindings
  pub later_to_earlier : AreLaterToEarlier bindings
  pub idempotent : (t : Term) → apply_to s (apply_to s t) ≡ apply_to s t

-- s is the most general unifier of two atoms that binds later variables to earlier ones: it makes them one, and every
-- assignment that gives them one value gives each term the value of that term under s.
pub record IsMostGeneralFor (a b : AtomTerm) (s : Substitution) : Type 0 where
  pub unifies : apply_to_atom s a ≡ apply_to_atom s b
  pub general : (g : Assignment) → value_of_atom g a ≡ value_of_atom g b → (t : Term) → value_of (after g s) t ≡ value_of g t
  pub directed : BindsLaterToEarlier s
