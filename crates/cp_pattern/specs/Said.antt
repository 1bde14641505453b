-- What is said of a pattern's variables that are not local, and which of several patterns matches.
use Rattle.std.specs.Prelude.{◌≡◌, List, [], ◌∷◌}
use Rattle.cp_lists.specs.Lists.{IsIn}
use Rattle.cp_model.specs.Term.{Term, variable_term, Substitution, apply_to}
use Rattle.cp_model.specs.declared.variable.Variable.{Variable}
use Rattle.cp_model.specs.Tree.{Pattern}
use Rattle.cp_unify.specs.Bindings.{Binding}
use Rattle.cp_theory.specs.Matches.{IsFreeIn, Matches}

-- The substitution gives the variable of each binding its term, but for these variables.
abbrev pub AgreesBut : List Variable → Substitution → List Binding → Type 0
AgreesBut locals f [] = Unit {0}
AgreesBut locals f (b ∷ bs) = ((IsIn b.variable locals → ⊥) → apply_to f (variable_term b.variable) ≡ b.term) × AgreesBut locals f bs

-- f gives the variables of the pattern that are not local what s says of them.
abbrev pub AgreesOnFree : Pattern → Substitution → Substitution → Type 0
AgreesOnFree p s f = (x : Variable) → IsFreeIn x p → apply_to f (variable_term x) ≡ apply_to s (variable_term x)

-- One of the patterns matches the term.
pub record HasMatch (ps : List Pattern) (s : Substitution) (t : Term) : Type 0 where
  pub pattern : Pattern
  pub listed : IsIn pattern ps
  pub matches : Matches pattern s t
