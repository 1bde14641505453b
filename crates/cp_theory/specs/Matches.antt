-- What patterns match: a pattern is an encryption whose local variables stand for any atom of their sort.
use Rattle.std.specs.Prelude.{◌≡◌}
use Rattle.cp_lists.specs.Lists.{IsIn}
use Rattle.cp_model.specs.Message.{Message}
use Rattle.cp_model.specs.Term.{Term, variable_term, variables_of, Assignment, value_of, Substitution, apply_to}
use Rattle.cp_model.specs.declared.variable.Variable.{Variable}
use Rattle.cp_model.specs.Tree.{Pattern}

-- The variable is one of the pattern's, and no local.
pub record IsFreeIn (x : Variable) (p : Pattern) : Type 0 where
  pub occurs : IsIn x (variables_of p.term)
  pub no_local : IsIn x p.locals → ⊥

-- The pattern matches a term under a substitution of its other variables: some values of the locals make the pattern the
-- term, each other variable being as the substitution says.
pub record Matches (p : Pattern) (s : Substitution) (t : Term) : Type 0 where
  pub filled : Substitution
  pub as_said : (x : Variable) → IsFreeIn x p → apply_to filled (variable_term x) ≡ apply_to s (variable_term x)
  pub same : apply_to filled p.term ≡ t

-- The same of a message: some values of the locals make the pattern's value the message, each other variable having the
-- value that the assignment gives it.
pub record MatchesMessage (p : Pattern) (g : Assignment) (m : Message) : Type 0 where
  pub filled : Assignment
  pub as_said : (x : Variable) → IsFreeIn x p → value_of filled (variable_term x) ≡ value_of g (variable_term x)
  pub same : value_of filled p.term ≡ m
