-- Assignments that fit a substitution.
use Rattle.std.specs.Prelude.{◌≡◌}
use Rattle.cp_model.specs.Term.{Term, Assignment, value_of, after, AgreeOn, Substitution}
use Rattle.cp_model.specs.Skeleton.{Skeleton}
use Rattle.cp_theory.specs.Critical.{used_variables}

-- k came from the skeleton named first by the substitution s, and the variables of k have the values g. With other values of
-- new variables these fit the substitution t: each term has the value that it has under t.
pub record Fits (first : Skeleton) (s : Substitution) (k : Skeleton) (g : Assignment) (t : Substitution) : Type 0 where
  pub values : Assignment
  pub same_inside : AgreeOn (used_variables k) g values
  pub same_of_first : AgreeOn (used_variables first) (after g s) (after values s)
  pub fits : (u : Term) → value_of (after values t) u ≡ value_of values u
