-- Skeletons that come from another by one substitution each, which is chosen before any bundle.
use Rattle.std.specs.Prelude.{◌≡◌, List, ◌++◌}
use Rattle.cp_lists.specs.Lists.{IsIn}
use Rattle.cp_model.specs.Term.{Term, value_of, after, Substitution, apply_to, variable_term, variables_of}
use Rattle.cp_model.specs.declared.variable.Variable.{Variable}
use Rattle.cp_model.specs.Strand.{Protocol}
use Rattle.cp_model.specs.Bundle.{Bundle, IsBundle}
use Rattle.cp_model.specs.Skeleton.{Skeleton}
use Rattle.cp_model.specs.Standing.{Standing, StandsIn, StandsApart}
use Rattle.cp_model.specs.Problem.{variables_of_skeleton}
use Rattle.cp_theory.specs.Normal.{skeleton_under, with_pairs, variables_of_terms}
use Rattle.cp_collapse.specs.SameSkeletons.{SaysTheSame}
use Rattle.cp_normal.specs.Findings.{AreNormalPairs}

-- The variables that occur in a skeleton, or in a term of its map from the problem.
abbrev pub all_variables : Skeleton → List Variable
all_variables k = variables_of_skeleton k ++ variables_of_terms k.from_problem.values

-- The substitution changes the skeleton within its own variables: applied twice it does what it does once, it gives each
-- variable of the skeleton a term of variables of the skeleton, and it leaves all other variables.
pub record StaysWithin (k : Skeleton) (s : Substitution) : Type 0 where
  pub idempotent : (t : Term) → apply_to s (apply_to s t) ≡ apply_to s t
  pub within : (x y : Variable) → IsIn x (all_variables k) → IsIn y (variables_of (apply_to s (variable_term x))) → IsIn y (all_variables k)
  pub leaves : (x : Variable) → (IsIn x (all_variables k) → ⊥) → apply_to s (variable_term x) ≡ variable_term x

-- r is k under one substitution, with pairs added: it says what k says under the substitution, but for its pairs, which are
-- exactly those of k and those that are added there.
pub record ComesBySubstitution (k r : Skeleton) : Type 0 where
  pub substitution : Substitution
  pub stays_within : StaysWithin k substitution
  pub same : SaysTheSame (with_pairs (skeleton_under substitution k) r.pairs) r
  pub pairs : AreNormalPairs (skeleton_under substitution k) r.pairs

-- One of the skeletons stands apart in the bundle by the very standing h, which gives each term the value that it gives the
-- term under the substitution by which that one comes from k.
pub record StandsAmongForms (k : Skeleton) (rs : List Skeleton) (by : (r : Skeleton) → IsIn r rs → ComesBySubstitution k r) (b : Bundle) (h : Standing) : Type 0 where
  pub form : Skeleton
  pub listed : IsIn form rs
  pub stands : StandsIn form b h
  pub apart : StandsApart form h
  pub same_values : (t : Term) → value_of (after h.values (by form listed).substitution) t ≡ value_of h.values t

-- Each of the skeletons comes from k by one substitution; and wherever k stands apart in a bundle over the protocol, one of
-- them does by the same standing, which agrees with that one's substitution.
pub record ComeBySubstitutions (protocol : Protocol) (k : Skeleton) (rs : List Skeleton) : Type 0 where
  pub by : (r : Skeleton) → IsIn r rs → ComesBySubstitution k r
  pub standing : (b : Bundle) (h : Standing) → IsBundle protocol b → StandsIn k b h → StandsApart k h → StandsAmongForms k rs by b h
