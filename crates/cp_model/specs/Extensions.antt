-- Skeletons with a strand more, and with a longer strand.
use Rattle.std.specs.Prelude.{◌≡◌, ◌≢◌, ℕ, ◌≤◌, List, [], ◌∷◌, ◌++◌, Some, length}
use Rattle.cp_lists.specs.Lists.{item_at, IsIn}
use Rattle.cp_model.specs.Term.{Variable, Term, AgreeOnTerms}
use Rattle.cp_model.specs.Bindings.{Binding, as_substitution}
use Rattle.cp_model.specs.Strand.{Role, variables_of_prefix}
use Rattle.cp_model.specs.Skeleton.{instance, listener, Skeleton}
use Rattle.cp_model.specs.Problem.{IsDeclared}
use Rattle.cp_model.specs.GivenAssumptions.{AddsGiven}
use Rattle.cp_model.specs.PrefixVariables.{prefix_variables, added_variables, AreTermsFor, terms_of}

-- The new skeleton is the old with a listener on t behind its strands.
abbrev pub AddsListener : Term → Skeleton → Skeleton → Type 0
AddsListener t old new = new ≡ record old { strands = old.strands ++ listener t ∷ [] }

-- All variables that occur in a prefix are declared.
abbrev pub IsClosedPrefix : Role → ℕ → Type 0
IsClosedPrefix role height = (x : Variable) → IsIn x (variables_of_prefix role height) → IsDeclared role.variables x

-- The new skeleton has an instance behind the strands of the old: its terms of the variables of the prefix, in the
-- order of their declarations, are the values; what the role gives it is added to the assumptions. The tables may differ.
pub record AddsStrand (role : Role) (height : ℕ) (values : List Term) (old new : Skeleton) : Type 0 where
  pub terms : List Binding
  pub gives : terms_of (as_substitution terms) (prefix_variables role height) ≡ values
  pub strands : new.strands ≡ old.strands ++ instance role height terms ∷ []
  pub pairs : new.pairs ≡ old.pairs
  pub assumptions : AddsGiven role height terms (length old.strands) old.assumptions new.assumptions
  pub from_problem : new.from_problem ≡ old.from_problem

-- Strand number s is an instance that can grow to this height, where the variables that are added become the values.
pub record CanExtend (k : Skeleton) (s height : ℕ) (values : List Term) : Type 0 where
  pub role : Role
  pub before : ℕ
  pub terms : List Binding
  pub on_instance : item_at k.strands s ≡ Some (instance role before terms)
  pub higher : before ≤ height
  pub reached : height ≤ length role.trace
  pub fitting : AreTermsFor (added_variables role before height) values

-- In the new skeleton the instance on strand number s has grown to this height: the variables of its old prefix have the
-- terms that they had, those that are added have the values; what the role now gives it is added to the assumptions.
-- All other strands stay. The tables may differ.
pub record Extends (s height : ℕ) (values : List Term) (old new : Skeleton) : Type 0 where
  pub role : Role
  pub before : ℕ
  pub old_terms : List Binding
  pub was_instance : item_at old.strands s ≡ Some (instance role before old_terms)
  pub terms : List Binding
  pub on_instance : item_at new.strands s ≡ Some (instance role height terms)
  pub keeps : AgreeOnTerms (variables_of_prefix role before) (as_substitution old_terms) (as_substitution terms)
  pub gives : terms_of (as_substitution terms) (added_variables role before height) ≡ values
  pub others : (t : ℕ) → t ≢ s → item_at new.strands t ≡ item_at old.strands t
  pub pairs : new.pairs ≡ old.pairs
  pub assumptions : AddsGiven role height terms s old.assumptions new.assumptions
  pub from_problem : new.from_problem ≡ old.from_problem
