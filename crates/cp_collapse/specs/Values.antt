-- Instances under substitutions, with terms for the variables that their roles declare.
use Rattle.std.specs.Prelude.{◌≡◌, ℕ, Bool, List, Option}
use Rattle.cp_model.specs.Term.{Term, key_as_term, asymmetric_term, pubk_term, Substitution, apply_to, composed, variable_term}
use Rattle.cp_model.specs.Bindings.{as_substitution, bindings_of}
use Rattle.cp_model.specs.declared.variable.Variable.{Variable}
use Rattle.cp_model.specs.Skeleton.{SkeletonStrand, instance, listener}
use Rattle.cp_model.specs.PrefixVariables.{declared_variables, terms_of}

-- What a substitution gives a variable, as a term.
abbrev pub image_of_variable : Substitution → Variable → Term
image_of_variable s x = apply_to s (variable_term x)

-- A strand under a substitution, where an instance keeps terms for the variables that its role declares.
abbrev pub declared_under : Substitution → SkeletonStrand → SkeletonStrand
declared_under s (instance role height terms) = instance role height (bindings_of (terms_of (composed (as_substitution terms) s) (declared_variables 0 role.variables)))
declared_under s (listener t) = listener (apply_to s t)

-- The terms are keys of names, but not both public or both private, or with different purposes.
pub record AreOtherKeys (a b : Term) : Type 0 where
  pub flag : Bool
  pub purpose : Option (List ℕ)
  pub name : ℕ
  pub first : a ≡ key_as_term (asymmetric_term flag (pubk_term purpose name))
  pub other_flag : Bool
  pub other_purpose : Option (List ℕ)
  pub other_name : ℕ
  pub second : b ≡ key_as_term (asymmetric_term other_flag (pubk_term other_purpose other_name))
  pub differ : flag ≡ other_flag → purpose ≡ other_purpose → ⊥
