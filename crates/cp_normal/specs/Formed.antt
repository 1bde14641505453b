-- The normal forms of a skeleton, each with a substitution by which it comes, alone or behind another substitution.
use Rattle.std.specs.Prelude.{◌≡◌, List, map}
use Rattle.cp_lists.specs.Lists.{IsIn}
use Rattle.cp_model.specs.Term.{Term, value_of, after, Substitution, apply_to, composed}
use Rattle.cp_model.specs.Strand.{Protocol}
use Rattle.cp_model.specs.Bundle.{Bundle, IsBundle}
use Rattle.cp_model.specs.Skeleton.{Skeleton, IsSkeleton}
use Rattle.cp_model.specs.Standing.{Standing, StandsIn, StandsApart}
use Rattle.cp_model.specs.Senders.{ArePaired}
use Rattle.cp_unify.specs.Bindings.{Binding, as_substitution}
use Rattle.cp_normal.specs.BySubstitution.{ComesBySubstitution}
use Rattle.cp_normal.specs.Exact.{HasForms}
use Rattle.cp_normal.specs.declared.form.Form.{Form}

-- A skeleton, and a substitution by which it comes from another.
pub record Formed : Type 0 where
  pub substitution : Substitution
  pub skeleton : Skeleton

-- The skeleton comes from k by the substitution beside it.
pub record IsFormedFrom (k : Skeleton) (f : Formed) : Type 0 where
  pub comes : ComesBySubstitution k f.skeleton
  pub by : comes.substitution ≡ f.substitution

-- One of them stands apart in the bundle by the very standing h, which gives each term the value that it gives the term under
-- the substitution beside it.
pub record StandsAmongFormed (forms : List Formed) (b : Bundle) (h : Standing) : Type 0 where
  pub form : Formed
  pub listed : IsIn form forms
  pub stands : StandsIn form.skeleton b h
  pub apart : StandsApart form.skeleton h
  pub same_values : (t : Term) → value_of (after h.values form.substitution) t ≡ value_of h.values t

-- These are the normal forms of k, in their order, each with a substitution by which it comes from k; and wherever k, over a
-- protocol, stands apart in a bundle, one of them does by the same standing, which agrees with its substitution.
pub record AreFormedNormalForms (k : Skeleton) (forms : List Formed) : Type 0 where
  pub exact : HasForms k (map (λ f. f.skeleton) forms)
  pub formed : (f : Formed) → IsIn f forms → IsFormedFrom k f
  pub loses_none : (protocol : Protocol) (b : Bundle) (h : Standing) → IsSkeleton protocol k → IsBundle protocol b → StandsIn k b h → StandsApart k h → StandsAmongFormed forms b h

-- The program's form has the skeleton of f, with the table of variables of k; and its substitution is the given one followed by
-- that of f, term by term and as a substitution.
pub record IsFormBeside (k : Skeleton) (given : List Binding) (answer : Form) (f : Formed) : Type 0 where
  pub skeleton : answer.skeleton ≡ f.skeleton
  pub variables : answer.skeleton.variables ≡ k.variables
  pub terms : (t : Term) → apply_to (as_substitution answer.substitution) t ≡ apply_to f.substitution (apply_to (as_substitution given) t)
  pub substitution : as_substitution answer.substitution ≡ composed (as_substitution given) f.substitution

-- The program's forms are the normal forms of k, place by place, each with the given substitution followed by the one by which
-- it comes from k.
pub record AreFormsBeside (k : Skeleton) (given : List Binding) (answers : List Form) : Type 0 where
  pub forms : List Formed
  pub normal : AreFormedNormalForms k forms
  pub each : ArePaired (IsFormBeside k given) answers forms

-- The form has the strands of k, and the given substitution.
pub record Keeps (k : Skeleton) (given : List Binding) (answer : Form) : Type 0 where
  pub strands : answer.skeleton.strands ≡ k.strands
  pub substitution : answer.substitution ≡ given
