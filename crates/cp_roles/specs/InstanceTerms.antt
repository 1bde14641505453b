-- The terms of an instance's variables.
use Rattle.std.specs.Prelude.{◌≡◌, ◌++◌, ◌&&◌, ℕ, List, [], ◌∷◌, Bool, not, if◌then◌else◌, Option, Some, None}
use Rattle.cp_model.specs.Term.{Term, tag_term}
use Rattle.cp_model.specs.declared.variable.Variable.{Variable}
use Rattle.cp_model.specs.declared.variable.Declaration.{Declaration}
use Rattle.cp_sexpr.specs.Syntax.{Form}
use Rattle.cp_language.specs.Words.{is_one_of}
use Rattle.cp_model.specs.Same.{has_variable}
use Rattle.cp_language.specs.Terms.{term_of}
use Rattle.cp_language.specs.Problems.{mapped_identifier, is_known, Instantiated}

-- The first maplet that maps this identifier.
abbrev pub maplet_named : List ℕ → List Form → Option Form
maplet_named t [] = None
maplet_named t (f ∷ fs) = if is_one_of t (mapped_identifier f) then Some f else maplet_named t fs

-- What a form stands for, if it is there.
abbrev pub term_if_there : List Declaration → Option Form → Term
term_if_there ds None = tag_term []
term_if_there ds (Some f) = term_of ds f

-- A variable of the prefix that has no term gets one that is made for it.
abbrev pub wants_fresh : List Variable → Option Term → Variable → Bool
wants_fresh prefix mapped x = not (is_known mapped) && has_variable prefix x

-- The terms of an instance are these, and the variables made for it stand behind those before.
pub record IsInstantiated (i : Instantiated) (terms : List Term) (before after : List Declaration) : Type 0 where
  pub values : terms ≡ i.terms
  pub made : after ≡ before ++ i.fresh
