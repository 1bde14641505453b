-- Whether all strings, and all identifiers, of a role, a skeleton, a problem or a label have a property: S says which strings
-- are admitted, and I which identifiers and names.
use Rattle.std.specs.Prelude.{◌≡◌, ℕ, List, Some}
use Rattle.cp_lists.specs.Lists.{IsIn}
use Rattle.cp_model.specs.Term.{apply_to, variable_term, AtomTerm, Term}
use Rattle.cp_model.specs.Bindings.{as_substitution}
use Rattle.cp_model.specs.declared.variable.Variable.{Variable}
use Rattle.cp_model.specs.Strand.{payload, Role, variables_of_prefix}
use Rattle.cp_model.specs.declared.strand.Event.{Event}
use Rattle.cp_model.specs.declared.variable.Declaration.{Declaration}
use Rattle.cp_model.specs.Skeleton.{SkeletonStrand, instance, listener, UniqueAt, Assumptions, Skeleton}
use Rattle.cp_model.specs.Tree.{Pattern, Test, Label}
use Rattle.cp_language.specs.Problems.{Problem}
use Rattle.cp_printable.specs.Strings.{strings_of_atom, strings_of}

-- Each string of the term is admitted.
abbrev pub IsSpelledTerm : (List ℕ → Type 0) → Term → Type 0
IsSpelledTerm S t = (s : List ℕ) → IsIn s (strings_of t) → S s

abbrev pub IsSpelledAtom : (List ℕ → Type 0) → AtomTerm → Type 0
IsSpelledAtom S v = (s : List ℕ) → IsIn s (strings_of_atom v) → S s

abbrev pub AreSpelledAtoms : (List ℕ → Type 0) → List AtomTerm → Type 0
AreSpelledAtoms S vs = (v : AtomTerm) → IsIn v vs → IsSpelledAtom S v

-- Each declared identifier is admitted.
abbrev pub AreSpelledDeclarations : (List ℕ → Type 0) → List Declaration → Type 0
AreSpelledDeclarations I ds = (d : Declaration) → IsIn d ds → I d.identifier

pub record IsSpelledRole (S I : List ℕ → Type 0) (role : Role) : Type 0 where
  pub name : I role.name
  pub variables : AreSpelledDeclarations I role.variables
  pub trace : (e : Event Term) → IsIn e role.trace → IsSpelledTerm S (payload e)
  pub non : AreSpelledAtoms S role.non_originating
  pub penetrator_non : AreSpelledAtoms S role.penetrator_non_originating
  pub unique : AreSpelledAtoms S role.uniquely_originating

-- Of an instance its role, and the terms of the variables of its prefix; of a listener its term.
abbrev pub IsSpelledStrand : (S I : List ℕ → Type 0) → SkeletonStrand → Type 0
IsSpelledStrand S I (instance role height terms) = IsSpelledRole S I role × ((x : Variable) → IsIn x (variables_of_prefix role height) → IsSpelledTerm S (apply_to (as_substitution terms) (variable_term x)))
IsSpelledStrand S I (listener t) = IsSpelledTerm S t

pub record AreSpelledAssumptions (S : List ℕ → Type 0) (a : Assumptions) : Type 0 where
  pub non : AreSpelledAtoms S a.non_originating
  pub penetrator_non : AreSpelledAtoms S a.penetrator_non_originating
  pub unique : (u : UniqueAt) → IsIn u a.uniquely_originating → IsSpelledAtom S u.value

-- The strands of a skeleton, its assumptions, and the terms and assumptions of its way from the problem.
pub record IsSpelledSkeleton (S I : List ℕ → Type 0) (k : Skeleton) : Type 0 where
  pub strands : (s : SkeletonStrand) → IsIn s k.strands → IsSpelledStrand S I s
  pub assumptions : AreSpelledAssumptions S k.assumptions
  pub values : (t : Term) → IsIn t k.from_problem.values → IsSpelledTerm S t
  pub own : AreSpelledAssumptions S k.from_problem.assumptions

pub record IsSpelledProblem (S I : List ℕ → Type 0) (p : Problem) : Type 0 where
  pub roles : (role : Role) → IsIn role p.protocol.roles → IsSpelledRole S I role
  pub variables : AreSpelledDeclarations I p.variables
  pub skeleton : IsSpelledSkeleton S I p.skeleton

pub record IsSpelledLabel (S I : List ℕ → Type 0) (l : Label) : Type 0 where
  pub variables : AreSpelledDeclarations I l.skeleton.variables
  pub skeleton : IsSpelledSkeleton S I l.skeleton
  pub test : (t : Test) → l.test ≡ Some t → IsSpelledTerm S t.critical
  pub escape : (p : Pattern) → IsIn p l.escape → IsSpelledTerm S p.term
