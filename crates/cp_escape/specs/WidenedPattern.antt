-- Widening: the pattern that an added-strand child of a test gives.
use Rattle.std.specs.Prelude.{◌≡◌, ◌⊎◌, ◌↔◌, ◌<◌, ℕ, suc, List, [], ◌∷◌, ◌++◌, length, Some}
use Rattle.cp_lists.specs.Lists.{item_at, IsIn}
use Rattle.cp_model.specs.Term.{KeyTerm, key_term, inverse_term, variables_of_key, Term, enc_term, variables_of}
use Rattle.cp_model.specs.Bindings.{Binding}
use Rattle.cp_model.specs.declared.variable.Variable.{Variable}
use Rattle.cp_model.specs.SortNumbers.{sort_number}
use Rattle.cp_model.specs.Strand.{Role}
use Rattle.cp_model.specs.declared.strand.Event.TheVariants.{Send as send}
use Rattle.cp_model.specs.Bundle.{node_at}
use Rattle.cp_model.specs.Skeleton.{SkeletonStrand, instance, term_event_at, Skeleton}
use Rattle.cp_model.specs.Tree.{Pattern}
use Rattle.cp_model.specs.declared.step.Step.{Step}
use Rattle.cp_collapse.specs.SameSkeletons.{AreSameStrands}
use Rattle.cp_theory.specs.Above.{encryptions_above}
use Rattle.cp_theory.specs.Critical.{used_variables}
use Rattle.cp_escape.specs.Escape.{IsFirstWith}

-- The child binds no variable of the skeleton: the skeleton's strands, in front of one more, say in it what they said, and the
-- map from the problem is the skeleton's.
pub record BindsNothing (k l : Skeleton) : Type 0 where
  pub old : List SkeletonStrand
  pub last : SkeletonStrand
  pub strands : l.strands ≡ old ++ last ∷ []
  pub same : AreSameStrands k.strands old
  pub problem_strands : l.from_problem.strands ≡ k.from_problem.strands
  pub problem_values : l.from_problem.values ≡ k.from_problem.values

-- The last strand of the child is an instance that ends by sending the message.
pub record EndsBySending (k l : Skeleton) (message : Term) : Type 0 where
  pub role : Role
  pub index : ℕ
  pub terms : List Binding
  pub last : item_at l.strands (length k.strands) ≡ Some (instance role (suc index) terms)
  pub sends : term_event_at l.strands (node_at (length k.strands) index) ≡ Some (send message)

-- The encryption stays closed wherever the skeleton stands: its key holds variables of the skeleton alone, and the inverse of the
-- key is a value that originates nowhere, by an assumption of the skeleton.
pub record StaysClosed (k : Skeleton) (e : Term) : Type 0 where
  pub body : Term
  pub key : KeyTerm
  pub is_encryption : e ≡ enc_term body key
  pub own_key : (x : Variable) → IsIn x (variables_of_key key) → IsIn x (used_variables k)
  pub non_originating : IsIn (key_term (inverse_term key)) k.assumptions.non_originating

-- x stands before y: it has a smaller number, or the same number and an earlier sort.
abbrev pub StandsBefore : Variable → Variable → Type 0
StandsBefore x y = (x.number < y.number) ⊎ ((x.number ≡ y.number) × (sort_number x.sort < sort_number y.sort))

-- The variables stand by rising numbers, those with one number by their sorts, each once.
abbrev pub AreRisingVariables : List Variable → Type 0
AreRisingVariables [] = Unit {0}
AreRisingVariables (x ∷ xs) = ((y : Variable) → IsIn y xs → StandsBefore x y) × AreRisingVariables xs

-- The locals are the variables of the encryption that are not the skeleton's, by rising numbers, those with one number by
-- their sorts.
pub record AreNewVariables (k : Skeleton) (e : Term) (locals : List Variable) : Type 0 where
  pub exactly : (x : Variable) → IsIn x locals ↔ (IsIn x (variables_of e) × (IsIn x (used_variables k) → ⊥))
  pub rising : AreRisingVariables locals

-- The pattern that the child gives, whose last strand releases the critical term at this position of its last event. The child
-- binds no variable of the skeleton; of the encryptions that properly enclose the position the outermost that stays closed is the
-- pattern, and its new variables are the locals.
pub record WidensBy (k l : Skeleton) (path : List Step) (p : Pattern) : Type 0 where
  pub binds_nothing : BindsNothing k l
  pub message : Term
  pub sends : EndsBySending k l message
  pub outermost : IsFirstWith (StaysClosed k) (encryptions_above message path) p.term
  pub locals : AreNewVariables k p.term p.locals
