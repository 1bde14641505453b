-- What normalising does to a skeleton, and what it looks for: values that nodes carry, pairs from recorded origins,
-- values that were received, and skeletons under substitutions.
use Rattle.std.specs.Prelude.{◌≡◌, ◌⊎◌, ℕ, ◌<◌, List, Some, map}
use Rattle.cp_model.specs.Bindings.{Binding, as_substitution, bindings_by}
use Rattle.cp_lists.specs.Lists.{IsIn}
use Rattle.cp_model.specs.Term.{AtomTerm, Term, atom_term, IsCarriedByTerm, Assignment, value_of_atom, after, AgreeOn, Substitution, apply_to, apply_to_atom, composed}
use Rattle.cp_model.specs.Strand.{payload, Role, Protocol, variables_of_prefix}
use Rattle.cp_model.specs.declared.strand.Event.{Event}
use Rattle.cp_model.specs.declared.strand.Event.TheVariants.{Receive as recv}
use Rattle.cp_model.specs.Bundle.{node_at, Bundle, IsBundle}
use Rattle.cp_model.specs.declared.node.Node.{Node}
use Rattle.cp_model.specs.Skeleton.{SkeletonStrand, instance, listener, term_event_at, UniqueAt, Assumptions, FromProblem, Skeleton, Before}
use Rattle.cp_model.specs.declared.node.OrderPair.{OrderPair}
use Rattle.cp_model.specs.Standing.{Standing, StandsIn, StandsApart}
use Rattle.cp_model.specs.Homomorphism.{FactorsThrough}
use Rattle.cp_model.specs.Problem.{variables_of_skeleton}
pub use Rattle.cp_model.specs.Problem.{variables_of_terms}

-- The node, of a role strand or a listener, carries the value.
pub record IsCarriedAt (k : Skeleton) (v : AtomTerm) (n : Node) : Type 0 where
  pub event : Event Term
  pub there : term_event_at k.strands n ≡ Some event
  pub carried : IsCarriedByTerm (atom_term v) (payload event)

-- The pair goes from the recorded origin of a unique value to a reception that carries the value.
pub record IsOriginPair (k : Skeleton) (p : OrderPair) : Type 0 where
  pub entry : UniqueAt
  pub listed : IsIn entry k.assumptions.uniquely_originating
  pub from_origin : p.earlier ≡ entry.origin
  pub received : Term
  pub reception : term_event_at k.strands p.later ≡ Some (recv received)
  pub carried : IsCarriedByTerm (atom_term entry.value) received

-- The skeleton with these pairs in place of its own.
abbrev pub with_pairs : Skeleton → List OrderPair → Skeleton
with_pairs k pairs = record { variables = k.variables; strands = k.strands; pairs = pairs; assumptions = k.assumptions; from_problem = k.from_problem }

-- Each of the pairs is one of the skeleton's, or goes from a recorded origin to a reception that carries the value.
abbrev pub AddOnlyOriginPairs : Skeleton → List OrderPair → Type 0
AddOnlyOriginPairs k pairs = (p : OrderPair) → IsIn p pairs → IsIn p k.pairs ⊎ IsOriginPair k p

-- A reception before node x on its strand carries an atom that has the value of v.
pub record IsHeardBefore (k : Skeleton) (g : Assignment) (v : AtomTerm) (x : Node) : Type 0 where
  pub index : ℕ
  pub earlier : index < x.index
  pub received : Term
  pub reception : term_event_at k.strands (node_at x.strand index) ≡ Some (recv received)
  pub heard : AtomTerm
  pub carried : IsCarriedByTerm (atom_term heard) received
  pub equal : value_of_atom g heard ≡ value_of_atom g v

-- The terms of an instance under a substitution: for each variable of its prefix.
abbrev pub terms_under : Substitution → Role → ℕ → List Binding → List Binding
terms_under s role height terms = bindings_by (composed (as_substitution terms) s) (variables_of_prefix role height)

-- A strand under a substitution: each term of an instance, and the message of a listener.
abbrev pub strand_under : Substitution → SkeletonStrand → SkeletonStrand
strand_under s (instance role height terms) = instance role height (terms_under s role height terms)
strand_under s (listener t) = listener (apply_to s t)

-- A unique value under a substitution; its recorded origin stays.
abbrev pub unique_under : Substitution → UniqueAt → UniqueAt
unique_under s u = record { value = apply_to_atom s u.value; origin = u.origin }

abbrev pub assumptions_under : Substitution → Assumptions → Assumptions
assumptions_under s a = record {
  non_originating = map (apply_to_atom s) a.non_originating;
  penetrator_non_originating = map (apply_to_atom s) a.penetrator_non_originating;
  uniquely_originating = map (unique_under s) a.uniquely_originating;
}

abbrev pub from_problem_under : Substitution → FromProblem → FromProblem
from_problem_under s f = record { strands = f.strands; values = map (apply_to s) f.values; assumptions = assumptions_under s f.assumptions; pairs = f.pairs }

-- The skeleton under a substitution: each of its terms is; strands, nodes and pairs stay where they are.
abbrev pub skeleton_under : Substitution → Skeleton → Skeleton
skeleton_under s k = record {
  variables = k.variables;
  strands = map (strand_under s) k.strands;
  pairs = k.pairs;
  assumptions = assumptions_under s k.assumptions;
  from_problem = from_problem_under s k.from_problem;
}

-- The assignment gives each variable of the skeleton, those of its map from the problem included, the value of the
-- variable's term under the substitution.
pub record IsSolution (g : Assignment) (s : Substitution) (k : Skeleton) : Type 0 where
  pub inside : AgreeOn (variables_of_skeleton k) (after g s) g
  pub of_problem : AgreeOn (variables_of_terms k.from_problem.values) (after g s) g

-- One of the skeletons stands apart in the bundle by the very standing of k, and that standing of k factors through it.
pub record StandsAmong (skeletons : List Skeleton) (k : Skeleton) (b : Bundle) (h : Standing) : Type 0 where
  pub skeleton : Skeleton
  pub listed : IsIn skeleton skeletons
  pub stands : StandsIn skeleton b h
  pub apart : StandsApart skeleton h
  pub factors : FactorsThrough k h skeleton h

-- Wherever k stands apart in a bundle over the protocol, one of the skeletons does by the same standing.
abbrev pub LosesNoStanding : Protocol → Skeleton → List Skeleton → Type 0
LosesNoStanding protocol k skeletons = (b : Bundle) (h : Standing) → IsBundle protocol b → StandsIn k b h → StandsApart k h → StandsAmong skeletons k b h

-- For each atom that a reception before node x on its strand carries, and each assignment that gives it the value of v,
-- one of the skeletons is k under a substitution that the assignment solves.
abbrev pub AreBranches : Skeleton → AtomTerm → Node → List Skeleton → Type 0
AreBranches k v x skeletons = (g : Assignment) → IsHeardBefore k g v x → (s : Substitution) × IsSolution g s k × IsIn (skeleton_under s k) skeletons

-- l has the strands of k and its way from the problem, and says no more: each of its pairs is in the order of k, and each
-- of its assumptions is one of k's.
pub record SaysNoMore (l k : Skeleton) : Type 0 where
  pub strands : l.strands ≡ k.strands
  pub ordered : (p : OrderPair) → IsIn p l.pairs → Before k p.earlier p.later
  pub non : (v : AtomTerm) → IsIn v l.assumptions.non_originating → IsIn v k.assumptions.non_originating
  pub penetrator_non : (v : AtomTerm) → IsIn v l.assumptions.penetrator_non_originating → IsIn v k.assumptions.penetrator_non_originating
  pub unique : (u : UniqueAt) → IsIn u l.assumptions.uniquely_originating → IsIn u k.assumptions.uniquely_originating
  pub problem_strands : l.from_problem.strands ≡ k.from_problem.strands
  pub problem_values : l.from_problem.values ≡ k.from_problem.values
