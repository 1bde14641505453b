-- Skeletons: partial descriptions of what happened, over terms (TACAS 2007, section 3; CPSA Primer, "Skeletons").
use Rattle.std.specs.Prelude.{◌≡◌, ◌≢◌, ℕ, suc, List, [], ◌∷◌, Option, Some, None, map}
use Rattle.cp_lists.specs.Lists.{item_at, IsIn, Steps}
use Rattle.cp_model.specs.Term.{AtomTerm, Term, atom_term, IsCarriedByTerm, apply_to, apply_to_atom}
use Rattle.cp_model.specs.Bindings.{Binding, as_substitution}
use Rattle.cp_model.specs.Strand.{Declaration, Event, send, recv, event_map, Role, Protocol, prefix_of, IsHeight, Applies, AppliesAt}
use Rattle.cp_model.specs.Bundle.{node_at}
use Rattle.cp_model.specs.declared.node.Node.{Node}
use Rattle.cp_model.specs.declared.node.OrderPair.{OrderPair}

-- A strand of a skeleton: an instance of a role, of some height, with terms for the role's variables by their numbers;
-- or a listener, which receives a message and sends it on. A variable whose term is missing or of another sort stays
-- itself. Terms of variables outside the prefix have no meaning.
pub data SkeletonStrand : Type 0 where
  instance : Role → ℕ → List Binding → SkeletonStrand
  listener : Term → SkeletonStrand

abbrev pub skeleton_trace : SkeletonStrand → List (Event Term)
skeleton_trace (instance role height terms) = map (event_map (apply_to (as_substitution terms))) (prefix_of role height)
skeleton_trace (listener t) = recv t ∷ send t ∷ []

abbrev pub skeleton_trace_or_none : Option SkeletonStrand → List (Event Term)
skeleton_trace_or_none None = []
skeleton_trace_or_none (Some s) = skeleton_trace s

-- The event at a node of a skeleton.
abbrev pub term_event_at : List SkeletonStrand → Node → Option (Event Term)
term_event_at strands n = item_at (skeleton_trace_or_none (item_at strands n.strand)) n.index

-- There is an event at the node.
abbrev pub IsNodeOf : List SkeletonStrand → Node → Type 0
IsNodeOf strands n = (e : Event Term) × (term_event_at strands n ≡ Some e)

-- A unique value with its recorded origin. A value with two recorded origins is two of these.
pub record UniqueAt : Type 0 where
  pub value : AtomTerm
  pub origin : Node

-- The three lists of assumptions.
pub record Assumptions : Type 0 where
  pub non_originating : List AtomTerm
  pub penetrator_non_originating : List AtomTerm
  pub uniquely_originating : List UniqueAt

-- The way from a problem: a strand for each strand of the problem, and a term for each of its variables; and the
-- images of the assumptions and the pairs that the problem itself states.
pub record FromProblem : Type 0 where
  pub strands : List ℕ
  pub values : List Term
  pub assumptions : Assumptions
  pub pairs : List OrderPair

-- A skeleton with its table of variables.
pub record Skeleton : Type 0 where
  pub variables : List Declaration
  pub strands : List SkeletonStrand
  pub pairs : List OrderPair
  pub assumptions : Assumptions
  pub from_problem : FromProblem

-- The skeleton of these parts.
abbrev pub skeleton_of : List Declaration → List SkeletonStrand → List OrderPair → Assumptions → FromProblem → Skeleton
skeleton_of variables strands pairs assumptions from_problem =
    record { variables = variables; strands = strands; pairs = pairs; assumptions = assumptions; from_problem = from_problem }

-- One step of the order: from a node to the next of its strand, or along a pair.
pub data OrderStep (k : Skeleton) : Node → Node → Type 0 where
  along_strand_of : {s i : ℕ} {e : Event Term} → term_event_at k.strands (node_at s (suc i)) ≡ Some e → OrderStep k (node_at s i) (node_at s (suc i))
  along_pair : {p : OrderPair} → IsIn p k.pairs → OrderStep k p.earlier p.later

-- x is before y in the order of the skeleton.
abbrev pub Before : Skeleton → Node → Node → Type 0
Before k = Steps (OrderStep k)

-- A pair goes from a transmission to a reception of another strand.
pub record IsOrderPair (k : Skeleton) (p : OrderPair) : Type 0 where
  pub sent : Term
  pub received : Term
  pub transmission : term_event_at k.strands p.earlier ≡ Some (send sent)
  pub reception : term_event_at k.strands p.later ≡ Some (recv received)
  pub between_strands : p.earlier.strand ≢ p.later.strand

-- A recorded origin is a transmission of a role strand that carries the value.
pub record IsOrigin (k : Skeleton) (u : UniqueAt) : Type 0 where
  pub role : Role
  pub height : ℕ
  pub terms : List Binding
  pub on_instance : item_at k.strands u.origin.strand ≡ Some (instance role height terms)
  pub sent : Term
  pub transmission : term_event_at k.strands u.origin ≡ Some (send sent)
  pub carried : IsCarriedByTerm (atom_term u.value) sent

-- The assumptions that a role strand gives are among those of the skeleton.
pub record GivesAssumptions (k : Skeleton) (s : ℕ) (role : Role) (height : ℕ) (terms : List Binding) : Type 0 where
  pub non : (v : AtomTerm) → IsIn v role.non_originating → Applies role height v → IsIn (apply_to_atom (as_substitution terms) v) k.assumptions.non_originating
  pub penetrator_non : (v : AtomTerm) → IsIn v role.penetrator_non_originating → Applies role height v → IsIn (apply_to_atom (as_substitution terms) v) k.assumptions.penetrator_non_originating
  pub unique : (v : AtomTerm) (i : ℕ) → IsIn v role.uniquely_originating → AppliesAt role height v i →
      IsIn (record { value = apply_to_atom (as_substitution terms) v; origin = node_at s i }) k.assumptions.uniquely_originating

-- A skeleton over a protocol: its role strands are of it; its pairs go from a transmission to a reception of
-- another strand; its order has no cycle; each recorded origin is one; and all assumptions that its strands'
-- roles give are in its lists.
pub record IsSkeleton (protocol : Protocol) (k : Skeleton) : Type 0 where
  pub of_role : (s : ℕ) (role : Role) (height : ℕ) (terms : List Binding) → item_at k.strands s ≡ Some (instance role height terms) → IsIn role protocol.roles
  pub heights : (s : ℕ) (role : Role) (height : ℕ) (terms : List Binding) → item_at k.strands s ≡ Some (instance role height terms) → IsHeight role height
  pub order_pairs : (p : OrderPair) → IsIn p k.pairs → IsOrderPair k p
  pub no_cycle : (n : Node) → Before k n n → ⊥
  pub origins : (u : UniqueAt) → IsIn u k.assumptions.uniquely_originating → IsOrigin k u
  pub given : (s : ℕ) (role : Role) (height : ℕ) (terms : List Binding) → item_at k.strands s ≡ Some (instance role height terms) → GivesAssumptions k s role height terms
