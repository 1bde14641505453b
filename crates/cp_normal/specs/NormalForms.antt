-- Narrowing by unique values that originate elsewhere than at their recorded origins, and normal forms.
use Rattle.std.specs.Prelude.{◌≡◌, ◌≢◌, ℕ, ◌<◌, Some}
use Rattle.cp_lists.specs.Lists.{IsIn}
use Rattle.cp_model.specs.Term.{AtomTerm, Term, atom_term, IsCarriedByTerm, Substitution}
use Rattle.cp_model.specs.declared.strand.Event.TheVariants.{Receive as recv}
use Rattle.cp_model.specs.Bundle.{node_at}
use Rattle.cp_model.specs.declared.node.Node.{Node}
use Rattle.cp_model.specs.Skeleton.{UniqueAt, Skeleton, term_event_at, Before}
use Rattle.cp_model.specs.declared.node.OrderPair.{OrderPair}
use Rattle.cp_model.specs.Realisation.{OriginatesAtTerm}
use Rattle.cp_theory.specs.Normal.{skeleton_under, with_pairs}
use Rattle.cp_normal.specs.Findings.{IsAddedPair, AreNormalPairs, IsContradictory}
use Rattle.cp_collapse.specs.SameSkeletons.{SaysTheSame}
use Rattle.cp_collapse.specs.Directed.{IsMostGeneralFor}

-- A unique value originates at a node of a role strand that is not its recorded origin.
pub record IsMisplaced (k : Skeleton) (u : UniqueAt) (x : Node) : Type 0 where
  pub listed : IsIn u k.assumptions.uniquely_originating
  pub originates : OriginatesAtTerm k u.value x
  pub elsewhere : x ≢ u.origin

-- A reception before node x on its strand carries the atom.
pub record IsReceivedBefore (k : Skeleton) (a : AtomTerm) (x : Node) : Type 0 where
  pub index : ℕ
  pub earlier : index < x.index
  pub received : Term
  pub reception : term_event_at k.strands (node_at x.strand index) ≡ Some (recv received)
  pub carried : IsCarriedByTerm (atom_term a) received

-- One step of narrowing: l says the same as k under the most general unifier of a misplaced unique value and an atom that was
-- received before the node where it originates.
pub record IsNarrowed (k l : Skeleton) : Type 0 where
  pub entry : UniqueAt
  pub node : Node
  pub heard : AtomTerm
  pub unifier : Substitution
  pub misplaced : IsMisplaced k entry node
  pub heard_before : IsReceivedBefore k heard node
  pub most_general : IsMostGeneralFor entry.value heard unifier
  pub same : SaysTheSame (skeleton_under unifier k) l

-- Narrowing by steps, none or more, leads from k to m.
pub data NarrowsTo : Skeleton → Skeleton → Type 0 where
  none : {k : Skeleton} → NarrowsTo k k
  one : {k l m : Skeleton} → IsNarrowed k l → NarrowsTo l m → NarrowsTo k m

-- None of the rules changes the skeleton: it does not contradict itself, each unique value originates at its recorded
-- origin alone, and the pairs that unique values add are in its order.
pub record IsNormal (k : Skeleton) : Type 0 where
  pub consistent : IsContradictory k → ⊥
  pub no_misplaced : (u : UniqueAt) (x : Node) → IsMisplaced k u x → ⊥
  pub ordered : (p : OrderPair) → IsAddedPair k p → Before k p.earlier p.later

-- r is a normal form of k: narrowed from it by steps, with the pairs that unique values add, and normal.
pub record IsNormalFormOf (k r : Skeleton) : Type 0 where
  pub narrowed : Skeleton
  pub by_steps : NarrowsTo k narrowed
  pub pairs : AreNormalPairs narrowed r.pairs
  pub same : r ≡ with_pairs narrowed r.pairs
  pub normal : IsNormal r
