-- What is sent and assumed apart from a part of a skeleton, and parts without which it is not fit.
use Rattle.std.specs.Prelude.{◌≡◌, ◌≢◌, ◌⊎◌, ◌==◌, Bool, false, ℕ, List, [], Some, map}
use Rattle.cp_lists.specs.Lists.{item_at, IsIn}
use Rattle.cp_base.specs.Growing.{Growth}
use Rattle.cp_model.specs.Term.{AtomTerm, Term, atom_term}
use Rattle.cp_model.specs.Bindings.{Binding}
use Rattle.cp_model.specs.Strand.{Role}
use Rattle.cp_model.specs.Same.{same_node}
use Rattle.cp_model.specs.declared.node.Node.{Node}
use Rattle.cp_model.specs.Skeleton.{SkeletonStrand, instance, UniqueAt, Assumptions, Skeleton}
use Rattle.cp_model.specs.Derivable.{IsSecret}
use Rattle.cp_skel.specs.Events.{LocatedEvent, events_of}
use Rattle.cp_skel.specs.Preceding.{SkeletonNode}
use Rattle.cp_derive.specs.AtNode.{SendsBefore}
use Rattle.cp_derive.specs.Given.{Given}
use Rattle.cp_general.specs.declared.needed.Part.{Part}
use Rattle.cp_general.specs.declared.needed.Part.TheVariants.{Strand as a_strand, Pair as a_pair}
use Rattle.cp_general.specs.Fit.{IsFit}
use Rattle.cp_general.specs.Steps.{Deletes, Weakens}

-- h is k without the part.
abbrev pub Lacks : Part → Skeleton → Skeleton → Type 0
Lacks (a_strand d) k h = Deletes d k h
Lacks (a_pair p) k h = Weakens p k h

-- Without the part the skeleton is never fit.
abbrev pub IsNeeded : Part → Skeleton → Type 0
IsNeeded part k = (h : Skeleton) → Lacks part k h → IsFit h → ⊥

-- What is sent at the node is lost with the part: it is on the strand, or the earlier one of the pair.
abbrev pub loses : Part → Node → Bool
loses (a_strand d) n = n.strand == d
loses (a_pair p) n = same_node n p.earlier

-- The node is on another strand than this one, or the later one of the pair.
abbrev pub IsLedTo : Part → Node → Type 0
IsLedTo (a_strand d) n = n.strand ≢ d
IsLedTo (a_pair p) n = n ≡ p.later

-- ---- what is sent

-- A role strand sends the term before the node, at an event that is not lost.
pub record SendsApart (part : Part) (at : SkeletonNode) (o : LocatedEvent) (t : Term) : Type 0 where
  pub sends : SendsBefore at o t
  pub apart : loses part o.node ≡ false

-- What is sent so at one of the events is in the list.
abbrev pub HoldsSent : Part → SkeletonNode → List LocatedEvent → List Term → Type 0
HoldsSent part at os ts = (o : LocatedEvent) (t : Term) → IsIn o os → SendsApart part at o t → IsIn t ts

-- ---- what stays secret

-- What is new in a list of terms is one of these.
abbrev pub AddsOnly : (Term → Type 0) → Growth Term → Growth Term → Type 0
AddsOnly added old new = (t : Term) → IsIn t new.items → IsIn t old.items ⊎ added t

-- The term is a unique value, the origin of which is not lost.
pub record IsValueApart (part : Part) (us : List UniqueAt) (t : Term) : Type 0 where
  pub entry : UniqueAt
  pub listed : IsIn entry us
  pub apart : loses part entry.origin ≡ false
  pub same : atom_term entry.value ≡ t

-- The term is a value of the assumptions, and not a unique one the origin of which is lost.
abbrev pub IsAssumedApart : Part → Assumptions → Term → Type 0
IsAssumedApart part a t = IsIn t (map atom_term a.non_originating) ⊎ (IsIn t (map atom_term a.penetrator_non_originating) ⊎ IsValueApart part a.uniquely_originating t)

-- The role states no atoms as non-originating.
pub record StatesNone (role : Role) : Type 0 where
  pub non : role.non_originating ≡ []
  pub penetrator_non : role.penetrator_non_originating ≡ []

-- If the strand is an instance, then of such a role.
abbrev pub GivesNone : SkeletonStrand → Type 0
GivesNone strand = (role : Role) (height : ℕ) (terms : List Binding) → strand ≡ instance role height terms → StatesNone role

-- With the part no atom that is non-originating is forgotten.
abbrev pub ForgetsNone : Part → Skeleton → Type 0
ForgetsNone (a_strand d) k = (strand : SkeletonStrand) → item_at k.strands d ≡ Some strand → GivesNone strand
ForgetsNone (a_pair p) k = Unit {0}

-- The penetrator cannot make the atom without the part either.
abbrev pub StaysSecret : Part → Skeleton → AtomTerm → Type 0
StaysSecret part k v = (h : Skeleton) → Lacks part k h → IsSecret h v

-- The values of these assumptions do, except for unique values the origins of which are lost.
abbrev pub AreKept : Part → Skeleton → Assumptions → Type 0
AreKept part k a = (v : AtomTerm) → IsAssumedApart part a (atom_term v) → StaysSecret part k v

-- ---- what is known

-- All that is sent before the node without the part is given, and nothing is secret that is not so without it.
pub record IsKnownApart (part : Part) (at : SkeletonNode) (g : Given) : Type 0 where
  pub sent : HoldsSent part at (events_of at.skeleton) g.sent
  pub secrets : (v : AtomTerm) → IsIn (atom_term v) g.secrets → StaysSecret part at.skeleton v
