-- When a skeleton describes a bundle, and when it is a shape's kind of description: standing, and realised.
use Rattle.std.specs.Prelude.{◌≡◌, ◌≢◌, ℕ, ◌≤◌, List, Option, Some, None}
use Rattle.cp_lists.specs.Lists.{item_at, IsIn}
use Rattle.cp_model.specs.Message.{atom}
use Rattle.cp_model.specs.Term.{Variable, AtomTerm, Term, Assignment, value_of, value_of_atom, after, AgreeOn, atoms_by, IsDistinct}
use Rattle.cp_model.specs.Bindings.{Binding, as_substitution}
use Rattle.cp_model.specs.Strand.{recv, Role, Protocol, variables_of_prefix, regular}
use Rattle.cp_model.specs.Bundle.{node_at, event_at, KeepsNon, KeepsPenetratorNon, KeepsUnique, Bundle, Precedes, IsBundle}
use Rattle.cp_model.specs.declared.node.Node.{Node}
use Rattle.cp_model.specs.Skeleton.{SkeletonStrand, instance, listener, UniqueAt, Skeleton, IsNodeOf, Before}

-- A way for a skeleton to stand in a bundle: a role strand goes to the first node of a regular strand, a
-- listener to a node; and each variable has a value.
pub record Standing : Type 0 where
  pub nodes : ℕ → Node
  pub values : Assignment

-- Where a node of a strand goes: on a role strand to the same place of the strand that it goes to; of a listener
-- both nodes go to one.
abbrev pub image_on : Option SkeletonStrand → Node → ℕ → Node
image_on None start i = start
image_on (Some (instance role height terms)) start i = node_at start.strand i
image_on (Some (listener t)) start i = start

abbrev pub image_of : Skeleton → Standing → Node → Node
image_of k h n = image_on (item_at k.strands n.strand) (h.nodes n.strand) n.index

-- A role strand goes to a regular strand of its role, of at least its height, with equal values of the variables
-- of its prefix.
pub record StandsOnRegular (b : Bundle) (h : Standing) (s : ℕ) (role : Role) (height : ℕ) (terms : List Binding) : Type 0 where
  pub at_start : (h.nodes s).index ≡ 0
  pub to_height : ℕ
  pub to_values : Assignment
  pub on_regular : item_at b.strands (h.nodes s).strand ≡ Some (regular role to_height to_values)
  pub at_least : height ≤ to_height
  pub equal_values : AgreeOn (variables_of_prefix role height) (after h.values (as_substitution terms)) to_values

-- A skeleton stands in a bundle: its role strands do; a listener goes to a reception of its message; where x is
-- before y on another strand, the image of x precedes that of y; and the assumptions are kept, the image of each
-- recorded origin being the origin.
pub record StandsIn (k : Skeleton) (b : Bundle) (h : Standing) : Type 0 where
  pub instances : (s : ℕ) (role : Role) (height : ℕ) (terms : List Binding) → item_at k.strands s ≡ Some (instance role height terms) → StandsOnRegular b h s role height terms
  pub listeners : (s : ℕ) (t : Term) → item_at k.strands s ≡ Some (listener t) → event_at b.strands (h.nodes s) ≡ Some (recv (value_of h.values t))
  pub ordered : (x y : Node) → Before k x y → x.strand ≢ y.strand → Precedes b (image_of k h x) (image_of k h y)
  pub non : (v : AtomTerm) → IsIn v k.assumptions.non_originating → KeepsNon b.strands (atom (value_of_atom h.values v))
  pub penetrator_non : (v : AtomTerm) → IsIn v k.assumptions.penetrator_non_originating → KeepsPenetratorNon b.strands (atom (value_of_atom h.values v))
  pub unique : (u : UniqueAt) → IsIn u k.assumptions.uniquely_originating → KeepsUnique b.strands (atom (value_of_atom h.values u.value)) (image_of k h u.origin)

-- Different role strands go to different strands.
abbrev pub StandsApart : Skeleton → Standing → Type 0
StandsApart k h = (s t : ℕ) (role : Role) (height : ℕ) (terms : List Binding) (role' : Role) (height' : ℕ) (terms' : List Binding) →
    item_at k.strands s ≡ Some (instance role height terms) → item_at k.strands t ≡ Some (instance role' height' terms') →
    (h.nodes s).strand ≡ (h.nodes t).strand → s ≡ t

-- Role strand s of the skeleton goes to strand t of the bundle, which has the same height.
pub record IsImage (k : Skeleton) (h : Standing) (t : ℕ) (height : ℕ) : Type 0 where
  pub strand : ℕ
  pub role : Role
  pub terms : List Binding
  pub on_instance : item_at k.strands strand ≡ Some (instance role height terms)
  pub goes_to : (h.nodes strand).strand ≡ t

-- A skeleton over a protocol is realised: it stands apart in some bundle whose regular strands are the images of
-- its role strands, at equal heights, under an assignment that gives the variables atoms of distinct numbers; and
-- for nodes of different strands the image of x precedes that of y only where x is before y in its order.
pub record IsRealised (protocol : Protocol) (k : Skeleton) : Type 0 where
  pub bundle : Bundle
  pub is_bundle : IsBundle protocol bundle
  pub nodes : ℕ → Node
  pub number : Variable → ℕ
  pub distinct : IsDistinct number
  pub stands : StandsIn k bundle (record { nodes = nodes; values = atoms_by number })
  pub apart : StandsApart k (record { nodes = nodes; values = atoms_by number })
  pub regular_strands : (t : ℕ) (role : Role) (height : ℕ) (g : Assignment) → item_at bundle.strands t ≡ Some (regular role height g) →
      IsImage k (record { nodes = nodes; values = atoms_by number }) t height
  pub no_more_order : (x y : Node) → IsNodeOf k.strands x → IsNodeOf k.strands y → x.strand ≢ y.strand →
      Precedes bundle (image_of k (record { nodes = nodes; values = atoms_by number }) x) (image_of k (record { nodes = nodes; values = atoms_by number }) y) → Before k x y
