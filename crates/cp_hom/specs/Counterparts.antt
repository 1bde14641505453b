-- What strands and assumptions of a skeleton may become in another: one of its strands or assumptions.
use Rattle.std.specs.Prelude.{◌⊎◌, ◌≡◌, ◌≢◌, ◌<◌, ◌≤◌, ℕ, List, [], ◌∷◌, Some, length, map}
use Rattle.cp_lists.specs.Lists.{item_at, IsIn}
use Rattle.cp_model.specs.declared.variable.Variable.{Variable}
use Rattle.cp_model.specs.Term.{variable_term, AtomTerm, Term, Substitution, apply_to_atom, apply_to}
use Rattle.cp_model.specs.Bindings.{Binding, as_substitution}
use Rattle.cp_model.specs.Strand.{payload, Role, prefix_of}
use Rattle.cp_model.specs.declared.strand.Event.{Event}
use Rattle.cp_model.specs.Skeleton.{SkeletonStrand, instance, listener, UniqueAt, Skeleton}
use Rattle.cp_model.specs.declared.node.OrderPair.{OrderPair}
use Rattle.cp_model.specs.Order.{ReachesAlong}
use Rattle.cp_model.specs.Homomorphism.{SkeletonMap, mapped}
use Rattle.cp_hom.specs.declared.partials.Placement.{Placement}
use Rattle.cp_hom.specs.declared.items.Kind.{Kind}
use Rattle.cp_hom.specs.declared.items.Kind.TheVariants.{Strands, NonOriginating, PenetratorNonOriginating, Uniques}
use Rattle.cp_hom.specs.declared.items.Item.{Item}

-- The substitution makes the messages of the events under s what they are under t.
abbrev pub MakesEvents : Substitution → List (Event Term) → Substitution → Substitution → Type 0
MakesEvents f [] s t = Unit {0}
MakesEvents f (e ∷ es) s t = (apply_to f (apply_to s (payload e)) ≡ apply_to t (payload e)) × MakesEvents f es s t

-- Of the listed variables, from this number on, the substitution makes what they are under s what they are under t.
abbrev pub MakesValues : ℕ → List Variable → Substitution → Substitution → Substitution → Type 0
MakesValues n xs f s t = (x : Variable) → IsIn x xs → n ≤ x.number → apply_to f (apply_to s (variable_term x)) ≡ apply_to t (variable_term x)

-- The substitution makes a strand a part of another: an instance one of the same role that is no taller, a listener the
-- same listener.
abbrev pub MakesPart : Substitution → SkeletonStrand → SkeletonStrand → Type 0
MakesPart f (instance role height terms) (instance role' height' terms') =
    (role ≡ role') × (height ≤ height') × MakesEvents f (prefix_of role height) (as_substitution terms) (as_substitution terms')
MakesPart f (listener t) (listener u) = apply_to f t ≡ u
MakesPart f (instance role height terms) (listener u) = ⊥
MakesPart f (listener t) (instance role' height' terms') = ⊥

-- Strand number s goes to this number, and becomes a part of the strand there.
pub record GoesToStrand (xs ys : List SkeletonStrand) (s image : ℕ) (f : SkeletonMap) : Type 0 where
  pub from : SkeletonStrand
  pub to : SkeletonStrand
  pub is_from : item_at xs s ≡ Some from
  pub is_to : item_at ys image ≡ Some to
  pub goes : f.strands s ≡ image
  pub part : MakesPart f.terms from to

-- Atom number i of the one list becomes that of this number of the other.
pub record BecomesAtom (xs ys : List AtomTerm) (i image : ℕ) (f : SkeletonMap) : Type 0 where
  pub from : AtomTerm
  pub to : AtomTerm
  pub is_from : item_at xs i ≡ Some from
  pub is_to : item_at ys image ≡ Some to
  pub becomes : apply_to_atom f.terms from ≡ to

-- Unique value number i of the one list becomes that of this number of the other, origin and all.
pub record BecomesUnique (xs ys : List UniqueAt) (i image : ℕ) (f : SkeletonMap) : Type 0 where
  pub from : UniqueAt
  pub to : UniqueAt
  pub is_from : item_at xs i ≡ Some from
  pub is_to : item_at ys image ≡ Some to
  pub becomes : apply_to_atom f.terms from.value ≡ to.value
  pub origin : f.strands from.origin.strand ≡ to.origin.strand
  pub index : from.origin.index ≡ to.origin.index

-- The item of a becomes that of this number in b.
abbrev pub TakesAs : Kind → Skeleton → Skeleton → ℕ → ℕ → SkeletonMap → Type 0
TakesAs Strands a b i image f = GoesToStrand a.strands b.strands i image f
TakesAs NonOriginating a b i image f = BecomesAtom a.assumptions.non_originating b.assumptions.non_originating i image f
TakesAs PenetratorNonOriginating a b i image f = BecomesAtom a.assumptions.penetrator_non_originating b.assumptions.penetrator_non_originating i image f
TakesAs Uniques a b i image f = BecomesUnique a.assumptions.uniquely_originating b.assumptions.uniquely_originating i image f

abbrev pub TakesItem : Skeleton → Skeleton → Item → ℕ → SkeletonMap → Type 0
TakesItem a b item image f = TakesAs item.kind a b item.index image f

-- How many items of a kind a skeleton has.
abbrev pub item_count : Kind → Skeleton → ℕ
item_count Strands k = length k.strands
item_count NonOriginating k = length k.assumptions.non_originating
item_count PenetratorNonOriginating k = length k.assumptions.penetrator_non_originating
item_count Uniques k = length k.assumptions.uniquely_originating

-- The item is one of the skeleton.
abbrev pub IsItemOf : Skeleton → Item → Type 0
IsItemOf k i = i.index < item_count i.kind k

-- The items are those of the skeleton; one may be listed twice.
pub record AreItemsOf (k : Skeleton) (items : List Item) : Type 0 where
  pub listed : (i : Item) → IsItemOf k i → IsIn i items
  pub only : (i : Item) → IsIn i items → IsItemOf k i

-- Items of the skeleton are put beside the old ones.
pub record AddsItems (k : Skeleton) (old new : List Item) : Type 0 where
  pub kept : (i : Item) → IsIn i old → IsIn i new
  pub only : (i : Item) → IsIn i new → IsIn i old ⊎ IsItemOf k i

-- Among them are the first n of a kind.
pub record AddsFirst (kind : Kind) (n : ℕ) (k : Skeleton) (old new : List Item) : Type 0 where
  pub adds : AddsItems k old new
  pub all : (i : ℕ) → i < n → IsIn {A = Item} (record { kind = kind; index = i }) new

abbrev pub AddsAll : Kind → Skeleton → List Item → List Item → Type 0
AddsAll kind k = AddsFirst kind (item_count kind k) k

-- What the map does with what comes from the problem: it makes what the first has what the second has.
pub record KeepsProblem (a b : Skeleton) (f : SkeletonMap) : Type 0 where
  pub strands : map f.strands a.from_problem.strands ≡ b.from_problem.strands
  pub values : map (apply_to f.terms) a.from_problem.values ≡ b.from_problem.values

-- Strand number s is an instance of a role.
pub record IsRoleStrand (strands : List SkeletonStrand) (s : ℕ) : Type 0 where
  pub role : Role
  pub height : ℕ
  pub terms : List Binding
  pub on_instance : item_at strands s ≡ Some (instance role height terms)

-- Role strand number s goes where an earlier one goes.
pub record MeetsEarlier (strands : List SkeletonStrand) (f : ℕ → ℕ) (s : ℕ) : Type 0 where
  pub role_strand : IsRoleStrand strands s
  pub other : ℕ
  pub earlier : other < s
  pub other_role_strand : IsRoleStrand strands other
  pub meets : f other ≡ f s

-- Different role strands go to different strands.
abbrev pub KeepsApart : List SkeletonStrand → (ℕ → ℕ) → Type 0
KeepsApart strands f = (s t : ℕ) → IsRoleStrand strands s → IsRoleStrand strands t → f s ≡ f t → s ≡ t

-- Another role strand than number s is placed and goes to this image.
pub record HoldsImage (strands : List SkeletonStrand) (s image : ℕ) (p : Placement) : Type 0 where
  pub role_strand : IsRoleStrand strands p.strand
  pub other : p.strand ≢ s
  pub goes : p.image ≡ image

abbrev pub IsTaken : List SkeletonStrand → ℕ → ℕ → List Placement → Type 0
IsTaken strands s image [] = ⊥
IsTaken strands s image (p ∷ ps) = HoldsImage strands s image p ⊎ IsTaken strands s image ps

-- The item is a role strand, and another one is placed and goes to this image.
pub record IsBlocked (strands : List SkeletonStrand) (item : Item) (image : ℕ) (placements : List Placement) : Type 0 where
  pub strand : item.kind ≡ Strands
  pub role_strand : IsRoleStrand strands item.index
  pub taken : IsTaken strands item.index image placements

-- The image of the pair is kept: its earlier node reaches its later one, another, along the pairs.
abbrev pub IsKeptBy : List OrderPair → SkeletonMap → OrderPair → Type 0
IsKeptBy pairs f p = ReachesAlong pairs (mapped f p.earlier) (mapped f p.later) × (mapped f p.earlier ≢ mapped f p.later)

abbrev pub KeepsPairs : List OrderPair → List OrderPair → SkeletonMap → Type 0
KeepsPairs ps pairs f = (p : OrderPair) → IsIn p ps → IsKeptBy pairs f p

-- The map keeps role strands apart, and the order.
pub record KeepsOrderApart (a b : Skeleton) (f : SkeletonMap) : Type 0 where
  pub apart : KeepsApart a.strands f.strands
  pub pairs : KeepsPairs a.pairs b.pairs f
