-- Maps between skeletons, and lists of skeletons that leave nothing out.
use Rattle.std.specs.Prelude.{◌≡◌, ℕ, ◌≤◌, List, Option, Some, None, map}
use Rattle.cp_lists.specs.Lists.{item_at, IsIn}
use Rattle.cp_model.specs.Term.{AtomTerm, Term, Substitution, apply_to, apply_to_atom, composed, AgreeOnTerms, value_of}
use Rattle.cp_model.specs.Bindings.{Binding, as_substitution}
pub use Rattle.cp_model.specs.Values.{text_in, datum_in, name_in, skey_in, akey_in, substitution_by}
use Rattle.cp_model.specs.Strand.{Role, Protocol, variables_of_prefix}
use Rattle.cp_model.specs.Bundle.{node_at, Bundle, IsBundle}
use Rattle.cp_model.specs.declared.node.Node.{Node}
use Rattle.cp_model.specs.Skeleton.{instance, listener, UniqueAt, Skeleton, Before}
use Rattle.cp_model.specs.Standing.{Standing, StandsIn, StandsApart}

-- A map of strands and a substitution.
pub record SkeletonMap : Type 0 where
  pub strands : ℕ → ℕ
  pub terms : Substitution

abbrev pub mapped : SkeletonMap → Node → Node
mapped f n = node_at (f.strands n.strand) n.index

-- A role strand goes to one of the same role and at least the same height, and the instances agree on the
-- variables of the prefix.
pub record GoesToInstance (b : Skeleton) (f : SkeletonMap) (s : ℕ) (role : Role) (height : ℕ) (terms : List Binding) : Type 0 where
  pub to_height : ℕ
  pub to_terms : List Binding
  pub on_instance : item_at b.strands (f.strands s) ≡ Some (instance role to_height to_terms)
  pub at_least : height ≤ to_height
  pub equal_terms : AgreeOnTerms (variables_of_prefix role height) (composed (as_substitution terms) f.terms) (as_substitution to_terms)

-- A homomorphism from a to b: instances go to instances, listeners to listeners on the same term; x before y in
-- a gives image before image in b; and each assumption's image is one of b's, of the same kind, recorded origins
-- with it. Two role strands may go to one.
pub record IsHomomorphism (a b : Skeleton) (f : SkeletonMap) : Type 0 where
  pub instances : (s : ℕ) (role : Role) (height : ℕ) (terms : List Binding) → item_at a.strands s ≡ Some (instance role height terms) → GoesToInstance b f s role height terms
  pub listeners : (s : ℕ) (t : Term) → item_at a.strands s ≡ Some (listener t) → item_at b.strands (f.strands s) ≡ Some (listener (apply_to f.terms t))
  pub ordered : (x y : Node) → Before a x y → Before b (mapped f x) (mapped f y)
  pub non : (v : AtomTerm) → IsIn v a.assumptions.non_originating → IsIn (apply_to_atom f.terms v) b.assumptions.non_originating
  pub penetrator_non : (v : AtomTerm) → IsIn v a.assumptions.penetrator_non_originating → IsIn (apply_to_atom f.terms v) b.assumptions.penetrator_non_originating
  pub unique : (u : UniqueAt) → IsIn u a.assumptions.uniquely_originating →
      IsIn (record { value = apply_to_atom f.terms u.value; origin = mapped f u.origin }) b.assumptions.uniquely_originating

-- An embedding over the problem: a homomorphism that sends different role strands to different ones and that,
-- after a's map from the problem, gives b's.
pub record IsEmbedding (a b : Skeleton) (f : SkeletonMap) : Type 0 where
  pub homomorphism : IsHomomorphism a b f
  pub injective : (s t : ℕ) (role : Role) (height : ℕ) (terms : List Binding) (role' : Role) (height' : ℕ) (terms' : List Binding) →
      item_at a.strands s ≡ Some (instance role height terms) → item_at a.strands t ≡ Some (instance role' height' terms') →
      f.strands s ≡ f.strands t → s ≡ t
  pub same_strands : map f.strands a.from_problem.strands ≡ b.from_problem.strands
  pub same_values : map (apply_to f.terms) a.from_problem.values ≡ b.from_problem.values

abbrev pub Embeds : Skeleton → Skeleton → Type 0
Embeds a b = (f : SkeletonMap) × IsEmbedding a b f

abbrev pub number_or : ℕ → Option ℕ → ℕ
number_or n None = n
number_or n (Some m) = m

-- The map of a skeleton from its problem, as a map of skeletons: strand number i of the problem goes to the i-th
-- of its strands, variable number i to the i-th of its terms.
abbrev pub strand_in : List ℕ → ℕ → ℕ
strand_in strands s = number_or s (item_at strands s)

abbrev pub map_from_problem : Skeleton → SkeletonMap
map_from_problem k = record { strands = strand_in k.from_problem.strands; terms = substitution_by k.from_problem.values }

-- A skeleton carries a homomorphism from its problem: its map is one, and has an entry for each strand and each
-- variable of the problem.
pub record CarriesHomomorphism (problem k : Skeleton) : Type 0 where
  pub homomorphism : IsHomomorphism problem k (map_from_problem k)
  pub strands : map (map_from_problem k).strands problem.from_problem.strands ≡ k.from_problem.strands
  pub values : map (apply_to (map_from_problem k).terms) problem.from_problem.values ≡ k.from_problem.values

-- A standing of the problem is a standing of s after s's map from the problem: it gives each strand and each
-- variable of the problem what the other gives their images.
pub record FactorsThrough (problem : Skeleton) (h : Standing) (s : Skeleton) (g : Standing) : Type 0 where
  pub strands : map h.nodes problem.from_problem.strands ≡ map g.nodes s.from_problem.strands
  pub values : map (value_of h.values) problem.from_problem.values ≡ map (value_of g.values) s.from_problem.values

-- Some skeleton of the list stands apart in the bundle, and the problem's standing factors through it.
pub record Covers (skeletons : List Skeleton) (problem : Skeleton) (b : Bundle) (h : Standing) : Type 0 where
  pub skeleton : Skeleton
  pub listed : IsIn skeleton skeletons
  pub standing : Standing
  pub stands : StandsIn skeleton b standing
  pub apart : StandsApart skeleton standing
  pub factors : FactorsThrough problem h skeleton standing

-- A list of skeletons is complete for a problem: whenever the problem stands in a bundle, that standing factors
-- through a standing of one of the list.
abbrev pub IsCompleteList : Protocol → Skeleton → List Skeleton → Type 0
IsCompleteList protocol problem skeletons = (b : Bundle) (h : Standing) → IsBundle protocol b → StandsIn problem b h → Covers skeletons problem b h
