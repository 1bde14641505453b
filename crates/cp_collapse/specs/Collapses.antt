-- The collapses of a skeleton: the skeletons that identifying its role strands gives.
use Rattle.std.specs.Prelude.{◌≡◌, ◌≢◌, ◌↔◌, ◌⊎◌, ◌≤◌, ◌<◌, ℕ, List, [], ◌∷◌, Some, map, length}
use Rattle.cp_lists.specs.Lists.{item_at, IsIn}
use Rattle.cp_model.specs.Term.{Term, Assignment, value_of, after, Substitution, apply_to, apply_to_atom}
use Rattle.cp_model.specs.Bindings.{Binding}
use Rattle.cp_model.specs.Strand.{Role}
use Rattle.cp_model.specs.Bundle.{Bundle}
use Rattle.cp_model.specs.declared.node.Node.{Node}
use Rattle.cp_model.specs.Skeleton.{instance, listener, UniqueAt, Assumptions, FromProblem, Skeleton, Before, IsOrderPair}
use Rattle.cp_model.specs.declared.node.OrderPair.{OrderPair}
use Rattle.cp_model.specs.Homomorphism.{SkeletonMap, GoesToInstance}
use Rattle.cp_model.specs.Given.{atoms_onto, uniques_onto, listed}
use Rattle.cp_model.specs.Standing.{Standing, StandsIn, StandsApart}
use Rattle.cp_collapse.specs.Directed.{BindsLaterToEarlier}
use Rattle.cp_collapse.specs.Property.{Has}
use Rattle.cp_collapse.specs.Partitions.{IsPartitionByRole, finest, block_count, place_in, node_in, Identifies, IdentifiesValues, AreDescending}

-- f is the most general substitution that identifies the strands of each block and binds later variables to earlier ones:
-- every assignment that gives them equal values gives each term the value of that term under f.
pub record IsMostGeneralOn (k : Skeleton) (p : List ℕ) (f : Substitution) : Type 0 where
  pub identifies : Identifies k p f
  pub general : (g : Assignment) → IdentifiesValues k p g → (t : Term) → value_of (after g f) t ≡ value_of g t
  pub directed : BindsLaterToEarlier f

-- The way of a skeleton onto its blocks, under a substitution.
abbrev pub onto_blocks : List ℕ → Substitution → SkeletonMap
onto_blocks p f = record { strands = place_in p; terms = f }

-- A unique value under a substitution, with its recorded origin at the place of its strand's block.
abbrev pub unique_in : List ℕ → Substitution → UniqueAt → UniqueAt
unique_in p f u = record { value = apply_to_atom f u.value; origin = node_in p u.origin }

-- A pair between the places of its strands' blocks.
abbrev pub collapsed_pair : List ℕ → OrderPair → OrderPair
collapsed_pair p q = record { earlier = node_in p q.earlier; later = node_in p q.later }

-- The pairs are exactly the images of the others that lie between different strands.
abbrev pub ArePairsIn : List ℕ → List OrderPair → List OrderPair → Type 0
ArePairsIn p qs rs = (r : OrderPair) → IsIn r rs ↔ (Has (λ q. collapsed_pair p q ≡ r) qs × (r.earlier.strand ≢ r.later.strand))

-- The assumptions under a substitution, with each recorded origin at the place of its strand's block, in their order, each
-- once.
abbrev pub assumptions_in : List ℕ → Substitution → Assumptions → Assumptions
assumptions_in p f a = record {
  non_originating = atoms_onto [] (map (apply_to_atom f) a.non_originating);
  penetrator_non_originating = atoms_onto [] (map (apply_to_atom f) a.penetrator_non_originating);
  uniquely_originating = uniques_onto [] (map (unique_in p f) a.uniquely_originating);
}

-- The way from the problem goes on to the blocks. The problem's own assumptions stay in their order, each once.
pub record IsFromProblemIn (p : List ℕ) (f : Substitution) (a b : FromProblem) : Type 0 where
  pub strands : b.strands ≡ map (place_in p) a.strands
  pub values : b.values ≡ map (apply_to f) a.values
  pub assumptions : b.assumptions ≡ assumptions_in p f a.assumptions
  pub pairs : ArePairsIn p a.pairs b.pairs

-- The pair comes to lie on one strand.
abbrev pub LiesOnOne : List ℕ → OrderPair → Type 0
LiesOnOne p q = place_in p q.earlier.strand ≡ place_in p q.later.strand

-- Strand number s of k is an instance of the role, of this height, in the block at this place.
pub record HasInstance (k : Skeleton) (p : List ℕ) (place : ℕ) (role : Role) (height : ℕ) : Type 0 where
  pub strand : ℕ
  pub terms : List Binding
  pub at_place : place_in p strand ≡ place
  pub on_instance : item_at k.strands strand ≡ Some (instance role height terms)

-- l is k with the strands of each block merged into one at the block's place, under a most general substitution that
-- identifies them. The instances of a block go to an instance with the height of one of them. A pair that comes to lie
-- forward on one strand is dropped, and none comes to lie backward on one strand or on one node. The assumptions are the
-- images of k's, in the order in which a report lists them, each once. The tables may differ.
pub record IsCollapsed (k : Skeleton) (p : List ℕ) (l : Skeleton) : Type 0 where
  pub unifier : Substitution
  pub most_general : IsMostGeneralOn k p unifier
  pub count : length l.strands ≡ block_count p
  pub instances : (s : ℕ) (role : Role) (height : ℕ) (terms : List Binding) → item_at k.strands s ≡ Some (instance role height terms) → GoesToInstance l (onto_blocks p unifier) s role height terms
  pub tallest : (place : ℕ) (role : Role) (height : ℕ) (terms : List Binding) → item_at l.strands place ≡ Some (instance role height terms) → HasInstance k p place role height
  pub listeners : (s : ℕ) (t : Term) → item_at k.strands s ≡ Some (listener t) → item_at l.strands (place_in p s) ≡ Some (listener (apply_to unifier t))
  pub pairs : ArePairsIn p k.pairs l.pairs
  pub forward : (q : OrderPair) → IsIn q k.pairs → LiesOnOne p q → q.earlier.index < q.later.index
  pub assumptions : l.assumptions ≡ listed (record l { assumptions = assumptions_in p unifier k.assumptions })
  pub from_problem : IsFromProblemIn p unifier k.from_problem l.from_problem

-- The order has no cycle.
abbrev pub HasNoCycle : Skeleton → Type 0
HasNoCycle l = (n : Node) → Before l n n → ⊥

-- No assignment gives the strands of each block equal values.
abbrev pub IsNeverIdentified : Skeleton → List ℕ → Type 0
IsNeverIdentified k p = (g : Assignment) → IdentifiesValues k p g → ⊥

-- The order, each pair of which goes from a transmission to a reception of another strand, leads from a node to one of another
-- strand, and this comes to lie on the same strand, at the same node or before it.
pub record HasWayBackward (k : Skeleton) (p : List ℕ) : Type 0 where
  pub order_pairs : (q : OrderPair) → IsIn q k.pairs → IsOrderPair k q
  pub from : Node
  pub to : Node
  pub way : Before k from to
  pub other_strand : from.strand ≢ to.strand
  pub on_one : place_in p from.strand ≡ place_in p to.strand
  pub backward : to.index ≤ from.index

-- The order of the merged strands has a cycle.
pub record HasCycleMerged (k : Skeleton) (p : List ℕ) : Type 0 where
  pub merged : Skeleton
  pub collapsed : IsCollapsed k p merged
  pub node : Node
  pub cycle : Before merged node node

-- The partition gives no skeleton: its blocks never have equal values, or the order comes to lead backward on one strand, or
-- that of the merged strands has a cycle.
abbrev pub IsImpossible : Skeleton → List ℕ → Type 0
IsImpossible k p = IsNeverIdentified k p ⊎ (HasWayBackward k p ⊎ HasCycleMerged k p)

-- l is the collapse of k by a partition, which is not the finest.
pub record IsCollapse (k : Skeleton) (p : List ℕ) (l : Skeleton) : Type 0 where
  pub partition : IsPartitionByRole k p
  pub not_finest : p ≢ finest k
  pub collapsed : IsCollapsed k p l
  pub no_cycle : HasNoCycle l

-- The skeletons are the collapses of k by the partitions, place by place.
pub data AreCollapsesBy (k : Skeleton) : List (List ℕ) → List Skeleton → Type 0 where
  no_collapses : AreCollapsesBy k [] []
  collapse_by : {p : List ℕ} {l : Skeleton} {ps : List (List ℕ)} {ls : List Skeleton} → IsCollapse k p l → AreCollapsesBy k ps ls → AreCollapsesBy k (p ∷ ps) (l ∷ ls)

-- These are the collapses of k: one by each partition that is possible and not the finest, in descending lexicographic
-- order of the partitions.
pub record AreCollapses (k : Skeleton) (ls : List Skeleton) : Type 0 where
  pub partitions : List (List ℕ)
  pub each : AreCollapsesBy k partitions ls
  pub descending : AreDescending partitions
  pub all : (p : List ℕ) → IsPartitionByRole k p → p ≢ finest k → IsIn p partitions ⊎ IsImpossible k p

-- The standing h goes through one of l that stands apart: each strand stands where its block does, and each term has the
-- value of the term under the substitution.
pub record StandsByCollapse (p : List ℕ) (f : Substitution) (l : Skeleton) (b : Bundle) (h : Standing) : Type 0 where
  pub standing : Standing
  pub stands : StandsIn l b standing
  pub apart : StandsApart l standing
  pub same_nodes : (s : ℕ) → h.nodes s ≡ standing.nodes (place_in p s)
  pub same_values : (t : Term) → value_of h.values t ≡ value_of standing.values (apply_to f t)

-- The standing h of k goes through one of its collapses.
pub record StandsThroughCollapse (k : Skeleton) (ls : List Skeleton) (b : Bundle) (h : Standing) : Type 0 where
  pub partition : List ℕ
  pub skeleton : Skeleton
  pub listed : IsIn skeleton ls
  pub collapse : IsCollapse k partition skeleton
  pub through : StandsByCollapse partition collapse.collapsed.unifier skeleton b h
