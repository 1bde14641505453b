-- Partitions of the strands of a skeleton into blocks of instances of one role, and what gives a block equal values.
use Rattle.std.specs.Prelude.{◌≡◌, ◌≢◌, ◌≤◌, ◌<◌, ◌⊎◌, ◌+◌, ◌==◌, ℕ, zero, suc, List, [], ◌∷◌, Option, Some, None, Bool, true, false, if◌then◌else◌, length}
use Rattle.cp_lists.specs.Lists.{item_at, IsIn}
use Rattle.cp_model.specs.Term.{Assignment, after, Substitution, composed, variable_term, value_of, apply_to}
use Rattle.cp_model.specs.Bindings.{Binding, as_substitution}
use Rattle.cp_model.specs.declared.variable.Variable.{Variable}
use Rattle.cp_model.specs.Strand.{Role, variables_of_prefix}
use Rattle.cp_model.specs.Bundle.{node_at}
use Rattle.cp_model.specs.declared.node.Node.{Node}
use Rattle.cp_model.specs.Skeleton.{SkeletonStrand, instance, listener, Skeleton}
use Rattle.cp_model.specs.Homomorphism.{strand_in}
use Rattle.cp_model.specs.Problem.{numbers_from}

-- There is a strand, and it is an instance of a role.
abbrev pub is_some_instance : Option SkeletonStrand → Bool
is_some_instance None = false
is_some_instance (Some (instance role height terms)) = true
is_some_instance (Some (listener t)) = false

-- Two strands are instances of one role.
pub record AreOfOneRole (strands : List SkeletonStrand) (s t : ℕ) : Type 0 where
  pub role : Role
  pub height : ℕ
  pub terms : List Binding
  pub first : item_at strands s ≡ Some (instance role height terms)
  pub height' : ℕ
  pub terms' : List Binding
  pub second : item_at strands t ≡ Some (instance role height' terms')

-- A partition of the strands into blocks of instances of one role, written as the list that gives each strand the lowest
-- strand of its block. A listener is alone in its block.
pub record IsPartitionByRole (k : Skeleton) (p : List ℕ) : Type 0 where
  pub each : length p ≡ length k.strands
  pub lowest : (s l : ℕ) → item_at p s ≡ Some l → (l ≤ s) × (item_at p l ≡ Some l)
  pub alike : (s l : ℕ) → item_at p s ≡ Some l → s ≢ l → AreOfOneRole k.strands s l

-- The finest partition, in which every strand is alone.
abbrev pub finest : Skeleton → List ℕ
finest k = numbers_from 0 k.strands

-- The strand is the lowest of its block, so that its entry is its own number. A strand with no entry is alone.
abbrev pub is_own : ℕ → Option ℕ → Bool
is_own s None = true
is_own s (Some l) = l == s

-- How many of the strands with smaller numbers than n are the lowest of their blocks.
abbrev pub lowest_before : List ℕ → ℕ → ℕ
lowest_before p zero = 0
lowest_before p (suc n) = lowest_before p n + (if is_own n (item_at p n) then 1 else 0)

-- How many blocks there are.
abbrev pub block_count : List ℕ → ℕ
block_count p = lowest_before p (length p)

-- The place of the block of strand s: how many lowest strands there are before its own.
abbrev pub place_in : List ℕ → ℕ → ℕ
place_in p s = lowest_before p (strand_in p s)

-- The node at the place of its strand's block.
abbrev pub node_in : List ℕ → Node → Node
node_in p n = node_at (place_in p n.strand) n.index

-- Two strands are in one block.
abbrev pub AreTogether : List ℕ → ℕ → ℕ → Type 0
AreTogether p s t = (l : ℕ) × (item_at p s ≡ Some l) × (item_at p t ≡ Some l)

-- A substitution identifies the strands of each block: under it two instances of one role in one block have the same term
-- for each variable that is in both prefixes.
abbrev pub Identifies : Skeleton → List ℕ → Substitution → Type 0
Identifies k p f = (s t : ℕ) (role : Role) (height : ℕ) (terms : List Binding) (height' : ℕ) (terms' : List Binding) →
    item_at k.strands s ≡ Some (instance role height terms) → item_at k.strands t ≡ Some (instance role height' terms') → AreTogether p s t →
    (x : Variable) → IsIn x (variables_of_prefix role height) → IsIn x (variables_of_prefix role height') →
    apply_to (composed (as_substitution terms) f) (variable_term x) ≡ apply_to (composed (as_substitution terms') f) (variable_term x)

-- An assignment gives two instances of one role equal values: the same value of each variable that is in both prefixes.
abbrev pub HaveEqualValues : Role → ℕ → List Binding → ℕ → List Binding → Assignment → Type 0
HaveEqualValues role height terms height' terms' g =
    (x : Variable) → IsIn x (variables_of_prefix role height) → IsIn x (variables_of_prefix role height') → value_of (after g (as_substitution terms)) (variable_term x) ≡ value_of (after g (as_substitution terms')) (variable_term x)

-- An assignment gives the strands of each block equal values.
abbrev pub IdentifiesValues : Skeleton → List ℕ → Assignment → Type 0
IdentifiesValues k p g = (s t : ℕ) (role : Role) (height : ℕ) (terms : List Binding) (height' : ℕ) (terms' : List Binding) →
    item_at k.strands s ≡ Some (instance role height terms) → item_at k.strands t ≡ Some (instance role height' terms') → AreTogether p s t → HaveEqualValues role height terms height' terms' g

-- p is lower than q in lexicographic order.
abbrev pub IsLower : List ℕ → List ℕ → Type 0
IsLower [] qs = ⊥
IsLower (p ∷ ps) [] = ⊥
IsLower (p ∷ ps) (q ∷ qs) = (p < q) ⊎ ((p ≡ q) × IsLower ps qs)

-- The lists come in descending lexicographic order: each of them is lower than all before it.
abbrev pub AreDescending : List (List ℕ) → Type 0
AreDescending [] = Unit {0}
AreDescending (p ∷ ps) = ((q : List ℕ) → IsIn q ps → IsLower q p) × AreDescending ps
