-- The partitions of the first strands of a skeleton, and those of one strand more.
use Rattle.std.specs.Prelude.{◌≡◌, ◌≢◌, ◌⊎◌, ◌≤◌, ◌<◌, ℕ, List, [], ◌∷◌, ◌++◌, Some, length}
use Rattle.cp_lists.specs.Lists.{item_at, IsIn}
use Rattle.cp_model.specs.Term.{Assignment, after}
use Rattle.cp_model.specs.Strand.{Role}
use Rattle.cp_model.specs.Skeleton.{instance, Skeleton, Before, IsOrderPair}
use Rattle.cp_unify.specs.Bindings.{Binding, Meets, as_substitution}
use Rattle.cp_unify.specs.Unifiers.{AreLaterToEarlier}
use Rattle.cp_model.specs.declared.node.Node.{Node}
use Rattle.cp_model.specs.declared.node.OrderPair.{OrderPair}
use Rattle.cp_collapse.specs.Partitions.{AreOfOneRole, HaveEqualValues, IdentifiesValues, AreDescending, finest}
use Rattle.cp_collapse.specs.Collapses.{IsNeverIdentified, HasWayBackward, IsImpossible, AreCollapsesBy}
use Rattle.cp_collapse.specs.declared.kept_apart.Apart.{Apart}

-- A partition of the first n strands into blocks of instances of one role.
pub record IsPartitionOfFirst (k : Skeleton) (n : ℕ) (p : List ℕ) : Type 0 where
  pub each : length p ≡ n
  pub lowest : (s l : ℕ) → item_at p s ≡ Some l → (l ≤ s) × (item_at p l ≡ Some l)
  pub alike : (s l : ℕ) → item_at p s ≡ Some l → s ≢ l → AreOfOneRole k.strands s l

-- No partition with these blocks of the first strands gives a skeleton: the blocks never have equal values, or the order comes
-- to lead backward on one strand.
abbrev pub IsRuledOut : Skeleton → List ℕ → Type 0
IsRuledOut k p = IsNeverIdentified k p ⊎ HasWayBackward k p

-- The order leads from a node of one of the strands to a node of the other that has no higher index, so that it would lead
-- backward if they were one.
pub record AreKeptApart (k : Skeleton) (s t : ℕ) : Type 0 where
  pub order_pairs : (q : OrderPair) → IsIn q k.pairs → IsOrderPair k q
  pub from : Node
  pub to : Node
  pub way : Before k from to
  pub between : ((from.strand ≡ s) × (to.strand ≡ t)) ⊎ ((from.strand ≡ t) × (to.strand ≡ s))
  pub backward : to.index ≤ from.index

-- The order keeps the two strands of each item apart.
abbrev pub AreApart : Skeleton → List Apart → Type 0
AreApart k apart = (a : Apart) → IsIn a apart → AreKeptApart k a.higher a.lower

-- The lists are the partitions of the first n strands, in descending lexicographic order, all but some that are ruled out.
pub record ArePartitionsOfFirst (k : Skeleton) (n : ℕ) (ps : List (List ℕ)) : Type 0 where
  pub each : (p : List ℕ) → IsIn p ps → IsPartitionOfFirst k n p
  pub all : (p : List ℕ) → IsPartitionOfFirst k n p → IsIn p ps ⊎ IsRuledOut k p
  pub descending : AreDescending ps

-- Strand n may have the entry l beside a partition of the strands before it: its own number, or that of a lowest strand of
-- one role with it.
abbrev pub MayHave : Skeleton → List ℕ → ℕ → ℕ → Type 0
MayHave k p n l = (l ≡ n) ⊎ ((l < n) × (item_at p l ≡ Some l) × AreOfOneRole k.strands n l)

-- The entry l beside the partition p is behind: p is listed before number i, or is number i and l is m at least.
abbrev pub IsLaterEntry : List (List ℕ) → ℕ → ℕ → List ℕ → ℕ → Type 0
IsLaterEntry ps i m p l = (j : ℕ) × (item_at ps j ≡ Some p) × ((j < i) ⊎ ((j ≡ i) × (m ≤ l)))

-- The partition is one of those that are behind, with its entry.
pub record IsOneBehind (k : Skeleton) (n : ℕ) (ps : List (List ℕ)) (i m : ℕ) (q : List ℕ) : Type 0 where
  pub partition : List ℕ
  pub entry : ℕ
  pub extended : q ≡ partition ++ (entry ∷ [])
  pub behind : IsLaterEntry ps i m partition entry
  pub may_have : MayHave k partition n entry

-- Of the partitions ps of the first n strands those before number i are extended by each entry of strand n, and number i by
-- each from m on, in descending order, all but some that are ruled out.
pub record AreExtendedTo (k : Skeleton) (n : ℕ) (ps : List (List ℕ)) (i m : ℕ) (extended : List (List ℕ)) : Type 0 where
  pub each : (q : List ℕ) → IsIn q extended → IsOneBehind k n ps i m q
  pub all : (p : List ℕ) (l : ℕ) → IsLaterEntry ps i m p l → MayHave k p n l → IsIn (p ++ (l ∷ [])) extended ⊎ IsRuledOut k (p ++ (l ∷ []))
  pub descending : AreDescending extended

-- The bindings are met by exactly the assignments of which the fact is true; each is of a later variable to an earlier one;
-- and whatever an assignment gives to the variables that are not bound, the bindings then give one that meets them.
pub record IsExactFor (fact : Assignment → Type 0) (r : List Binding) : Type 0 where
  pub met : (g : Assignment) → Meets (after g (as_substitution r)) r
  pub sound : (g : Assignment) → Meets g r → fact g
  pub general : (g : Assignment) → fact g → Meets g r
  pub later_to_earlier : AreLaterToEarlier r

-- An assignment gives two strands equal values, where they are instances of one role.
abbrev pub EqualAt : Skeleton → ℕ → ℕ → Assignment → Type 0
EqualAt k s t g = (role : Role) (height : ℕ) (terms : List Binding) (height' : ℕ) (terms' : List Binding) →
    item_at k.strands s ≡ Some (instance role height terms) → item_at k.strands t ≡ Some (instance role height' terms') → HaveEqualValues role height terms height' terms' g

-- An assignment gives the strands of each block equal values, and strand n and each strand before number i of the block whose
-- lowest strand is l.
abbrev pub EqualsBlock : Skeleton → List ℕ → ℕ → ℕ → ℕ → Assignment → Type 0
EqualsBlock k p n l i g = IdentifiesValues k p g × ((t : ℕ) → t < i → item_at p t ≡ Some l → EqualAt k t n g)

-- The skeletons are the collapses by those of the partitions ps that stand before number i, all but the finest and the
-- impossible ones.
pub record AreCollapsedTo (k : Skeleton) (ps : List (List ℕ)) (i : ℕ) (ls : List Skeleton) : Type 0 where
  pub partitions : List (List ℕ)
  pub each : AreCollapsesBy k partitions ls
  pub descending : AreDescending partitions
  pub from : (q : List ℕ) → IsIn q partitions → (j : ℕ) × (j < i) × (item_at ps j ≡ Some q)
  pub all : (j : ℕ) (p : List ℕ) → j < i → item_at ps j ≡ Some p → p ≢ finest k → IsIn p partitions ⊎ IsImpossible k p
