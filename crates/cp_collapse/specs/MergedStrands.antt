-- Merging the strands of each block: the tallest of a block, and the merged strands in the order of their places.
use Rattle.std.specs.Prelude.{◌≡◌, ◌≤◌, ◌<◌, ◌⊎◌, ℕ, List, [], ◌∷◌, ◌++◌, Option, Some, None, length}
use Rattle.cp_lists.specs.Lists.{item_at, IsIn}
use Rattle.cp_model.specs.Term.{Substitution}
use Rattle.cp_model.specs.Bindings.{Binding}
use Rattle.cp_model.specs.Strand.{Role}
use Rattle.cp_model.specs.Skeleton.{SkeletonStrand, instance, listener, Skeleton}
use Rattle.cp_theory.specs.Normal.{strand_under}
use Rattle.cp_collapse.specs.SameSkeletons.{AreSameStrands}
use Rattle.cp_collapse.specs.Partitions.{lowest_before}
use Rattle.cp_collapse.specs.Values.{declared_under}

-- Strand t is an instance of the role, of this height at least.
pub record IsAsTall (k : Skeleton) (t : ℕ) (role : Role) (height : ℕ) : Type 0 where
  pub own_height : ℕ
  pub own_terms : List Binding
  pub on_instance : item_at k.strands t ≡ Some (instance role own_height own_terms)
  pub at_least : height ≤ own_height

-- Strand t is in the block whose lowest strand is l, and as tall as each instance of the block before number i.
pub record IsTallestTo (k : Skeleton) (p : List ℕ) (l i t : ℕ) : Type 0 where
  pub in_block : item_at p t ≡ Some l
  pub as_tall : (s : ℕ) (role : Role) (height : ℕ) (terms : List Binding) → s < i → item_at p s ≡ Some l → item_at k.strands s ≡ Some (instance role height terms) → IsAsTall k t role height

-- At the place of the block whose lowest strand is l there is the tallest of the block, under the substitution.
pub record IsMergedAt (k : Skeleton) (p : List ℕ) (f : Substitution) (l : ℕ) (strands : List SkeletonStrand) : Type 0 where
  pub tallest : ℕ
  pub is_tallest : IsTallestTo k p l (length p) tallest
  pub strand : SkeletonStrand
  pub was_there : item_at k.strands tallest ≡ Some strand
  pub merged : item_at strands (lowest_before p l) ≡ Some (strand_under f strand)

-- The strands are those of the blocks whose lowest strands stand before number n, merged.
pub record AreMergedTo (k : Skeleton) (p : List ℕ) (f : Substitution) (n : ℕ) (strands : List SkeletonStrand) : Type 0 where
  pub count : length strands ≡ lowest_before p n
  pub each : (l : ℕ) → l < n → item_at p l ≡ Some l → IsMergedAt k p f l strands

-- The item is put behind the others, or is one of them, and they stay.
abbrev pub IsPutOnce : {A : Type 0} → A → List A → List A → Type 0
IsPutOnce x old new = (new ≡ old ++ (x ∷ [])) ⊎ ((new ≡ old) × IsIn x old)

-- The height of an instance; a listener has none.
abbrev pub height_of : Option SkeletonStrand → ℕ
height_of None = 0
height_of (Some (instance role height terms)) = height
height_of (Some (listener t)) = 0

-- The strands say the same as the merged ones of the blocks whose lowest strands stand before number n.
pub record AreMergedAlike (k : Skeleton) (p : List ℕ) (f : Substitution) (n : ℕ) (strands : List SkeletonStrand) : Type 0 where
  pub exact : List SkeletonStrand
  pub merged : AreMergedTo k p f n exact
  pub alike : AreSameStrands exact strands

-- The strand is number t of these under the substitution.
pub record IsUnder (strands : List SkeletonStrand) (t : ℕ) (f : Substitution) (result : SkeletonStrand) : Type 0 where
  pub strand : SkeletonStrand
  pub was_there : item_at strands t ≡ Some strand
  pub changed : result ≡ declared_under f strand
