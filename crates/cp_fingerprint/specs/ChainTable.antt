-- A table with a place for each node of a skeleton, one strand behind another, in which the weights of heaviest chains are found.
use Rattle.std.specs.Prelude.{◌≡◌, ◌≤◌, ◌<◌, ◌+◌, ◌-◌, ◌^◌, ℕ, zero, suc, max, List, [], ◌∷◌, length, get_or, Bool, true, false}
use Rattle.cp_lists.specs.Lists.{IsIn}
use Rattle.cp_model.specs.Skeleton.{SkeletonStrand, instance, listener}
use Rattle.cp_model.specs.declared.node.Node.{Node}
use Rattle.cp_model.specs.declared.node.OrderPair.{OrderPair}
use Rattle.cp_fingerprint.specs.SharedValues.{kept}

-- ---- places

-- How many places a strand has.
abbrev pub places_on : SkeletonStrand → ℕ
places_on (instance role height terms) = height
places_on (listener t) = 2

-- The first place of each strand, where that of the first strand is n, and the place past the end.
abbrev pub starts_from : ℕ → List SkeletonStrand → List ℕ
starts_from n [] = n ∷ []
starts_from n (x ∷ xs) = n ∷ starts_from (kept (n + places_on x)) xs

-- The place with this index on a strand whose first place is start.
abbrev pub place_on : ℕ → ℕ → ℕ
place_on start i = kept (start + i)

abbrev pub place_in : List ℕ → Node → ℕ
place_in starts y = place_on (get_or starts y.strand 0) y.index

-- ---- weights

-- The weight at a place, of which the one before on its strand has weight w: one more, or what stands there, if that is more.
abbrev pub next_weight : List ℕ → ℕ → ℕ → ℕ
next_weight ws place w = max (kept (w + 1)) (get_or ws place 0)

-- The weight at the place with this index on a strand whose first place is start.
abbrev pub weight_on : List ℕ → ℕ → ℕ → ℕ
weight_on ws start zero = get_or ws (place_on start 0) 0
weight_on ws start (suc i) = next_weight ws (place_on start (suc i)) (weight_on ws start i)

abbrev pub weight_in : List ℕ → List ℕ → Node → ℕ
weight_in starts ws y = weight_on ws (get_or starts y.strand 0) y.index

-- ---- rounds over pairs

-- The later nodes of pairs have places among so many.
abbrev pub EndWithin : ℕ → List ℕ → List OrderPair → Type 0
EndWithin n starts pairs = (p : OrderPair) → IsIn p pairs → place_in starts p.later < n

-- What stands at the place of the pair's later node is more than the weight of the earlier one, unless that is the greatest already.
abbrev pub RisesAlong : List ℕ → List ℕ → OrderPair → Type 0
RisesAlong starts ws p = kept (weight_in starts ws p.earlier + 1) ≤ get_or ws (place_in starts p.later) 0

-- The bound rises along the strand of the pair's earlier node up to that node, and from there to the later one.
pub record Bounds (starts : List ℕ) (bound : ℕ → ℕ) (p : OrderPair) : Type 0 where
  pub along_strand : (i : ℕ) → i < p.earlier.index → kept (bound (place_on (get_or starts p.earlier.strand 0) i) + 1) ≤ bound (place_on (get_or starts p.earlier.strand 0) (suc i))
  pub along_pair : kept (bound (place_in starts p.earlier) + 1) ≤ bound (place_in starts p.later)

abbrev pub IsBelow : List ℕ → (ℕ → ℕ) → Type 0
IsBelow ws bound = (p : ℕ) → get_or ws p 0 ≤ bound p

-- How far the weights can still rise.
abbrev pub room : List ℕ → ℕ
room [] = 0
room (w ∷ ws) = ((2 ^ 64 - 1) - w) + room ws

-- There are as many weights, and they stay below whatever bounds them along all pairs.
pub record IsRisen (starts : List ℕ) (pairs : List OrderPair) (old new : List ℕ) : Type 0 where
  pub count : length new ≡ length old
  pub below : (bound : ℕ → ℕ) → ((p : OrderPair) → IsIn p pairs → Bounds starts bound p) → IsBelow old bound → IsBelow new bound

abbrev pub AreSettled : List ℕ → List OrderPair → List ℕ → Type 0
AreSettled starts pairs ws = (p : OrderPair) → IsIn p pairs → RisesAlong starts ws p

-- Weights were raised along the pairs, unless they rise along all of them already and stay the same.
pub record Raises (starts : List ℕ) (pairs : List OrderPair) (old new : List ℕ) (rose : Bool) : Type 0 where
  pub risen : IsRisen starts pairs old new
  pub settled : rose ≡ false → AreSettled starts pairs new
  pub same : rose ≡ false → new ≡ old
  pub fewer : rose ≡ true → room new < room old

-- The weights were raised until they rise along all pairs.
pub record Settles (starts : List ℕ) (pairs : List OrderPair) (old new : List ℕ) : Type 0 where
  pub risen : IsRisen starts pairs old new
  pub settled : AreSettled starts pairs new

-- ---- the sum

-- With n, so many weights from the place start on, added up.
abbrev pub weights_on : List ℕ → ℕ → ℕ → ℕ → ℕ
weights_on ws start n zero = n
weights_on ws start n (suc i) = kept (weights_on ws start n i + weight_on ws start i)

-- With n, the weights at the places of a role strand, of which start is the first.
abbrev pub weights_of : List ℕ → ℕ → ℕ → SkeletonStrand → ℕ
weights_of ws start n (instance role height terms) = weights_on ws start n height
weights_of ws start n (listener t) = n

-- The same of strands.
abbrev pub weights_from : List ℕ → ℕ → ℕ → List SkeletonStrand → ℕ
weights_from ws start n [] = n
weights_from ws start n (x ∷ xs) = weights_from ws (kept (start + places_on x)) (weights_of ws start n x) xs
