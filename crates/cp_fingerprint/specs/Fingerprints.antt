-- Fingerprints of skeletons: the names of the roles of their role strands, and the heights, in order. An embedding sends each role
-- strand to one of the same role and at least the same height, and no two to one (CPSA Primer, "Skeletons").
use Rattle.std.specs.Prelude.{◌≤◌, ◌&&◌, ℕ, Bool, List, [], ◌∷◌, nat_le, count_by}
use Rattle.std.specs.declared.cmp.Ordering.{Ordering}
use Rattle.std.specs.Ordering.{nat_cmp, ordering_then}
use Rattle.std.specs.Cmp.Lexicographic.{slice_cmp}
use Rattle.cp_model.specs.Same.{same_text}
use Rattle.cp_model.specs.Skeleton.{SkeletonStrand, instance, listener, Skeleton}
use Rattle.cp_fingerprint.specs.Sorted.{sorted_by}
use Rattle.cp_fingerprint.specs.declared.heights.RoleHeight.{RoleHeight}

-- The name of the role and the height of each role strand.
abbrev pub heights_of : List SkeletonStrand → List RoleHeight
heights_of [] = []
heights_of (instance role height terms ∷ ss) = record { name = role.name; height = height } ∷ heights_of ss
heights_of (listener t ∷ ss) = heights_of ss

-- By the names, as texts compare, and then by the heights.
abbrev pub by_name_and_height : RoleHeight → RoleHeight → Ordering
by_name_and_height x y = ordering_then (slice_cmp nat_cmp x.name y.name) (nat_cmp x.height y.height)

-- The fingerprint of a skeleton.
abbrev pub fingerprint_of : Skeleton → List RoleHeight
fingerprint_of k = sorted_by by_name_and_height (heights_of k.strands)

-- It is of a role of this name, and of this height or more.
abbrev pub is_as_high : List ℕ → ℕ → RoleHeight → Bool
is_as_high name height x = same_text x.name name && nat_le height x.height

-- For each name and each height from 1 there are no more of that name and that height or more on the left than on the right.
abbrev pub HaveNoMore : List RoleHeight → List RoleHeight → Type 0
HaveNoMore xs ys = (name : List ℕ) (height : ℕ) → 1 ≤ height → count_by (is_as_high name height) xs ≤ count_by (is_as_high name height) ys
