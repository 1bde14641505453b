-- Fingerprints by the places of the roles in a protocol whose roles have distinct names.
use Rattle.std.specs.Prelude.{◌≡◌, ◌≤◌, ◌==◌, ◌&&◌, ℕ, suc, Bool, List, [], ◌∷◌, Some, nat_le, if◌then◌else◌, count_by, map}
use Rattle.std.specs.declared.cmp.Ordering.{Ordering}
use Rattle.std.specs.Ordering.{nat_cmp, ordering_then}
use Rattle.cp_lists.specs.Lists.{item_at}
use Rattle.cp_model.specs.Same.{same_text}
use Rattle.cp_model.specs.Strand.{Role, Protocol}
use Rattle.cp_model.specs.Skeleton.{SkeletonStrand, instance, listener, Skeleton}
use Rattle.cp_fingerprint.specs.Sorted.{sorted_by}
use Rattle.cp_fingerprint.specs.declared.heights.RoleHeight.{RoleHeight}

-- The place of a role in a protocol, and a height.
pub record PlaceHeight : Type 0 where
  pub place : ℕ
  pub height : ℕ

-- By the places, and then by the heights.
abbrev pub by_place_and_height : PlaceHeight → PlaceHeight → Ordering
by_place_and_height x y = ordering_then (nat_cmp x.place y.place) (nat_cmp x.height y.height)

-- Roles at different places have different names.
abbrev pub HasDistinctNames : Protocol → Type 0
HasDistinctNames protocol = (i j : ℕ) (r s : Role) → item_at protocol.roles i ≡ Some r → item_at protocol.roles j ≡ Some s → r.name ≡ s.name → i ≡ j

-- These are the place of the role and the height of each role strand.
abbrev pub AreOfStrands : Protocol → List SkeletonStrand → List PlaceHeight → Type 0
AreOfStrands protocol [] xs = xs ≡ []
AreOfStrands protocol (listener t ∷ ss) xs = AreOfStrands protocol ss xs
AreOfStrands protocol (instance role height terms ∷ ss) [] = ⊥
AreOfStrands protocol (instance role height terms ∷ ss) (x ∷ xs) = (item_at protocol.roles x.place ≡ Some role) × (x.height ≡ height) × AreOfStrands protocol ss xs

-- The list is that of the places of the roles and the heights of a skeleton's role strands, in order.
pub record IsPlaceList (protocol : Protocol) (k : Skeleton) (xs : List PlaceHeight) : Type 0 where
  pub places : List PlaceHeight
  pub of_strands : AreOfStrands protocol k.strands places
  pub sorted : xs ≡ sorted_by by_place_and_height places

-- The place of the first role of this name.
abbrev pub place_of : List ℕ → List Role → ℕ
place_of name [] = 0
place_of name (role ∷ roles) = if same_text role.name name then 0 else suc (place_of name roles)

-- The same with the place of the first role of this name.
abbrev pub placed_in : Protocol → RoleHeight → PlaceHeight
placed_in protocol x = record { place = place_of x.name protocol.roles; height = x.height }

-- A fingerprint with places for names, in order of these.
abbrev pub by_places : Protocol → List RoleHeight → List PlaceHeight
by_places protocol xs = sorted_by by_place_and_height (map (placed_in protocol) xs)

-- It is of the role at this place, and of this height or more.
abbrev pub is_placed_as_high : ℕ → ℕ → PlaceHeight → Bool
is_placed_as_high place height x = (x.place == place) && nat_le height x.height

-- For each place and each height from 1 there are no more of that place and that height or more on the left than on the right.
abbrev pub HaveNoMorePlaces : List PlaceHeight → List PlaceHeight → Type 0
HaveNoMorePlaces xs ys = (place height : ℕ) → 1 ≤ height → count_by (is_placed_as_high place height) xs ≤ count_by (is_placed_as_high place height) ys
