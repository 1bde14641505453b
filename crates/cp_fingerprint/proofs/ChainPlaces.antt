-- Where the nodes of strands are in the table.
use Rattle.std.proofs.Common.{◌≡◌, ℕ, zero, suc, ◌+◌, ◌-◌, ◌<◌, ◌≤◌, ◌^◌, Bool, true, false, if◌then◌else◌, List, [], ◌∷◌, length, get_or, refl, ap, ◌∙◌, arith}
use Rattle.std.specs.Prelude.{Some, nat_lt}
use Rattle.std.proofs.lemmas.Bool.{lt-ltb, le-ltb}
use Rattle.cp_lists.specs.Lists.{item_at}
use Rattle.cp_model.specs.Bundle.{node_at}
use Rattle.cp_model.specs.Skeleton.{SkeletonStrand}
use Rattle.cp_model.specs.declared.node.Node.{Node}
use Rattle.cp_fingerprint.specs.SharedValues.{kept}
use Rattle.cp_fingerprint.specs.ChainTable.{places_on, starts_from, place_in}

-- How many places strands have.
abbrev pub places_of_all : List SkeletonStrand → ℕ
places_of_all [] = 0
places_of_all (x ∷ xs) = places_on x + places_of_all xs

-- How many places the strands before number s have.
abbrev pub start_of : List SkeletonStrand → ℕ → ℕ
start_of [] s = 0
start_of (x ∷ xs) zero = 0
start_of (x ∷ xs) (suc s) = places_on x + start_of xs s

pub kept_same : (n : ℕ) → n < 2 ^ 64 → kept n ≡ n
kept_same n l = omega (arith, l)

-- ---- where strands begin

-- A place past the end that is less than the greatest number is the count of places.
pub end_is : (n : ℕ) (xs : List SkeletonStrand) → get_or (starts_from n xs) (length xs) 0 < 2 ^ 64 - 1 → get_or (starts_from n xs) (length xs) 0 ≡ n + places_of_all xs
end_is n [] small = omega arith
end_is n (x ∷ xs) small =
    let h : get_or (starts_from (kept (n + places_on x)) xs) (length xs) 0 ≡ kept (n + places_on x) + places_of_all xs = end_is (kept (n + places_on x)) xs small in
    let m : kept (n + places_on x) < 2 ^ 64 - 1 = omega (arith, small, h) in
    let e : kept (n + places_on x) ≡ n + places_on x = omega (arith, m) in
    omega (arith, h, e)

start_is : (n : ℕ) (xs : List SkeletonStrand) → n + places_of_all xs < 2 ^ 64 → (s : ℕ) (x : SkeletonStrand) → item_at xs s ≡ Some x → get_or (starts_from n xs) s 0 ≡ n + start_of xs s
start_is n [] fits s x at = absurd (cc)
start_is n (y ∷ ys) fits zero x at = omega arith
start_is n (y ∷ ys) fits (suc s) x at =
    let e : kept (n + places_on y) ≡ n + places_on y = kept_same (n + places_on y) (omega (arith, fits)) in
    let h = start_is (kept (n + places_on y)) ys (omega (arith, fits, e)) s x at in
    omega (arith, h, e)

pub start_found : (xs : List SkeletonStrand) → places_of_all xs < 2 ^ 64 → (s : ℕ) (x : SkeletonStrand) → item_at xs s ≡ Some x → get_or (starts_from 0 xs) s 0 ≡ start_of xs s
start_found xs fits s x at = let e = start_is 0 xs (omega (arith, fits)) s x at in omega (arith, e)

pub place_below : (xs : List SkeletonStrand) (s i : ℕ) (x : SkeletonStrand) → item_at xs s ≡ Some x → i < places_on x → start_of xs s + i < places_of_all xs
place_below [] s i x at l = absurd (cc)
place_below (y ∷ ys) zero i x at l = let e : places_on y ≡ places_on x = ap places_on (let q : y ≡ x = cc in q) in omega (arith, e, l)
place_below (y ∷ ys) (suc s) i x at l = let h = place_below ys s i x at l in omega (arith, h)

pub place_is : (xs : List SkeletonStrand) → places_of_all xs < 2 ^ 64 → (y : Node) (x : SkeletonStrand) → item_at xs y.strand ≡ Some x → y.index < places_on x → place_in (starts_from 0 xs) y ≡ start_of xs y.strand + y.index
place_is xs fits y x at l =
    let e = start_found xs fits y.strand x at in
    let below = place_below xs y.strand y.index x at l in
    omega (arith, e, below, fits)

pub start_first : (xs : List SkeletonStrand) → start_of xs 0 ≡ 0
start_first [] = refl
start_first (x ∷ xs) = refl

-- Each strand begins where the one before it ends.
pub start_next : (xs : List SkeletonStrand) (s : ℕ) (x : SkeletonStrand) → item_at xs s ≡ Some x → start_of xs (suc s) ≡ start_of xs s + places_on x
start_next [] s x at = absurd (cc)
start_next (y ∷ ys) zero x at =
    let e : places_on y ≡ places_on x = ap places_on (let q : y ≡ x = cc in q) in
    let first = start_first ys in
    omega (arith, e, first)
start_next (y ∷ ys) (suc s) x at = let h = start_next ys s x at in omega (arith, h)

pub start_within : (xs : List SkeletonStrand) (s : ℕ) → start_of xs s ≤ places_of_all xs
start_within [] s = omega arith
start_within (x ∷ xs) zero = omega arith
start_within (x ∷ xs) (suc s) = let h = start_within xs s in omega (arith, h)

-- ---- the node at a place, where the first place of strand s is 0

abbrev pub node_of : ℕ → List SkeletonStrand → ℕ → Node
node_of s [] p = node_at s p
node_of s (x ∷ xs) p = if nat_lt p (places_on x) then node_at s p else node_of (suc s) xs (p - places_on x)

pub node_back : (s : ℕ) (xs : List SkeletonStrand) (t i n p : ℕ) (x : SkeletonStrand) → item_at xs t ≡ Some x → i < places_on x → n ≡ s + t → p ≡ start_of xs t + i → node_of s xs p ≡ node_at n i
node_back s [] t i n p x at l e q = absurd (cc)
node_back s (y ∷ ys) zero i n p x at l e q =
    let same : places_on y ≡ places_on x = ap places_on (let r : y ≡ x = cc in r) in
    let told : nat_lt p (places_on y) ≡ true = lt-ltb p (places_on y) (omega (arith, same, l, q)) in
    let strand : s ≡ n = omega (arith, e) in
    let index : p ≡ i = omega (arith, q) in
    ap (λ (b : Bool). if b then node_at s p else node_of (suc s) ys (p - places_on y)) told ∙ (λ j. node_at (strand j) (index j))
node_back s (y ∷ ys) (suc t) i n p x at l e q =
    let told : nat_lt p (places_on y) ≡ false = le-ltb p (places_on y) (omega (arith, q)) in
    ap (λ (b : Bool). if b then node_at s p else node_of (suc s) ys (p - places_on y)) told ∙ node_back (suc s) ys t i n (p - places_on y) x at l (omega (arith, e)) (omega (arith, q))
