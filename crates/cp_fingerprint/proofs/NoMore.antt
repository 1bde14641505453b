-- How many role strands there are of each name and height, and what an embedding makes of these numbers.
use Rattle.std.proofs.Common.{◌≡◌, ℕ, suc, ◌+◌, ◌<◌, ◌≤◌, ◌&&◌, Bool, true, false, cond, nat_le, List, [], ◌∷◌, map, refl, sym, ap, ap₂, ◌∙◌, subst₂, arith, ◌⊎◌, inl, inr, Equal}
use Rattle.std.specs.Prelude.{Some, count_by}
use Rattle.std.specs.Bool.{Decides}
use Rattle.std.specs.Cmp.{IsTotalOrder}
use Rattle.std.specs.Ordering.{is_eq, nat_cmp}
use Rattle.std.specs.Cmp.Lexicographic.{slice_cmp}
use Rattle.std.proofs.lemmas.Bool.{leb-true, le-leb, cases_lt, and_parts, and_from}
use Rattle.std.proofs.lemmas.Bool.Decides.{same_from_decides}
use Rattle.std.proofs.lemmas.Cmp.{nat_cmp_total, nat_list_cmp_total, on_total, then_total, tied_itself}
use Rattle.std.proofs.lemmas.List.Recursion.{is_sum_by}
use Rattle.std.proofs.lemmas.Map.Lookups.{CmpEqualImpliesEq, exact_unsigned, exact_bytes, exact_pairs}
use Rattle.std.proofs.Math.Bool.{and-true}
use Rattle.cp_lists.specs.Lists.{item_at}
use Rattle.cp_lists.proofs.Items.{map_of_item}
use Rattle.cp_model.specs.Skeleton.{SkeletonStrand, instance, listener, Skeleton}
use Rattle.cp_model.specs.Homomorphism.{SkeletonMap, IsEmbedding, Embeds}
use Rattle.cp_model.specs.Same.{same_text}
use Rattle.cp_model.proofs.SameTests.{text_is, is_text}
use Rattle.cp_fingerprint.specs.Fingerprints.{heights_of, by_name_and_height, fingerprint_of, is_as_high, HaveNoMore}
use Rattle.cp_fingerprint.specs.Isomorphic.{IsIsomorphic}
use Rattle.cp_fingerprint.specs.declared.heights.RoleHeight.{RoleHeight}
use Rattle.cp_fingerprint.proofs.SharedMore.{IsRoleStrand}
use Rattle.cp_fingerprint.proofs.SortedLists.{sorted_sum, sorted_ascends, one_of, is_equal, same_items}
use Rattle.cp_fingerprint.proofs.StrandSums.{total, sum_of, sum_both, total_map, GoesToMore, GoApart, no_more_in_all}

-- ---- counts are sums

abbrev pub one_if : Bool → ℕ
one_if b = cond b 1 0

abbrev pub unit : List ℕ → ℕ → RoleHeight → ℕ
unit name height x = one_if (is_as_high name height x)

-- How many pass a test.
pub count_is : {A : Type 0} (test : A → Bool) (xs : List A) → count_by test xs ≡ sum_of (λ x. one_if (test x)) xs
count_is test xs = sym (is_sum_by (sum_of (λ x. one_if (test x))) (λ x. one_if (test x)) refl (λ _ _. refl) xs)

pub found_high : (name : List ℕ) (height : ℕ) (x : RoleHeight) (r : Bool) → height ≤ x.height → Decides r (x.name ≡ name) → r ≡ is_as_high name height x
found_high name height x r le told =
    let same : same_text x.name name ≡ r = same_from_decides (same_text x.name name) r (text_is x.name name, is_text x.name name) told in
    sym (ap₂ ◌&&◌ same (le-leb height x.height le) ∙ and-true r)

pub fewer : (p q : Bool) → (p ≡ true → q ≡ true) → one_if p ≤ one_if q
fewer true true on = omega arith
fewer true false on = absurd (let h : false ≡ true = on refl in cc)
fewer false q on = omega arith

pub none_if : (p : Bool) → (p ≡ true → ⊥) → one_if p ≡ 0
none_if true not = absurd (not refl)
none_if false not = refl

pub same_if : (p q : Bool) → (p ≡ true → q ≡ true) → (q ≡ true → p ≡ true) → one_if p ≡ one_if q
same_if true true on back = refl
same_if false false on back = refl
same_if true false on back = absurd (let h : false ≡ true = on refl in cc)
same_if false true on back = absurd (let h : false ≡ true = back refl in cc)

-- ---- a name and a height

-- What is as high is of the name and at least of the height.
pub high_parts : (name : List ℕ) (height : ℕ) (x : RoleHeight) → is_as_high name height x ≡ true → (x.name ≡ name) × (height ≤ x.height)
high_parts name height x e =
    let h = and_parts (same_text x.name name) (nat_le height x.height) e in
    (text_is x.name name h.0, leb-true height x.height h.1)

pub as_high : (name : List ℕ) (height : ℕ) (x : RoleHeight) → x.name ≡ name → height ≤ x.height → is_as_high name height x ≡ true
as_high name height x same le = and_from (same_text x.name name) (nat_le height x.height) (is_text x.name name same) (le-leb height x.height le)

pub total_order : IsTotalOrder by_name_and_height
total_order = then_total (on_total (λ x. x.name) nat_list_cmp_total) (on_total (λ x. x.height) nat_cmp_total)

pub tells_apart : CmpEqualImpliesEq by_name_and_height
tells_apart x y h =
    ap (λ (p : List ℕ × ℕ). record { name = p.0; height = p.1 }) (exact_pairs (slice_cmp nat_cmp) nat_cmp exact_bytes exact_unsigned (x.name, x.height) (y.name, y.height) h)

-- ---- a skeleton that embeds in another has no more

abbrev strand_unit : List ℕ → ℕ → SkeletonStrand → ℕ
strand_unit name height (instance role own terms) = unit name height (record { name = role.name; height = own })
strand_unit name height (listener t) = 0

units_of_strands : (name : List ℕ) (height : ℕ) (ss : List SkeletonStrand) → sum_of (unit name height) (heights_of ss) ≡ sum_of (strand_unit name height) ss
units_of_strands name height [] = refl
units_of_strands name height (instance role own terms ∷ ss) = ap (λ (n : ℕ). unit name height (record { name = role.name; height = own }) + n) (units_of_strands name height ss)
units_of_strands name height (listener t ∷ ss) = let h : sum_of (unit name height) (heights_of ss) ≡ sum_of (strand_unit name height) ss = units_of_strands name height ss in omega (arith, h)

units_of_skeleton : (name : List ℕ) (height : ℕ) (k : Skeleton) → sum_of (unit name height) (fingerprint_of k) ≡ sum_of (strand_unit name height) k.strands
units_of_skeleton name height k = sorted_sum by_name_and_height (unit name height) (heights_of k.strands) ∙ units_of_strands name height k.strands

module _ (a b : Skeleton) (f : SkeletonMap) (emb : IsEmbedding a b f) (name : List ℕ) (height : ℕ) where
  abbrev others : List ℕ
  others = map (strand_unit name height) b.strands

  strand_more : (i : ℕ) (st : SkeletonStrand) → item_at a.strands i ≡ Some st → GoesToMore (strand_unit name height) IsRoleStrand others (f.strands i) st
  strand_more i (listener t) at = inl refl
  strand_more i (instance role own s) at =
      let g = emb.homomorphism.instances i role own s at in
      let low : RoleHeight = record { name = role.name; height = own } in
      let high : RoleHeight = record { name = role.name; height = g.to_height } in
      let risen : is_as_high name height low ≡ true → is_as_high name height high ≡ true =
      λ e. let h = high_parts name height low e in as_high name height high h.0 (let l = h.1 in let m = g.at_least in let n : height ≤ g.to_height = omega (arith, l, m) in n) in
      inr (
        (role, (own, (s, refl))),
        (
          strand_unit name height (instance role g.to_height g.to_terms),
          map_of_item (strand_unit name height) b.strands (f.strands i) (instance role g.to_height g.to_terms) g.on_instance,
          fewer (is_as_high name height low) (is_as_high name height high) risen,
        ),
      )

  apart : GoApart IsRoleStrand a.strands f.strands
  apart i j x y at au p q e =
      emb.injective i j p.0 p.1.0 p.1.1.0 q.0 q.1.0 q.1.1.0 (at ∙ ap (λ (st : SkeletonStrand). Some st) p.1.1.1) (au ∙ ap (λ (st : SkeletonStrand). Some st) q.1.1.1) e

  no_more_strands : sum_of (unit name height) (fingerprint_of a) ≤ sum_of (unit name height) (fingerprint_of b)
  no_more_strands =
      let l : sum_of (strand_unit name height) a.strands ≤ total others = no_more_in_all (strand_unit name height) IsRoleStrand a.strands f.strands others strand_more apart in
      let one : sum_of (unit name height) (fingerprint_of a) ≡ sum_of (strand_unit name height) a.strands = units_of_skeleton name height a in
      let other : sum_of (unit name height) (fingerprint_of b) ≡ total others = units_of_skeleton name height b ∙ sym (total_map (strand_unit name height) b.strands) in
      omega (arith, l, one, other)

-- Two lists compared by counts, and by sums.
abbrev pub NoMore : List RoleHeight → List RoleHeight → Type 0
NoMore xs ys = (name : List ℕ) (height : ℕ) → 1 ≤ height → sum_of (unit name height) xs ≤ sum_of (unit name height) ys

pub by_counts : (xs ys : List RoleHeight) → NoMore xs ys → HaveNoMore xs ys
by_counts xs ys less name height l = subst₂ (λ (m n : ℕ). m ≤ n) (sym (count_is (is_as_high name height) xs)) (sym (count_is (is_as_high name height) ys)) (less name height l)

pub by_sums : (xs ys : List RoleHeight) → HaveNoMore xs ys → NoMore xs ys
by_sums xs ys less name height l = subst₂ (λ (m n : ℕ). m ≤ n) (count_is (is_as_high name height) xs) (count_is (is_as_high name height) ys) (less name height l)

-- Of no name and height has a skeleton more strands than one in which it embeds.
pub embedded_has_no_more : (a b : Skeleton) → Embeds a b → HaveNoMore (fingerprint_of a) (fingerprint_of b)
embedded_has_no_more a b h = by_counts (fingerprint_of a) (fingerprint_of b) (λ name height l. no_more_strands a b h.0 h.1 name height)

-- ---- isomorphic skeletons have as many

module _ (z x : RoleHeight) where
  abbrev rest : ℕ
  rest = unit z.name (suc z.height) x

  high_by_one : unit z.name z.height x ≡ one_of by_name_and_height z x + rest
  high_by_one = by (is_eq (by_name_and_height z x)) refl
    where
      low_too : is_as_high z.name (suc z.height) x ≡ true → is_as_high z.name z.height x ≡ true
      low_too e = let h = high_parts z.name (suc z.height) x e in as_high z.name z.height x h.0 (let l : suc z.height ≤ x.height = h.1 in let m : z.height ≤ x.height = omega (arith, l) in m)

      above : (z ≡ x → ⊥) → is_as_high z.name z.height x ≡ true → is_as_high z.name (suc z.height) x ≡ true
      above other e = let h = high_parts z.name z.height x e in as_high z.name (suc z.height) x h.0 (higher h.0 h.1 (cases_lt z.height x.height))
        where
          higher : x.name ≡ z.name → z.height ≤ x.height → (z.height < x.height) ⊎ (x.height ≤ z.height) → suc z.height ≤ x.height
          higher same l (inl m) = omega (arith, m)
          higher same l (inr m) = absurd (other (ap₂ (λ (name : List ℕ) (height : ℕ). record { name = name; height = height }) (sym same) (let d : z.height ≡ x.height = omega (arith, l, m) in d)))

      itself : is_as_high z.name z.height z ≡ true
      itself = as_high z.name z.height z refl (let l : z.height ≤ z.height = omega arith in l)

      by : (b : Bool) → is_eq (by_name_and_height z x) ≡ b → unit z.name z.height x ≡ cond b 1 0 + rest
      by true e =
          let same : z ≡ x = tells_apart z x (is_equal (by_name_and_height z x) e) in
          let one : unit z.name z.height x ≡ 1 = ap (unit z.name z.height) (sym same) ∙ ap one_if itself in
          let none : rest ≡ 0 = none_if (is_as_high z.name (suc z.height) x) (λ d. let l : suc z.height ≤ x.height = (high_parts z.name (suc z.height) x d).1 in let m : z.height ≡ x.height = ap (λ (y : RoleHeight). y.height) same in omega (arith, l, m)) in
          omega (arith, one, none)
      by false e =
          let alike : unit z.name z.height x ≡ rest = same_if (is_as_high z.name z.height x) (is_as_high z.name (suc z.height) x) (above differ) low_too in
          omega (arith, alike)
        where
          differ : z ≡ x → ⊥
          differ same =
              let equal : by_name_and_height z x ≡ Equal = ap (by_name_and_height z) (sym same) ∙ tied_itself total_order z in
              let b : true ≡ false = sym (ap is_eq equal) ∙ e in
              absurd (cc)

module _ (a b : Skeleton) (h : IsIsomorphic a b) where
  as_many : (name : List ℕ) (height : ℕ) → sum_of (unit name height) (fingerprint_of a) ≡ sum_of (unit name height) (fingerprint_of b)
  as_many name height =
      let l = no_more_strands a b h.0.0 h.0.1 name height in
      let m = no_more_strands b a h.1.0 h.1.1 name height in
      omega (arith, l, m)

  as_many_just : (z : RoleHeight) → sum_of (one_of by_name_and_height z) (fingerprint_of a) ≡ sum_of (one_of by_name_and_height z) (fingerprint_of b)
  as_many_just z =
      let from : List RoleHeight → ℕ = sum_of (unit z.name z.height) in
      let over : List RoleHeight → ℕ = sum_of (unit z.name (suc z.height)) in
      let just : List RoleHeight → ℕ = sum_of (one_of by_name_and_height z) in
      let one : from (fingerprint_of a) ≡ from (fingerprint_of b) = as_many z.name z.height in
      let other : over (fingerprint_of a) ≡ over (fingerprint_of b) = as_many z.name (suc z.height) in
      let here : from (fingerprint_of a) ≡ just (fingerprint_of a) + over (fingerprint_of a) = sum_both (unit z.name z.height) (one_of by_name_and_height z) (unit z.name (suc z.height)) (fingerprint_of a) (high_by_one z) in
      let there : from (fingerprint_of b) ≡ just (fingerprint_of b) + over (fingerprint_of b) = sum_both (unit z.name z.height) (one_of by_name_and_height z) (unit z.name (suc z.height)) (fingerprint_of b) (high_by_one z) in
      omega (arith, one, other, here, there)

-- Isomorphic skeletons have one fingerprint.
pub isomorphic_alike : (a b : Skeleton) → IsIsomorphic a b → fingerprint_of a ≡ fingerprint_of b
isomorphic_alike a b h =
    same_items by_name_and_height total_order tells_apart (fingerprint_of a) (fingerprint_of b)
    (sorted_ascends by_name_and_height total_order (heights_of a.strands)) (sorted_ascends by_name_and_height total_order (heights_of b.strands)) (as_many_just a b h)
