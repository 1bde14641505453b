-- One pass through a fingerprint in order finds room for each entry of another exactly if it has as many.
use Rattle.std.proofs.Common.{◌≡◌, ◌↔◌, ◌≢◌, ℕ, suc, ◌+◌, ◌<◌, ◌≤◌, Bool, true, false, if◌then◌else◌, cond, List, [], ◌∷◌, refl, sym, ap, ◌∙◌, subst, arith, ◌⊎◌, inl, inr, eqb-true, length, ◌==◌, Ordering, Less, Equal, Greater}
use Rattle.std.specs.Ordering.{nat_cmp, ordering_then, is_gt}
use Rattle.std.specs.Cmp.Lexicographic.{slice_cmp}
use Rattle.std.proofs.lemmas.Bool.{cases_lt, false_from_ne_true}
use Rattle.std.proofs.lemmas.Cmp.{nat_list_cmp_total, tied_itself, ranked, by_ranked}
use Rattle.std.proofs.lemmas.Map.Lookups.{exact_bytes}
use Rattle.cp_lists.specs.Lists.{here, there}
use Rattle.cp_model.specs.Same.{same_text}
use Rattle.cp_model.proofs.SameTests.{text_is, is_text}
use Rattle.cp_fingerprint.specs.Sorted.{IsAscending}
use Rattle.cp_fingerprint.specs.Fingerprints.{by_name_and_height, is_as_high, HaveNoMore}
use Rattle.cp_fingerprint.specs.InTurn.{IsInOrder, find_in_turn}
use Rattle.cp_fingerprint.specs.declared.heights.RoleHeight.{RoleHeight}
use Rattle.cp_fingerprint.proofs.Listed.{AllOf, one_or_rest}
use Rattle.cp_fingerprint.proofs.NoMore.{unit, fewer, none_if, high_parts, as_high, total_order, NoMore, by_counts, by_sums}
use Rattle.cp_fingerprint.proofs.SortedLists.{none_above_itself, other_way, tied}
use Rattle.cp_fingerprint.proofs.StrandSums.{sum_of, sum_no_more, sum_zero}

-- ---- what the order says of names and heights

not_over : (m n : ℕ) → is_gt (nat_cmp m n) ≡ false → m ≤ n
not_over m n h =
    by_ranked (m < n) (m ≡ n) (n < m) (nat_cmp m n) (ranked m n (nat_cmp m n) refl) (λ e l. omega (arith, l)) (λ e l. omega (arith, l))
    (λ e l. absurd (let b : true ≡ false = sym (ap is_gt e) ∙ h in cc))

first_not_above : (r s : Ordering) → is_gt (ordering_then r s) ≡ false → is_gt r ≡ false
first_not_above Less s h = refl
first_not_above Equal s h = refl
first_not_above Greater s h = h

-- The first entry is not above the second.
abbrev IsUpTo : RoleHeight → RoleHeight → Type 0
IsUpTo x y = is_gt (by_name_and_height x y) ≡ false

no_lower : (x y : RoleHeight) → IsUpTo x y → x.name ≡ y.name → x.height ≤ y.height
no_lower x y h same =
    let e : slice_cmp nat_cmp x.name y.name ≡ Equal = ap (slice_cmp nat_cmp x.name) (sym same) ∙ tied_itself nat_list_cmp_total x.name in
    not_over x.height y.height (sym (ap (λ (r : Ordering). is_gt (ordering_then r (nat_cmp x.height y.height))) e) ∙ h)

name_up_to : (x y : RoleHeight) → IsUpTo x y → is_gt (slice_cmp nat_cmp x.name y.name) ≡ false
name_up_to x y h = first_not_above (slice_cmp nat_cmp x.name y.name) (nat_cmp x.height y.height) h

-- What stands between entries of one name is of that name.
between : (x y z : RoleHeight) → IsUpTo x y → IsUpTo y z → z.name ≡ x.name → y.name ≡ x.name
between x y z h k same =
    let up : is_gt (slice_cmp nat_cmp x.name y.name) ≡ false = name_up_to x y h in
    let down : is_gt (slice_cmp nat_cmp y.name x.name) ≡ false = sym (ap (λ (n : List ℕ). is_gt (slice_cmp nat_cmp y.name n)) same) ∙ name_up_to y z k in
    sym (exact_bytes x.name y.name (tied (slice_cmp nat_cmp x.name y.name) (slice_cmp nat_cmp y.name x.name) (nat_list_cmp_total.antisymm x.name y.name) up down))

-- ---- how many there are behind an entry

itself_and_rest : (x : RoleHeight) (xs : List RoleHeight) → AllOf (IsUpTo x) xs → AllOf (IsUpTo x) (x ∷ xs)
itself_and_rest x xs up = one_or_rest (IsUpTo x) x xs (none_above_itself by_name_and_height total_order x) up

counts_once : (x : RoleHeight) → unit x.name x.height x ≡ 1
counts_once x = ap (λ (b : Bool). cond b 1 0) (as_high x.name x.height x refl (let l : x.height ≤ x.height = omega arith in l))

at_most_one : (name : List ℕ) (height : ℕ) (x : RoleHeight) → unit name height x ≤ 1
at_most_one name height x = fewer (is_as_high name height x) true (λ e. refl)

-- Of greater heights there are no more.
fewer_higher : (name : List ℕ) (low high : ℕ) (xs : List RoleHeight) → low ≤ high → sum_of (unit name high) xs ≤ sum_of (unit name low) xs
fewer_higher name low high xs le =
    sum_no_more (unit name high) (unit name low) xs (λ x p. fewer (is_as_high name high x) (is_as_high name low x)
    (λ e. let h = high_parts name high x e in as_high name low x h.0 (let l : high ≤ x.height = h.1 in let m : low ≤ x.height = omega (arith, le, l) in m)))

-- All that are of an entry's name and not below it are as high.
as_many_higher : (x : RoleHeight) (low high : ℕ) (xs : List RoleHeight) → AllOf (IsUpTo x) xs → high ≤ x.height → sum_of (unit x.name low) xs ≤ sum_of (unit x.name high) xs
as_many_higher x low high xs up le =
    sum_no_more (unit x.name low) (unit x.name high) xs (λ y p. fewer (is_as_high x.name low y) (is_as_high x.name high y)
    (λ e. let h = high_parts x.name low y e in as_high x.name high y h.0 (let l : x.height ≤ y.height = no_lower x y (up y p) (sym h.0) in let m : high ≤ y.height = omega (arith, le, l) in m)))

-- Behind a later entry of another name there are none of an earlier one's.
none_of_name : (x y : RoleHeight) (height : ℕ) (ys : List RoleHeight) → IsUpTo x y → y.name ≢ x.name → AllOf (IsUpTo y) ys → sum_of (unit x.name height) ys ≡ 0
none_of_name x y height ys le other up =
    sum_zero (unit x.name height) ys (λ z p. none_if (is_as_high x.name height z) (λ e. other (between x y z le (up z p) (high_parts x.name height z e).0)))

-- ---- one step of the pass

module _ (x y : RoleHeight) (xs ys : List RoleHeight) (later : AllOf (IsUpTo y) ys) (from_one : 1 ≤ x.height) (all : NoMore (x ∷ xs) (y ∷ ys)) where
  -- Where the first entry has found one, both are left behind.
  both_behind : is_as_high x.name x.height y ≡ true → NoMore xs ys
  both_behind found name height l = by (is_as_high name height x) (is_as_high name height y) refl refl
    where
      whole : unit name height x + sum_of (unit name height) xs ≤ unit name height y + sum_of (unit name height) ys
      whole = all name height l

      by : (b c : Bool) → is_as_high name height x ≡ b → is_as_high name height y ≡ c → sum_of (unit name height) xs ≤ sum_of (unit name height) ys
      by b false e d = let none : unit name height y ≡ 0 = ap (λ (c : Bool). cond c 1 0) d in let w = whole in omega (arith, w, none)
      by true true e d =
          let one : unit name height x ≡ 1 = ap (λ (c : Bool). cond c 1 0) e in
          let most : unit name height y ≤ 1 = at_most_one name height y in
          let w = whole in
          omega (arith, w, one, most)
      by false true e d =
          let high = high_parts name height y d in
          let same = (high_parts x.name x.height y found).0 in
          let low : x.height ≤ height = under same high.0 (cases_lt x.height height) in
          let lower : unit x.name x.height x + sum_of (unit x.name x.height) xs ≤ unit x.name x.height y + sum_of (unit x.name x.height) ys = all x.name x.height from_one in
          let own : unit x.name x.height x ≡ 1 = counts_once x in
          let most : unit x.name x.height y ≤ 1 = at_most_one x.name x.height y in
          let fewer_here : sum_of (unit x.name height) xs ≤ sum_of (unit x.name x.height) xs = fewer_higher x.name x.height height xs low in
          let more_there : sum_of (unit y.name x.height) ys ≤ sum_of (unit y.name height) ys = as_many_higher y x.height height ys later high.1 in
          let turned : sum_of (unit x.name x.height) ys ≤ sum_of (unit x.name height) ys = subst (λ (n : List ℕ). sum_of (unit n x.height) ys ≤ sum_of (unit n height) ys) same more_there in
          subst (λ (n : List ℕ). sum_of (unit n height) xs ≤ sum_of (unit n height) ys) (sym same ∙ high.0) (let m : sum_of (unit x.name height) xs ≤ sum_of (unit x.name height) ys = omega (arith, lower, own, most, fewer_here, turned) in m)
        where
          under : y.name ≡ x.name → y.name ≡ name → (x.height < height) ⊎ (height ≤ x.height) → x.height ≤ height
          under same its (inl m) = omega (arith, m)
          under same its (inr m) = absurd (let t : is_as_high name height x ≡ true = as_high name height x (sym same ∙ its) m in let b : false ≡ true = sym e ∙ t in cc)

  -- Where it has not, the other is.
  other_behind : AllOf (IsUpTo x) xs → is_as_high x.name x.height y ≡ false → NoMore (x ∷ xs) ys
  other_behind up missed name height l = by (is_as_high name height y) refl
    where
      whole : sum_of (unit name height) (x ∷ xs) ≤ unit name height y + sum_of (unit name height) ys
      whole = all name height l

      -- of one name, and too low
      lower : y.name ≡ x.name → y.name ≡ name → height ≤ y.height → (y.height < x.height) ⊎ (x.height ≤ y.height) → sum_of (unit name height) (x ∷ xs) ≤ sum_of (unit name height) ys
      lower same its le (inr m) = absurd (let t : is_as_high x.name x.height y ≡ true = as_high x.name x.height y same m in let b : false ≡ true = sym missed ∙ t in cc)
      lower same its le (inl m) =
          let above : ℕ = suc y.height in
          let over : sum_of (unit name above) (x ∷ xs) ≤ unit name above y + sum_of (unit name above) ys = all name above (omega arith) in
          let none : unit name above y ≡ 0 = none_if (is_as_high name above y) (λ e. let n : above ≤ y.height = (high_parts name above y e).1 in omega (arith, n)) in
          let mine : sum_of (unit x.name height) (x ∷ xs) ≤ sum_of (unit x.name above) (x ∷ xs) = as_many_higher x height above (x ∷ xs) (itself_and_rest x xs up) (omega (arith, m)) in
          let here_too : sum_of (unit name height) (x ∷ xs) ≤ sum_of (unit name above) (x ∷ xs) = subst (λ (n : List ℕ). sum_of (unit n height) (x ∷ xs) ≤ sum_of (unit n above) (x ∷ xs)) (sym same ∙ its) mine in
          let there_too : sum_of (unit name above) ys ≤ sum_of (unit name height) ys = fewer_higher name height above ys (omega (arith, le)) in
          omega (arith, over, none, here_too, there_too)

      -- of another name
      elsewhere : y.name ≢ x.name → y.name ≡ name → (b : Bool) → is_gt (by_name_and_height x y) ≡ b → sum_of (unit name height) (x ∷ xs) ≤ sum_of (unit name height) ys
      elsewhere other its false e =
          let none : sum_of (unit x.name x.height) (y ∷ ys) ≡ 0 = none_of_name x y x.height (y ∷ ys) e other (itself_and_rest y ys later) in
          let own : unit x.name x.height x ≡ 1 = counts_once x in
          let some : unit x.name x.height x + sum_of (unit x.name x.height) xs ≤ sum_of (unit x.name x.height) (y ∷ ys) = all x.name x.height from_one in
          absurd (omega (arith, none, own, some))
      elsewhere other its true e =
          let back : IsUpTo y x = other_way by_name_and_height total_order x y e in
          let none : sum_of (unit y.name height) (x ∷ xs) ≡ 0 = none_of_name y x height (x ∷ xs) back (λ same. other (sym same)) (itself_and_rest x xs up) in
          let no_one : sum_of (unit name height) (x ∷ xs) ≡ 0 = ap (λ (n : List ℕ). sum_of (unit n height) (x ∷ xs)) (sym its) ∙ none in
          omega (arith, no_one)

      of_name : y.name ≡ name → height ≤ y.height → (b : Bool) → same_text y.name x.name ≡ b → sum_of (unit name height) (x ∷ xs) ≤ sum_of (unit name height) ys
      of_name its le true e = lower (text_is y.name x.name e) its le (cases_lt y.height x.height)
      of_name its le false e = elsewhere (λ same. let b : false ≡ true = sym e ∙ is_text y.name x.name same in absurd (cc)) its (is_gt (by_name_and_height x y)) refl

      by : (b : Bool) → is_as_high name height y ≡ b → sum_of (unit name height) (x ∷ xs) ≤ sum_of (unit name height) ys
      by false d = let none : unit name height y ≡ 0 = ap (λ (c : Bool). cond c 1 0) d in let w = whole in omega (arith, w, none)
      by true d = let high = high_parts name height y d in of_name high.0 high.1 (same_text y.name x.name) refl

-- ---- the whole pass

found_counts : (name : List ℕ) (height : ℕ) (x y : RoleHeight) → is_as_high x.name x.height y ≡ true → unit name height x ≤ unit name height y
found_counts name height x y found =
    fewer (is_as_high name height x) (is_as_high name height y)
    (λ e. let h = high_parts name height x e in let g = high_parts x.name x.height y found in
    as_high name height y (g.0 ∙ h.0) (let l : height ≤ x.height = h.1 in let m : x.height ≤ y.height = g.1 in let n : height ≤ y.height = omega (arith, l, m) in n))

found_no_more : (xs ys : List RoleHeight) → find_in_turn xs ys ≡ true → (name : List ℕ) (height : ℕ) → sum_of (unit name height) xs ≤ sum_of (unit name height) ys
found_no_more [] ys e name height = omega arith
found_no_more (x ∷ xs) [] e name height = absurd (let b : false ≡ true = e in cc)
found_no_more (x ∷ xs) (y ∷ ys) e name height =
    by (λ t. found_no_more xs ys t name height) (λ t. found_no_more (x ∷ xs) ys t name height) (is_as_high x.name x.height y) refl e
  where
    by : (find_in_turn xs ys ≡ true → sum_of (unit name height) xs ≤ sum_of (unit name height) ys) → (find_in_turn (x ∷ xs) ys ≡ true → sum_of (unit name height) (x ∷ xs) ≤ sum_of (unit name height) ys) →
        (b : Bool) → is_as_high x.name x.height y ≡ b → (if b then find_in_turn xs ys else find_in_turn (x ∷ xs) ys) ≡ true → sum_of (unit name height) (x ∷ xs) ≤ sum_of (unit name height) (y ∷ ys)
    by rest more true found t = let l = rest t in let m = found_counts name height x y found in omega (arith, l, m)
    by rest more false missed t = let l : unit name height x + sum_of (unit name height) xs ≤ sum_of (unit name height) ys = more t in omega (arith, l)

room_is_found : (xs ys : List RoleHeight) → IsAscending by_name_and_height xs → IsAscending by_name_and_height ys → AllOf (λ x. 1 ≤ x.height) xs → NoMore xs ys → find_in_turn xs ys ≡ true
room_is_found [] ys up vp low all = refl
room_is_found (x ∷ xs) [] up vp low all =
    let own : unit x.name x.height x ≡ 1 = counts_once x in
    let some : unit x.name x.height x + sum_of (unit x.name x.height) xs ≤ 0 = all x.name x.height (low x here) in
    absurd (omega (arith, own, some))
room_is_found (x ∷ xs) (y ∷ ys) up vp low all =
    by (λ h. room_is_found xs ys up.1 vp.1 (λ z p. low z (there p)) h) (λ h. room_is_found (x ∷ xs) ys up vp.1 low h) (is_as_high x.name x.height y) refl
  where
    by : (NoMore xs ys → find_in_turn xs ys ≡ true) → (NoMore (x ∷ xs) ys → find_in_turn (x ∷ xs) ys ≡ true) →
        (b : Bool) → is_as_high x.name x.height y ≡ b → (if b then find_in_turn xs ys else find_in_turn (x ∷ xs) ys) ≡ true
    by rest more true found = rest (both_behind x y xs ys vp.0 (low x here) all found)
    by rest more false missed = more (other_behind x y xs ys vp.0 (low x here) all up.0 missed)

-- At the end of the pass each has found one if none is left.
pub pass_ends : (left others : List RoleHeight) (flag : Bool) → others ≡ [] → flag ≡ (length left == 0) → flag ≡ find_in_turn left others
pass_ends [] others flag none is = is
pass_ends (x ∷ xs) others flag none is =
    is ∙ (false_from_ne_true (length (x ∷ xs) == 0) (λ e. let n : length (x ∷ xs) ≡ 0 = eqb-true (length (x ∷ xs)) 0 e in omega (arith, n)) ∙ ap (find_in_turn (x ∷ xs)) (sym none))

-- Of fingerprints the pass tells whether the first has no more.
pub found_exactly : (xs ys : List RoleHeight) → IsInOrder xs → IsInOrder ys → (flag : Bool) → flag ≡ find_in_turn xs ys → (flag ≡ true) ↔ HaveNoMore xs ys
found_exactly xs ys in_order other flag is = (
  λ e. by_counts xs ys (λ name height l. found_no_more xs ys (sym is ∙ e) name height),
  λ h. is ∙ room_is_found xs ys in_order.ascending other.ascending in_order.from_one (by_sums xs ys h),
)
