-- Sorted lists: which items they have, and that there is one for given items.
use Rattle.std.proofs.Common.{◌≡◌, ℕ, suc, ◌+◌, ◌<◌, ◌≤◌, Bool, true, false, if◌then◌else◌, cond, List, [], ◌∷◌, length, get_or, refl, sym, ap, ap₂, ◌∙◌, subst, arith, Ordering, Less, Equal, Greater}
use Rattle.std.specs.Prelude.{sum_by}
use Rattle.std.specs.Cmp.{IsTotalOrder}
use Rattle.std.specs.Ordering.{is_lt, is_eq, is_gt, ordering_reverse}
use Rattle.std.specs.List.Sorted.{IsPermutation, IsSortedBy}
use Rattle.std.proofs.lemmas.Cmp.{upto, tied_itself}
use Rattle.std.proofs.lemmas.List.Recursion.{is_sum_by}
use Rattle.std.proofs.lemmas.List.Sorted.{sorted_far, ranks_by, sum_by-IsPermutation}
use Rattle.std.proofs.lemmas.Map.Lookups.{CmpEqualImpliesEq}
use Rattle.cp_lists.specs.Lists.{IsIn, here, there}
use Rattle.cp_fingerprint.specs.Sorted.{put_in, sorted_by, IsAscending}
use Rattle.cp_fingerprint.proofs.Listed.{AllOf, one_or_rest}
use Rattle.cp_fingerprint.proofs.StrandSums.{sum_of}

-- ---- two answers, the one of which is the other turned round

not_above : (r s : Ordering) → r ≡ ordering_reverse s → is_gt s ≡ true → is_gt r ≡ false
not_above r Less e h = absurd (let b : false ≡ true = h in cc)
not_above r Equal e h = absurd (let b : false ≡ true = h in cc)
not_above r Greater e h = ap is_gt e

not_below : (r s : Ordering) → r ≡ ordering_reverse s → is_lt s ≡ false → is_gt r ≡ false
not_below r Less e h = absurd (let b : true ≡ false = h in cc)
not_below r Equal e h = ap is_gt e
not_below r Greater e h = ap is_gt e

pub tied : (r s : Ordering) → r ≡ ordering_reverse s → is_gt r ≡ false → is_gt s ≡ false → r ≡ Equal
tied r Less e h k = absurd (let b : true ≡ false = sym (ap is_gt e) ∙ h in cc)
tied r Equal e h k = e
tied r Greater e h k = absurd (let b : true ≡ false = k in cc)

pub is_equal : (r : Ordering) → is_eq r ≡ true → r ≡ Equal
is_equal Less h = absurd (let b : false ≡ true = h in cc)
is_equal Equal h = refl
is_equal Greater h = absurd (let b : false ≡ true = h in cc)

-- 1 for the item itself.
abbrev pub one_of : {A : Type 0} → (A → A → Ordering) → A → A → ℕ
one_of order z x = cond (is_eq (order z x)) 1 0

-- ---- the items of a sorted list

module _ {A : Type 0} (order : A → A → Ordering) where
  put_sum : (w : A → ℕ) (x : A) (ys : List A) → sum_of w (put_in order x ys) ≡ w x + sum_of w ys
  put_sum w x [] = refl
  put_sum w x (y ∷ ys) = by (put_sum w x ys) (is_gt (order x y))
    where
      by : sum_of w (put_in order x ys) ≡ w x + sum_of w ys → (b : Bool) → sum_of w (if b then y ∷ put_in order x ys else x ∷ (y ∷ ys)) ≡ w x + (w y + sum_of w ys)
      by h true = omega (arith, h)
      by h false = refl

  -- A sum over the items is that over the same in order.
  pub sorted_sum : (w : A → ℕ) (xs : List A) → sum_of w (sorted_by order xs) ≡ sum_of w xs
  sorted_sum w [] = refl
  sorted_sum w (x ∷ xs) = put_sum w x (sorted_by order xs) ∙ ap (λ (n : ℕ). w x + n) (sorted_sum w xs)

  module _ (fact : A → Type 0) where
    put_all : (x : A) (ys : List A) → fact x → AllOf fact ys → AllOf fact (put_in order x ys)
    put_all x [] h all = one_or_rest fact x [] h all
    put_all x (y ∷ ys) h all = by (put_all x ys h (λ z p. all z (there p))) (is_gt (order x y))
      where
        by : AllOf fact (put_in order x ys) → (b : Bool) → AllOf fact (if b then y ∷ put_in order x ys else x ∷ (y ∷ ys))
        by rest true = one_or_rest fact y (put_in order x ys) (all y here) rest
        by rest false = one_or_rest fact x (y ∷ ys) h all

    -- What holds of each item holds of each in order.
    pub sorted_all : (xs : List A) → AllOf fact xs → AllOf fact (sorted_by order xs)
    sorted_all [] all = all
    sorted_all (x ∷ xs) all = put_all x (sorted_by order xs) (all x here) (sorted_all xs (λ z p. all z (there p)))

  module _ (total : IsTotalOrder order) where
    pub none_above_itself : (x : A) → is_gt (order x x) ≡ false
    none_above_itself x = ap is_gt (tied_itself total x)

    pub other_way : (x y : A) → is_gt (order x y) ≡ true → is_gt (order y x) ≡ false
    other_way x y h = not_above (order y x) (order x y) (total.antisymm y x) h

    put_ascends : (x : A) (ys : List A) → IsAscending order ys → IsAscending order (put_in order x ys)
    put_ascends x [] up = ((λ z p. elim p [ ]), tt)
    put_ascends x (y ∷ ys) up = by (put_ascends x ys up.1) (is_gt (order x y)) refl
      where
        by : IsAscending order (put_in order x ys) → (b : Bool) → is_gt (order x y) ≡ b → IsAscending order (if b then y ∷ put_in order x ys else x ∷ (y ∷ ys))
        by rest true e = (put_all (λ z. is_gt (order y z) ≡ false) x ys (other_way x y e) up.0, rest)
        by rest false e = (one_or_rest (λ z. is_gt (order x z) ≡ false) y ys e (λ z p. upto total x y z e (up.0 z p)), up)

    pub sorted_ascends : (xs : List A) → IsAscending order (sorted_by order xs)
    sorted_ascends [] = tt
    sorted_ascends (x ∷ xs) = put_ascends x (sorted_by order xs) (sorted_ascends xs)

    -- ---- one list in order for each count of items

    module _ (exact : CmpEqualImpliesEq order) where
      one_itself : (x : A) → one_of order x x ≡ 1
      one_itself x = ap (λ (r : Ordering). cond (is_eq r) 1 0) (tied_itself total x)

      counted_in : (z : A) (ys : List A) → 1 ≤ sum_of (one_of order z) ys → IsIn z ys
      counted_in z [] l = absurd (omega (arith, l))
      counted_in z (y ∷ ys) l = by (counted_in z ys) (is_eq (order z y)) refl
        where
          by : (1 ≤ sum_of (one_of order z) ys → IsIn z ys) → (b : Bool) → is_eq (order z y) ≡ b → IsIn z (y ∷ ys)
          by rest true e = subst (λ (x : A). IsIn z (x ∷ ys)) (exact z y (is_equal (order z y) e)) here
          by rest false e =
              let n : one_of order z y ≡ 0 = ap (λ (b : Bool). cond b 1 0) e in
              there (rest (let m : 1 ≤ sum_of (one_of order z) ys = omega (arith, l, n) in m))

      least : (x y : A) (ys : List A) → IsAscending order (y ∷ ys) → 1 ≤ sum_of (one_of order x) (y ∷ ys) → is_gt (order y x) ≡ false
      least x y ys up l = one_or_rest (λ z. is_gt (order y z) ≡ false) y ys (none_above_itself y) up.0 x (counted_in x (y ∷ ys) l)

      pub same_items : (xs ys : List A) → IsAscending order xs → IsAscending order ys → ((z : A) → sum_of (one_of order z) xs ≡ sum_of (one_of order z) ys) → xs ≡ ys
      same_items [] [] up vp same = refl
      same_items [] (y ∷ ys) up vp same = absurd (let n = one_itself y in let e : 0 ≡ one_of order y y + sum_of (one_of order y) ys = same y in omega (arith, n, e))
      same_items (x ∷ xs) [] up vp same = absurd (let n = one_itself x in let e : one_of order x x + sum_of (one_of order x) xs ≡ 0 = same x in omega (arith, n, e))
      same_items (x ∷ xs) (y ∷ ys) up vp same =
          let own : one_of order x x ≡ 1 = one_itself x in
          let their : one_of order y y ≡ 1 = one_itself y in
          let here_too : one_of order x x + sum_of (one_of order x) xs ≡ sum_of (one_of order x) (y ∷ ys) = same x in
          let there_too : sum_of (one_of order y) (x ∷ xs) ≡ one_of order y y + sum_of (one_of order y) ys = same y in
          let low : is_gt (order y x) ≡ false = least x y ys vp (let l : 1 ≤ sum_of (one_of order x) (y ∷ ys) = omega (arith, own, here_too) in l) in
          let high : is_gt (order x y) ≡ false = least y x xs up (let l : 1 ≤ sum_of (one_of order y) (x ∷ xs) = omega (arith, their, there_too) in l) in
          let first : x ≡ y = exact x y (tied (order x y) (order y x) (total.antisymm x y) high low) in
          let rest : xs ≡ ys = same_items xs ys up.1 vp.1 (left first) in
          ap₂ (λ (z : A) (zs : List A). z ∷ zs) first rest
        where
          left : x ≡ y → (z : A) → sum_of (one_of order z) xs ≡ sum_of (one_of order z) ys
          left first z =
              let one : one_of order z x ≡ one_of order z y = ap (one_of order z) first in
              let all : one_of order z x + sum_of (one_of order z) xs ≡ one_of order z y + sum_of (one_of order z) ys = same z in
              omega (arith, one, all)

      -- ---- what a sort leaves

      above : (z : A) (zs : List A) → ((j : ℕ) (d : A) → j < length zs → is_lt (order (get_or zs j d) z) ≡ false) → AllOf (λ y. is_gt (order z y) ≡ false) zs
      above z [] far = λ y p. elim p [ ]
      above z (y ∷ zs) far =
          one_or_rest (λ x. is_gt (order z x) ≡ false) y zs (not_below (order z y) (order y z) (total.antisymm z y) (far 0 y (omega arith)))
          (above z zs (λ j d l. far (suc j) d (omega (arith, l))))

      rises : (zs : List A) → ((i j : ℕ) (d : A) → i ≤ j → j < length zs → is_lt (order (get_or zs j d) (get_or zs i d)) ≡ false) → IsAscending order zs
      rises [] far = tt
      rises (z ∷ zs) far = (above z zs (λ j d l. far 0 (suc j) d (omega arith) (omega (arith, l))), rises zs (λ i j d le l. far (suc i) (suc j) d (omega (arith, le)) (omega (arith, l))))

      -- The same items in order are the sorted list.
      pub is_sorted : (xs zs : List A) → IsPermutation xs zs → IsSortedBy (λ x y. is_lt (order x y)) zs → zs ≡ sorted_by order xs
      is_sorted xs zs moved up =
          same_items zs (sorted_by order xs) (rises zs (sorted_far (λ x y. is_lt (order x y)) (ranks_by total (λ x. x)) zs up)) (sorted_ascends xs) same
        where
          all_by : (z : A) (ws : List A) → sum_of (one_of order z) ws ≡ sum_by (one_of order z) ws
          all_by z ws = is_sum_by (sum_of (one_of order z)) (one_of order z) refl (λ _ _. refl) ws

          same : (z : A) → sum_of (one_of order z) zs ≡ sum_of (one_of order z) (sorted_by order xs)
          same z = all_by z zs ∙ (sum_by-IsPermutation (one_of order z) xs zs moved ∙ (sym (all_by z xs) ∙ sym (sorted_sum (one_of order z) xs)))
