-- Places of distinct keys.
use Rattle.std.proofs.Common.{◌≡◌, ◌<◌, ◌+◌, ℕ, zero, suc, Bool, true, false, not, cond, List, [], ◌∷◌, length, position, slice_get, Option, Some, None, IfSome, nat_lt, refl, sym, ap, ◌∙◌, subst, true≢false, arith, ltb-true}
use Rattle.std.specs.Cmp.{IsEquivalence}
use Rattle.std.specs.List.{IsDistinct, AllByRecursion, position_or_len}
use Rattle.std.proofs.lemmas.Map.Keys.{IsDistinct-head, IsDistinct-tail}

-- where the first key that passes a test stands, a key stands that passes it
module _ {K : Type 0} (test : K → Bool) where
  passed : (keys : List K) → position_or_len test keys < length keys → (x : K) × (slice_get keys (position_or_len test keys) ≡ Some x) × (test x ≡ true)
  passed [] below = absurd (omega (arith, below))
  passed (k ∷ ks) below = by (passed ks) (test k) refl
    where
      by : (position_or_len test ks < length ks → (x : K) × (slice_get ks (position_or_len test ks) ≡ Some x) × (test x ≡ true)) → (b : Bool) → test k ≡ b → (x : K) × (slice_get (k ∷ ks) (position_or_len test (k ∷ ks)) ≡ Some x) × (test x ≡ true)
      by rest true e =
          let at : position_or_len test (k ∷ ks) ≡ 0 = ap (λ (c : Bool). cond (not c) (1 + position_or_len test ks) 0) e in
          (k, ap (slice_get (k ∷ ks)) at, e)
      by rest false e =
          let at : position_or_len test (k ∷ ks) ≡ 1 + position_or_len test ks = ap (λ (c : Bool). cond (not c) (1 + position_or_len test ks) 0) e in
          let at' : position_or_len test (k ∷ ks) ≡ suc (position_or_len test ks) = omega (arith, at) in
          let h = rest (omega (arith, at', below)) in
          (h.0, ap (slice_get (k ∷ ks)) at' ∙ h.1, h.2)

  pub found_passes : (keys : List K) (r : Option ℕ) → r ≡ position test keys → IfSome r (λ i. (x : K) × (slice_get keys i ≡ Some x) × (test x ≡ true))
  found_passes keys r is = subst (λ o. IfSome o (λ i. (x : K) × (slice_get keys i ≡ Some x) × (test x ≡ true))) (sym is) (by (nat_lt (position_or_len test keys) (length keys)) refl)
    where
      by : (b : Bool) → nat_lt (position_or_len test keys) (length keys) ≡ b → IfSome (cond b (Some (position_or_len test keys)) None) (λ i. (x : K) × (slice_get keys i ≡ Some x) × (test x ≡ true))
      by true e = passed keys (ltb-true (position_or_len test keys) (length keys) e)
      by false e = tt

-- none of these keys is equal to k
apart : {K : Type 0} (eq : K → K → Bool) (k : K) (ks : List K) (i : ℕ) (x : K) → AllByRecursion (λ y. eq k y ≡ false) ks → slice_get ks i ≡ Some x → eq k x ≡ false
apart eq k [] i x all at = absurd (cc)
apart eq k (y ∷ ys) zero x all at =
    let p : y ≡ x = cc in
    subst (λ z. eq k z ≡ false) p all.0
apart eq k (y ∷ ys) (suc i) x all at = apart eq k ys i x all.1 at

module _ {K : Type 0} (eq : K → K → Bool) (laws : IsEquivalence eq) where
  -- equal keys have one place
  one_place : (keys : List K) (i j : ℕ) (x y : K) → IsDistinct eq keys → slice_get keys i ≡ Some x → slice_get keys j ≡ Some y → eq x y ≡ true → i ≡ j
  one_place [] i j x y d at at' e = absurd (cc)
  one_place (k ∷ ks) zero zero x y d at at' e = refl
  one_place (k ∷ ks) zero (suc j) x y d at at' e =
      let p : k ≡ x = cc in
      absurd (true≢false (sym e ∙ sym (ap (λ z. eq z y) p) ∙ apart eq k ks j y (IsDistinct-head eq k ks d) at'))
  one_place (k ∷ ks) (suc i) zero x y d at at' e =
      let p : k ≡ y = cc in
      absurd (true≢false (sym e ∙ laws.symm x y ∙ sym (ap (λ z. eq z x) p) ∙ apart eq k ks i x (IsDistinct-head eq k ks d) at))
  one_place (k ∷ ks) (suc i) (suc j) x y d at at' e = ap suc (one_place ks i j x y (IsDistinct-tail eq k ks d) at at' e)

  -- one place has one key
  one_key : (keys : List K) (i j : ℕ) (x y : K) → slice_get keys i ≡ Some x → slice_get keys j ≡ Some y → i ≡ j → eq x y ≡ true
  one_key keys i j x y at at' e =
      let p : slice_get keys i ≡ Some y = ap (slice_get keys) e ∙ at' in
      let q : x ≡ y = cc in
      subst (λ z. eq x z ≡ true) q (laws.refl x)

  pub same_places : (keys : List K) (i j : ℕ) (x y : K) → IsDistinct eq keys → slice_get keys i ≡ Some x → slice_get keys j ≡ Some y → (i ≡ j → eq x y ≡ true) × (eq x y ≡ true → i ≡ j)
  same_places keys i j x y d at at' = (one_key keys i j x y at at', one_place keys i j x y d at at')
