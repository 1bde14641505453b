-- Where a value stands among some values.
use Rattle.std.proofs.Common.{◌≡◌, ◌<◌, ◌≤◌, ◌+◌, ◌-◌, ◌^◌, ℕ, zero, suc, Bool, true, false, not, cond, List, [], ◌∷◌, ◌++◌, map, take, drop, get_or, length, slice_get, refl, sym, ap, ◌∙◌, subst, arith, ◌⊎◌, inl, inr, ◌↔◌}
use Rattle.std.specs.Prelude.{Some, None, IsTrue, position, nat_lt}
use Rattle.std.specs.List.{position_or_len}
use Rattle.std.proofs.lemmas.Bool.{ltb-false, cases_lt}
use Rattle.std.proofs.lemmas.List.{drop_all, length-map, get_or-map, take-append-drop, drop-append-le, length-drop}
use Rattle.std.proofs.Math.Nat.{min-eq_left}
use Rattle.cp_lists.proofs.Members.{drop_read}
use Rattle.cp_model.specs.Term.{Term}
use Rattle.cp_model.specs.Same.{same_term}
use Rattle.cp_model.proofs.SameTests.{term_is, is_term}
use Rattle.cp_fingerprint.specs.Values.{IsPlaceOf, IsAbsent}
use Rattle.cp_fingerprint.specs.SharedValues.{kept}
use Rattle.cp_fingerprint.specs.declared.sums.ValueSum.{ValueSum}

-- ---- the first place of a value, by the number of values that come before

place_here : (t u : Term) (us : List Term) → same_term t u ≡ true → position_or_len (same_term t) (u ∷ us) ≡ 0
place_here t u us e = ap (λ (c : Bool). cond (not c) (1 + position_or_len (same_term t) us) 0) e

place_later : (t u : Term) (us : List Term) → same_term t u ≡ false → position_or_len (same_term t) (u ∷ us) ≡ suc (position_or_len (same_term t) us)
place_later t u us e =
    let h : position_or_len (same_term t) (u ∷ us) ≡ 1 + position_or_len (same_term t) us = ap (λ (c : Bool). cond (not c) (1 + position_or_len (same_term t) us) 0) e in
    omega (arith, h)

first_at : (t : Term) (us : List Term) (i : ℕ) → i ≡ position_or_len (same_term t) us → i < length us → IsPlaceOf t us i
first_at t [] i is below = omega (arith, below)
first_at t (u ∷ us) i is below = by (first_at t us) i is below (same_term t u) refl
  where
    by : ((j : ℕ) → j ≡ position_or_len (same_term t) us → j < length us → IsPlaceOf t us j) → (j : ℕ) → j ≡ position_or_len (same_term t) (u ∷ us) → j < length (u ∷ us) → (b : Bool) → same_term t u ≡ b →
        IsPlaceOf t (u ∷ us) j
    by rest zero at l true e = e
    by rest (suc j) at l true e = let h = place_here t u us e in absurd (omega (arith, h, at))
    by rest zero at l false e = let h = place_later t u us e in absurd (omega (arith, h, at))
    by rest (suc j) at l false e = let h = place_later t u us e in (e, rest j (omega (arith, h, at)) (omega (arith, l)))

absent_at : (t : Term) (us : List Term) → length us ≤ position_or_len (same_term t) us → IsAbsent t us
absent_at t [] past = tt
absent_at t (u ∷ us) past = by (absent_at t us) (same_term t u) refl
  where
    by : (length us ≤ position_or_len (same_term t) us → IsAbsent t us) → (b : Bool) → same_term t u ≡ b → IsAbsent t (u ∷ us)
    by rest true e = let h = place_here t u us e in absurd (omega (arith, h, past))
    by rest false e = let h = place_later t u us e in (e, rest (omega (arith, h, past)))

placed : (test : Term → Bool) (us : List Term) (i : ℕ) → Some i ≡ position test us → i ≡ position_or_len test us
placed test us i e = by (nat_lt (position_or_len test us) (length us)) e
  where
    by : (b : Bool) → Some i ≡ cond b (Some (position_or_len test us)) None → i ≡ position_or_len test us
    by true h = cc
    by false h = absurd (cc)

unplaced : (test : Term → Bool) (us : List Term) → None ≡ position test us → length us ≤ position_or_len test us
unplaced test us e = by (nat_lt (position_or_len test us) (length us)) refl e
  where
    by : (b : Bool) → nat_lt (position_or_len test us) (length us) ≡ b → None ≡ cond b (Some (position_or_len test us)) None → length us ≤ position_or_len test us
    by true q h = absurd (let l : None ≡ Some (position_or_len test us) = h in cc)
    by false q h = ltb-false (position_or_len test us) (length us) q

pub first_within : (t : Term) (us : List Term) (i : ℕ) → IsPlaceOf t us i → i < length us
first_within t [] i h = absurd h
first_within t (u ∷ us) zero h = omega arith
first_within t (u ∷ us) (suc i) h = let l = first_within t us i h.1 in omega (arith, l)

item_within : {A : Type 0} (xs : List A) (i : ℕ) (x : A) → slice_get xs i ≡ Some x → i < length xs
item_within [] i x at = absurd (cc)
item_within (y ∷ xs) zero x at = omega arith
item_within (y ∷ xs) (suc i) x at = let h = item_within xs i x at in omega (arith, h)

length_joined : {A : Type 0} (xs ys : List A) → length (xs ++ ys) ≡ length xs + length ys
length_joined [] ys = omega arith
length_joined (x ∷ xs) ys = let h = length_joined xs ys in omega (arith, h)

-- ---- values and further values

first_before : (t : Term) (us vs : List Term) (i : ℕ) → IsPlaceOf t us i → IsPlaceOf t (us ++ vs) i
first_before t [] vs i h = absurd h
first_before t (u ∷ us) vs zero h = h
first_before t (u ∷ us) vs (suc i) h = (h.0, first_before t us vs i h.1)

first_behind : (t : Term) (us vs : List Term) (i : ℕ) → IsAbsent t us → IsPlaceOf t vs i → IsPlaceOf t (us ++ vs) (length us + i)
first_behind t [] vs i none h =
    let same : i ≡ 0 + i = omega arith in
    subst (λ (j : ℕ). IsPlaceOf t vs j) same h
first_behind t (u ∷ us) vs i none h =
    let same : suc (length us + i) ≡ suc (length us) + i = omega arith in
    subst (λ (j : ℕ). IsPlaceOf t (u ∷ (us ++ vs)) j) same (none.0, first_behind t us vs i none.1 h)

absent_in_both : (t : Term) (us vs : List Term) → IsAbsent t us → IsAbsent t vs → IsAbsent t (us ++ vs)
absent_in_both t [] vs none h = h
absent_in_both t (u ∷ us) vs none h = (none.0, absent_in_both t us vs none.1 h)

-- ---- looking for a value

-- What is found behind the first n values is found.
abbrev pub IsStillFound : Term → List Term → ℕ → Type 0
IsStillFound t us n = (IsAbsent t (drop n us) → IsAbsent t us) × ((i : ℕ) → IsPlaceOf t (drop n us) i → IsPlaceOf t us (n + i))

pub begins : (t : Term) (us : List Term) → IsStillFound t us 0
begins t us = (
  λ h. h,
  λ i h.
      let same : i ≡ 0 + i = omega arith in
      subst (λ (j : ℕ). IsPlaceOf t us j) same h,
)

-- The test of the code.
tested : (t u : Term) (b : Bool) → IsTrue b ↔ (u ≡ t) → same_term t u ≡ b
tested t u true e = is_term t u (sym (e.0 refl))
tested t u false e = by (same_term t u) refl
  where
    by : (b : Bool) → same_term t u ≡ b → same_term t u ≡ false
    by true h = absurd (let l : false ≡ true = e.1 (sym (term_is t u h)) in cc)
    by false h = h

goes_on : (t : Term) (us : List Term) (n : ℕ) (u : Term) (b : Bool) → n < length us → u ≡ get_or us n u → IsTrue b ↔ (u ≡ t) → b ≡ false → IsStillFound t us n → IsStillFound t us (n + 1)
goes_on t us n u b l at test is still =
    let e : same_term t u ≡ false = tested t u b test ∙ is in
    let next : drop n us ≡ u ∷ drop (n + 1) us = drop_read us n u l at in (
      λ h. still.0 (subst (λ (xs : List Term). IsAbsent t xs) (sym next) (e, h)),
      λ i h.
          let same : n + suc i ≡ n + 1 + i = omega arith in
          subst (λ (j : ℕ). IsPlaceOf t us j) same (still.1 (suc i) (subst (λ (xs : List Term). IsPlaceOf t xs (suc i)) (sym next) (e, h))),
    )

found_here : (t : Term) (us : List Term) (n : ℕ) (u : Term) (b : Bool) → n < length us → u ≡ get_or us n u → IsTrue b ↔ (u ≡ t) → b ≡ true → IsStillFound t us n → IsPlaceOf t us n
found_here t us n u b l at test is still =
    let e : same_term t u ≡ true = tested t u b test ∙ is in
    let next : drop n us ≡ u ∷ drop (n + 1) us = drop_read us n u l at in
    let same : n + 0 ≡ n = omega arith in
    subst (λ (j : ℕ). IsPlaceOf t us j) same (still.1 0 (subst (λ (xs : List Term). IsPlaceOf t xs 0) (sym next) e))

not_found : (t : Term) (us : List Term) (n : ℕ) → length us ≤ n → IsStillFound t us n → IsAbsent t us
not_found t us n past still = still.0 (subst (λ (xs : List Term). IsAbsent t xs) (sym (drop_all n us past)) tt)

-- The same among values beside sums.
module _ (t : Term) (vs : List ValueSum) (n : ℕ) (v : ValueSum) (b : Bool) (l : n < length vs) (at : v ≡ get_or vs n v) (test : IsTrue b ↔ (v.value ≡ t)) where
  within : n < length (map (λ (w : ValueSum). w.value) vs)
  within = subst (λ (k : ℕ). n < k) (sym (length-map vs (λ (w : ValueSum). w.value))) l

  read : v.value ≡ get_or (map (λ (w : ValueSum). w.value) vs) n v.value
  read = ap (λ (w : ValueSum). w.value) at ∙ sym (get_or-map (λ (w : ValueSum). w.value) vs n v v.value l)

  pub value_passed : b ≡ false → IsStillFound t (map (λ w. w.value) vs) n → IsStillFound t (map (λ w. w.value) vs) (n + 1)
  value_passed is still = goes_on t (map (λ w. w.value) vs) n v.value b within read test is still

  pub value_here : b ≡ true → IsStillFound t (map (λ w. w.value) vs) n → IsPlaceOf t (map (λ w. w.value) vs) n
  value_here is still = found_here t (map (λ w. w.value) vs) n v.value b within read test is still

pub values_passed : (t : Term) (vs : List ValueSum) (n : ℕ) → length vs ≤ n → IsStillFound t (map (λ w. w.value) vs) n → IsAbsent t (map (λ w. w.value) vs)
values_passed t vs n past still = not_found t (map (λ w. w.value) vs) n (subst (λ (k : ℕ). k ≤ n) (sym (length-map vs (λ (w : ValueSum). w.value))) past) still

-- ---- the few values and those of the table

map_of_take : {A B : Type 0} (f : A → B) (n : ℕ) (xs : List A) → map f (take n xs) ≡ take n (map f xs)
map_of_take f zero xs = refl
map_of_take f (suc n) [] = refl
map_of_take f (suc n) (x ∷ xs) = ap (λ ys. f x ∷ ys) (map_of_take f n xs)

module _ (t : Term) (vs : List ValueSum) where
  abbrev all : List Term
  all = map (λ (w : ValueSum). w.value) vs

  abbrev few : List Term
  few = map (λ (w : ValueSum). w.value) (take 16 vs)

  both : few ++ drop 16 all ≡ all
  both = ap (λ (us : List Term). us ++ drop 16 all) (map_of_take (λ (w : ValueSum). w.value) 16 vs) ∙ take-append-drop 16 all

  pub few_found : (i : ℕ) → IsPlaceOf t few i → IsPlaceOf t all i
  few_found i h = subst (λ (us : List Term). IsPlaceOf t us i) both (first_before t few (drop 16 all) i h)

  pub few_within : (i : ℕ) → IsPlaceOf t few i → i < length vs
  few_within i h = subst (λ (k : ℕ). i < k) (length-map vs (λ (w : ValueSum). w.value)) (first_within t all i (few_found i h))

  pub all_few : length vs ≤ 16 → IsAbsent t few → IsAbsent t all
  all_few l absent =
      let long : length all ≤ 16 = subst (λ (k : ℕ). k ≤ 16) (sym (length-map vs (λ (w : ValueSum). w.value))) l in
      subst (λ (us : List Term). IsAbsent t us) both (absent_in_both t few (drop 16 all) absent (subst (λ (us : List Term). IsAbsent t us) (sym (drop_all 16 all long)) tt))

  -- Those that the table has.
  module _ (more : List Term) (rest : more ≡ drop 16 all) (absent : IsAbsent t few) where
    together : few ++ more ≡ all
    together = ap (λ (us : List Term). few ++ us) rest ∙ both

    pub more_unfound : None ≡ position (same_term t) more → IsAbsent t all
    more_unfound is = subst (λ (us : List Term). IsAbsent t us) together (absent_in_both t few more absent (absent_at t more (unplaced (same_term t) more is)))

    module _ (i : ℕ) (is : Some i ≡ position (same_term t) more) (there : slice_get more i ≡ Some t) where
      further : i < length more
      further = item_within more i t there

      sixteen : length few ≡ 16
      sixteen =
          let l = further in
          let left : length more ≡ length all - 16 = ap length rest ∙ length-drop 16 all in
          let long : length (few ++ more) ≡ length few + length more = length_joined few more in
          let whole : length (few ++ more) ≡ length all = ap length together in
          omega (arith, l, left, long, whole)

      more_place : IsPlaceOf t all (16 + i)
      more_place =
          subst (λ (k : ℕ). IsPlaceOf t all (k + i)) sixteen
          (subst (λ (us : List Term). IsPlaceOf t us (length few + i)) together (first_behind t few more i absent (first_at t more i (placed (same_term t) more i is) further)))

      number_of : (n : ℕ) → n ≡ kept (16 + i) → length vs < 2 ^ 63 → n ≡ 16 + i
      number_of n at small =
          let l = first_within t all (16 + i) more_place in
          let long : length all ≡ length vs = length-map vs (λ (w : ValueSum). w.value) in
          at ∙ min-eq_left (let fits : 16 + i ≤ 2 ^ 64 - 1 = omega (arith, l, long, small) in fits)

      pub more_found : (n : ℕ) → n ≡ kept (16 + i) → length vs < 2 ^ 63 → IsPlaceOf t all n
      more_found n at small = subst (λ (k : ℕ). IsPlaceOf t all k) (sym (number_of n at small)) more_place

-- ---- a value is put into the table

place_not_absent : (t : Term) (us : List Term) (i : ℕ) → IsPlaceOf t us i → IsAbsent t us → ⊥
place_not_absent t [] i h none = h
place_not_absent t (u ∷ us) zero h none = let b : true ≡ false = sym h ∙ none.0 in absurd (cc)
place_not_absent t (u ∷ us) (suc i) h none = place_not_absent t us i h.1 none.1

pub put_last : (t : Term) (us vs : List Term) (i : ℕ) → IsAbsent t us → i ≡ position_or_len (same_term t) us → slice_get vs i ≡ Some t → (vs ≡ us) ⊎ (vs ≡ us ++ t ∷ []) → vs ≡ us ++ t ∷ []
put_last t us vs i none is there (inr pushed) = pushed
put_last t us vs i none is there (inl same) =
    let at : slice_get us i ≡ Some t = ap (λ (xs : List Term). slice_get xs i) (sym same) ∙ there in
    absurd (place_not_absent t us i (first_at t us i is (item_within us i t at)) none)

absent_later : (t : Term) (us : List Term) (n : ℕ) → IsAbsent t us → IsAbsent t (drop n us)
absent_later t us zero none = none
absent_later t [] (suc n) none = tt
absent_later t (u ∷ us) (suc n) none = absent_later t us n none.1

-- With one value more the table has those behind the first few.
pub kept_behind : (t : Term) (us old new : List Term) → old ≡ drop 16 us → (length us < 16 → new ≡ old) → (16 ≤ length us → IsAbsent t old → new ≡ old ++ t ∷ []) → IsAbsent t us → new ≡ drop 16 (us ++ t ∷ [])
kept_behind t us old new rest few further none = by (cases_lt (length us) 16)
  where
    by : (length us < 16) ⊎ (16 ≤ length us) → new ≡ drop 16 (us ++ t ∷ [])
    by (inl l) =
        let long = length_joined us (t ∷ []) in
        few l ∙ (rest ∙ (drop_all 16 us (omega (arith, l)) ∙ sym (drop_all 16 (us ++ t ∷ []) (omega (arith, l, long)))))
    by (inr l) =
        further l (subst (λ (xs : List Term). IsAbsent t xs) (sym rest) (absent_later t us 16 none)) ∙ (ap (λ (xs : List Term). xs ++ t ∷ []) rest ∙ sym (drop-append-le 16 us (t ∷ []) l))
