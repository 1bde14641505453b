-- Sums of weights beside values, as places are added.
use Rattle.std.proofs.Common.{◌≡◌, ℕ, zero, suc, ◌+◌, ◌-◌, ◌^◌, ◌<◌, ◌≤◌, Bool, true, false, if◌then◌else◌, List, [], ◌∷◌, ◌++◌, length, map, drop, get_or, set, refl, sym, ap, ◌∙◌, subst, arith, inl, inr}
use Rattle.std.proofs.lemmas.List.{append-nil, append_assoc, length-append, length-map, map-set, map-append, set-get_or, get_or-map}
use Rattle.std.proofs.Math.Nat.{min-eq_left}
use Rattle.cp_model.specs.Term.{Term}
use Rattle.cp_model.specs.Same.{same_term}
use Rattle.cp_model.proofs.SameTests.{term_is, is_term}
use Rattle.cp_fingerprint.specs.SharedValues.{kept, weight_from}
use Rattle.cp_fingerprint.specs.Slots.{Slot}
use Rattle.cp_fingerprint.specs.Values.{IsPlaceOf, IsAbsent, HasEntered}
use Rattle.cp_fingerprint.specs.Weights.{sum_beside, AreNumbered, values_of, sums_of, AreSumsOf, AreAdded}
use Rattle.cp_fingerprint.specs.declared.shares.Place.{Place}
use Rattle.cp_fingerprint.specs.declared.sums.Sums.{Sums}
use Rattle.cp_fingerprint.specs.declared.sums.ValueSum.{ValueSum}
use Rattle.cp_fingerprint.proofs.ValuePlaces.{first_within, kept_behind}
use Rattle.cp_fingerprint.proofs.SharedMore.{weight_with}

-- From the values us with the sums ns to the values vs with the sums ms: if beside each value there was a sum, there is, and each
-- value's sum has grown by the weights of those of these places at which the value stands.
abbrev HaveGrown : List Slot → List Term → List ℕ → List Term → List ℕ → Type 0
HaveGrown slots us ns vs ms = length ns ≡ length us → (length ms ≡ length vs) × ((t : Term) → sum_beside t vs ms ≡ weight_from (sum_beside t us ns) t slots)

-- ---- the sum of a value

sum_absent : (t : Term) (us : List Term) (ns : List ℕ) → IsAbsent t us → sum_beside t us ns ≡ 0
sum_absent t [] ns h = refl
sum_absent t (u ∷ us) [] h = refl
sum_absent t (u ∷ us) (n ∷ ns) h = ap (λ (c : Bool). if c then n else sum_beside t us ns) h.0 ∙ sum_absent t us ns h.1

sum_first : (t : Term) (us : List Term) (ns : List ℕ) (i d : ℕ) → IsPlaceOf t us i → length ns ≡ length us → sum_beside t us ns ≡ get_or ns i d
sum_first t [] ns i d h e = absurd h
sum_first t (u ∷ us) [] i d h e = absurd (omega (arith, e))
sum_first t (u ∷ us) (n ∷ ns) zero d h e = ap (λ (c : Bool). if c then n else sum_beside t us ns) h
sum_first t (u ∷ us) (n ∷ ns) (suc i) d h e = ap (λ (c : Bool). if c then n else sum_beside t us ns) h.0 ∙ sum_first t us ns i d h.1 (omega (arith, e))

set_here : (t : Term) (us : List Term) (ns : List ℕ) (i m : ℕ) → IsPlaceOf t us i → length ns ≡ length us → sum_beside t us (set ns i m) ≡ m
set_here t [] ns i m h e = absurd h
set_here t (u ∷ us) [] i m h e = absurd (omega (arith, e))
set_here t (u ∷ us) (n ∷ ns) zero m h e = ap (λ (c : Bool). if c then m else sum_beside t us ns) h
set_here t (u ∷ us) (n ∷ ns) (suc i) m h e = ap (λ (c : Bool). if c then n else sum_beside t us (set ns i m)) h.0 ∙ set_here t us ns i m h.1 (omega (arith, e))

set_elsewhere : (t s : Term) (us : List Term) (ns : List ℕ) (i m : ℕ) → IsPlaceOf t us i → same_term s t ≡ false → sum_beside s us (set ns i m) ≡ sum_beside s us ns
set_elsewhere t s [] ns i m h other = absurd h
set_elsewhere t s (u ∷ us) [] zero m h other = refl
set_elsewhere t s (u ∷ us) [] (suc i) m h other = refl
set_elsewhere t s (u ∷ us) (n ∷ ns) zero m h other =
    let e : same_term s u ≡ false = subst (λ (x : Term). same_term s x ≡ false) (term_is t u h) other in
    ap (λ (c : Bool). if c then m else sum_beside s us ns) e ∙ sym (ap (λ (c : Bool). if c then n else sum_beside s us ns) e)
set_elsewhere t s (u ∷ us) (n ∷ ns) (suc i) m h other = ap (λ (k : ℕ). if same_term s u then n else k) (set_elsewhere t s us ns i m h.1 other)

push_here : (t : Term) (us : List Term) (ns : List ℕ) (m : ℕ) → IsAbsent t us → length ns ≡ length us → sum_beside t (us ++ t ∷ []) (ns ++ m ∷ []) ≡ m
push_here t [] [] m h e = ap (λ (c : Bool). if c then m else 0) (is_term t t refl)
push_here t [] (n ∷ ns) m h e = absurd (omega (arith, e))
push_here t (u ∷ us) [] m h e = absurd (omega (arith, e))
push_here t (u ∷ us) (n ∷ ns) m h e = ap (λ (c : Bool). if c then n else sum_beside t (us ++ t ∷ []) (ns ++ m ∷ [])) h.0 ∙ push_here t us ns m h.1 (omega (arith, e))

push_elsewhere : (t s : Term) (us : List Term) (ns : List ℕ) (m : ℕ) → same_term s t ≡ false → length ns ≡ length us → sum_beside s (us ++ t ∷ []) (ns ++ m ∷ []) ≡ sum_beside s us ns
push_elsewhere t s [] [] m other e = ap (λ (c : Bool). if c then m else 0) other
push_elsewhere t s [] (n ∷ ns) m other e = absurd (omega (arith, e))
push_elsewhere t s (u ∷ us) [] m other e = absurd (omega (arith, e))
push_elsewhere t s (u ∷ us) (n ∷ ns) m other e = ap (λ (k : ℕ). if same_term s u then n else k) (push_elsewhere t s us ns m other (omega (arith, e)))

-- ---- one sum grows

-- The test whether two terms are equal, the other way round.
turned : (s t : Term) (b : Bool) → same_term s t ≡ b → same_term t s ≡ b
turned s t true e = is_term t s (sym (term_is s t e))
turned s t false e = by (same_term t s) refl
  where
    by : (b : Bool) → same_term t s ≡ b → same_term t s ≡ false
    by true h = absurd (let l : true ≡ false = sym (is_term s t (sym (term_is t s h))) ∙ e in cc)
    by false h = h

-- One sum has become what it was with the weight of the place; all others are as they were.
one_grown : (x : Slot) (us vs : List Term) (ns ms : List ℕ) → length ms ≡ length vs → sum_beside x.value vs ms ≡ kept (sum_beside x.value us ns + x.weight) →
    ((t : Term) → same_term t x.value ≡ false → sum_beside t vs ms ≡ sum_beside t us ns) → HaveGrown (x ∷ []) us ns vs ms
one_grown x us vs ns ms len here elsewhere e = (len, λ t. by t (same_term t x.value) refl)
  where
    by : (t : Term) (b : Bool) → same_term t x.value ≡ b → sum_beside t vs ms ≡ (if same_term x.value t then kept (sum_beside t us ns + x.weight) else sum_beside t us ns)
    by t true e =
        let q : x.value ≡ t = sym (term_is t x.value e) in
        subst (λ (s : Term). sum_beside s vs ms ≡ kept (sum_beside s us ns + x.weight)) q here
        ∙ sym (ap (λ (c : Bool). if c then kept (sum_beside t us ns + x.weight) else sum_beside t us ns) (turned t x.value true e))
    by t false e = elsewhere t e ∙ sym (ap (λ (c : Bool). if c then kept (sum_beside t us ns + x.weight) else sum_beside t us ns) (turned t x.value false e))

length_of_set : (ns : List ℕ) (i m : ℕ) → length (set ns i m) ≡ length ns
length_of_set [] i m = refl
length_of_set (n ∷ ns) zero m = refl
length_of_set (n ∷ ns) (suc i) m = ap suc (length_of_set ns i m)

length_of_push : {A : Type 0} (xs : List A) (x : A) → length (xs ++ x ∷ []) ≡ suc (length xs)
length_of_push [] x = refl
length_of_push (y ∷ xs) x = ap suc (length_of_push xs x)

-- A value that had a sum.
set_grown : (x : Slot) (us : List Term) (ns : List ℕ) (i d : ℕ) → IsPlaceOf x.value us i → length ns ≡ length us → HaveGrown (x ∷ []) us ns us (set ns i (kept (get_or ns i d + x.weight)))
set_grown x us ns i d first e =
    let m : ℕ = kept (get_or ns i d + x.weight) in
    one_grown x us us ns (set ns i m) (length_of_set ns i m ∙ e)
    (set_here x.value us ns i m first e ∙ sym (ap (λ (k : ℕ). kept (k + x.weight)) (sum_first x.value us ns i d first e)))
    (λ t other. set_elsewhere x.value t us ns i m first other)

-- A value that had none.
push_grown : (x : Slot) (us : List Term) (ns : List ℕ) → IsAbsent x.value us → length ns ≡ length us → x.weight ≤ 2 ^ 64 - 1 → HaveGrown (x ∷ []) us ns (us ++ x.value ∷ []) (ns ++ x.weight ∷ [])
push_grown x us ns absent e within =
    let w : ℕ = x.weight in
    let same_length : length (ns ++ w ∷ []) ≡ length (us ++ x.value ∷ []) = length_of_push ns w ∙ (ap suc e ∙ sym (length_of_push us x.value)) in
    let zero_and : 0 + w ≡ w = omega arith in
    let none : sum_beside x.value us ns + w ≡ w = ap (λ (k : ℕ). k + w) (sum_absent x.value us ns absent) ∙ zero_and in
    one_grown x us (us ++ x.value ∷ []) ns (ns ++ w ∷ []) same_length
    (push_here x.value us ns w absent e ∙ sym (ap kept none ∙ min-eq_left within))
    (λ t other. push_elsewhere x.value t us ns w other e)

weights_joined : (n : ℕ) (t : Term) (xs ys : List Slot) → weight_from (weight_from n t xs) t ys ≡ weight_from n t (xs ++ ys)
weights_joined n t [] ys = refl
weights_joined n t (x ∷ xs) ys = weights_joined (if same_term x.value t then kept (n + x.weight) else n) t xs ys

-- ---- a place is added

module _ (x : Slot) (us vs : List Term) (ns ms : List ℕ) (i : ℕ) (entered : HasEntered x.value us vs i) where
  known_grown : (d : ℕ) → i < length ns → ms ≡ set ns i (kept (get_or ns i d + x.weight)) → HaveGrown (x ∷ []) us ns vs ms
  known_grown d below now e = by entered
    where
      by : HasEntered x.value us vs i → (length ms ≡ length vs) × ((t : Term) → sum_beside t vs ms ≡ weight_from (sum_beside t us ns) t (x ∷ []))
      by (inl (same, first)) =
          subst (λ (ws : List Term). (length ms ≡ length ws) × ((t : Term) → sum_beside t ws ms ≡ weight_from (sum_beside t us ns) t (x ∷ []))) (sym same)
          (subst (λ (ls : List ℕ). (length ls ≡ length us) × ((t : Term) → sum_beside t us ls ≡ weight_from (sum_beside t us ns) t (x ∷ []))) (sym now) (set_grown x us ns i d first e e))
      by (inr (pushed, q, absent)) = absurd (omega (arith, below, e, q))

  new_grown : length ns ≤ i → x.weight ≤ 2 ^ 64 - 1 → ms ≡ ns ++ x.weight ∷ [] → HaveGrown (x ∷ []) us ns vs ms
  new_grown past within now e = by entered
    where
      by : HasEntered x.value us vs i → (length ms ≡ length vs) × ((t : Term) → sum_beside t vs ms ≡ weight_from (sum_beside t us ns) t (x ∷ []))
      by (inl (same, first)) = let below = first_within x.value us i first in absurd (omega (arith, below, past, e))
      by (inr (pushed, q, absent)) =
          subst (λ (ws : List Term). (length ms ≡ length ws) × ((t : Term) → sum_beside t ws ms ≡ weight_from (sum_beside t us ns) t (x ∷ []))) (sym pushed)
          (subst (λ (ls : List ℕ). (length ls ≡ length (us ++ x.value ∷ [])) × ((t : Term) → sum_beside t (us ++ x.value ∷ []) ls ≡ weight_from (sum_beside t us ns) t (x ∷ []))) (sym now)
          (push_grown x us ns absent e within e))

-- ---- the numbers of the places' values

place_kept : (t : Term) (us ws : List Term) (i : ℕ) → IsPlaceOf t us i → IsPlaceOf t (us ++ ws) i
place_kept t [] ws i h = absurd h
place_kept t (u ∷ us) ws zero h = h
place_kept t (u ∷ us) ws (suc i) h = (h.0, place_kept t us ws i h.1)

place_behind : (t : Term) (us : List Term) → IsAbsent t us → IsPlaceOf t (us ++ t ∷ []) (length us)
place_behind t [] h = is_term t t refl
place_behind t (u ∷ us) h = (h.0, place_behind t us h.1)

numbered_kept : (xs : List Slot) (ps : List Place) (us ws : List Term) → AreNumbered xs ps us → AreNumbered xs ps (us ++ ws)
numbered_kept [] [] us ws h = tt
numbered_kept [] (p ∷ ps) us ws h = absurd h
numbered_kept (x ∷ xs) [] us ws h = absurd h
numbered_kept (x ∷ xs) (p ∷ ps) us ws h = ((h.0.0, place_kept x.value us ws p.number h.0.1), numbered_kept xs ps us ws h.1)

numbered_more : (xs : List Slot) (ps : List Place) (us : List Term) (x : Slot) (p : Place) → AreNumbered xs ps us → (p.weight ≡ x.weight) × IsPlaceOf x.value us p.number →
    AreNumbered (xs ++ x ∷ []) (ps ++ p ∷ []) us
numbered_more [] [] us x p h here = (here, tt)
numbered_more [] (q ∷ ps) us x p h here = absurd h
numbered_more (y ∷ xs) [] us x p h here = absurd h
numbered_more (y ∷ xs) (q ∷ ps) us x p h here = (h.0, numbered_more xs ps us x p h.1 here)

entered_numbered : (x : Slot) (us vs : List Term) (p : Place) → p.weight ≡ x.weight → HasEntered x.value us vs p.number → (xs : List Slot) (ps : List Place) → AreNumbered xs ps us →
    AreNumbered (xs ++ x ∷ []) (ps ++ p ∷ []) vs
entered_numbered x us vs p w (inl (same, first)) xs ps h = subst (AreNumbered (xs ++ x ∷ []) (ps ++ p ∷ [])) (sym same) (numbered_more xs ps us x p h (w, first))
entered_numbered x us vs p w (inr (pushed, q, absent)) xs ps h =
    let here : IsPlaceOf x.value (us ++ x.value ∷ []) p.number = subst (IsPlaceOf x.value (us ++ x.value ∷ [])) (sym q) (place_behind x.value us absent) in
    subst (AreNumbered (xs ++ x ∷ []) (ps ++ p ∷ [])) (sym pushed) (numbered_more xs ps (us ++ x.value ∷ []) x p (numbered_kept xs ps us (x.value ∷ []) h) (w, here))

-- ---- a place is added to sums

as_many_sums : (s : Sums) → length (sums_of s) ≡ length (values_of s)
as_many_sums s = length-map s.sums.items (λ v. v.sum) ∙ sym (length-map s.sums.items (λ v. v.value))

module _ (x : Slot) (s r : Sums) (i : ℕ) (places : r.places.items ≡ s.places.items ++ record { weight = x.weight; number = i } ∷ []) where
  one_more : length r.places.items ≡ length s.places.items + 1
  one_more = ap length places ∙ length-append s.places.items (record { weight = x.weight; number = i } ∷ [])

  one_added : (before : List Slot) → AreSumsOf before s → HasEntered x.value (values_of s) (values_of r) i → r.more ≡ drop 16 (values_of r) →
      HaveGrown (x ∷ []) (values_of s) (sums_of s) (values_of r) (sums_of r) → AreSumsOf (before ++ x ∷ []) r
  one_added before h entered more grown = (
    more,
    λ t. (grown (as_many_sums s)).1 t ∙ (ap (λ (n : ℕ). weight_from n t (x ∷ [])) (h.1 t) ∙ weights_joined 0 t before (x ∷ [])),
    subst (λ (ps : List Place). AreNumbered (before ++ x ∷ []) ps (values_of r)) (sym places)
        (entered_numbered x (values_of s) (values_of r) (record { weight = x.weight; number = i }) refl entered before s.places.items h.2),
  )

  pub known_added : (own grown : ValueSum) → i < length s.sums.items → own ≡ get_or s.sums.items i own → grown.value ≡ own.value → grown.sum ≡ kept (own.sum + x.weight) →
      r.sums.items ≡ set s.sums.items i grown → r.more ≡ s.more → (s.more ≡ drop 16 (values_of s) → IsPlaceOf x.value (values_of s) i) → AreAdded (x ∷ []) s r
  known_added own grown below at value sum now table found = record {
    count = one_more;
    sums = λ before h.
        let read : get_or (values_of s) i own.value ≡ own.value = get_or-map (λ (v : ValueSum). v.value) s.sums.items i own own.value below ∙ ap (λ (v : ValueSum). v.value) (sym at) in
        let kept_values : values_of r ≡ values_of s =
        ap (map (λ (v : ValueSum). v.value)) now ∙ map-set (λ (v : ValueSum). v.value) s.sums.items i grown ∙ ap (set (values_of s) i) (value ∙ sym read) ∙ set-get_or (values_of s) i own.value in
        let sum_read : get_or (sums_of s) i own.sum ≡ own.sum = get_or-map (λ (v : ValueSum). v.sum) s.sums.items i own own.sum below ∙ ap (λ (v : ValueSum). v.sum) (sym at) in
        let sums : sums_of r ≡ set (sums_of s) i (kept (get_or (sums_of s) i own.sum + x.weight)) =
        ap (map (λ (v : ValueSum). v.sum)) now ∙ map-set (λ (v : ValueSum). v.sum) s.sums.items i grown ∙ ap (set (sums_of s) i) (sum ∙ ap (λ (n : ℕ). kept (n + x.weight)) (sym sum_read)) in
        let within : i < length (sums_of s) = subst (λ (n : ℕ). i < n) (sym (length-map s.sums.items (λ (v : ValueSum). v.sum))) below in
        let entered : HasEntered x.value (values_of s) (values_of r) i = inl (kept_values, found h.0) in
        one_added before h entered (table ∙ (h.0 ∙ ap (drop 16) (sym kept_values))) (known_grown x (values_of s) (values_of r) (sums_of s) (sums_of r) i entered own.sum within sums);
  }

  pub new_added : (own : ValueSum) → i ≡ length s.sums.items → x.weight ≤ 2 ^ 64 - 1 → own.value ≡ x.value → own.sum ≡ x.weight → r.sums.items ≡ s.sums.items ++ own ∷ [] →
      (i < 16 → r.more ≡ s.more) → (16 ≤ i → IsAbsent x.value s.more → r.more ≡ s.more ++ x.value ∷ []) →
      (s.more ≡ drop 16 (values_of s) → IsAbsent x.value (values_of s)) → AreAdded (x ∷ []) s r
  new_added own last small value sum now few further absent = record {
    count = one_more;
    sums = λ before h.
        let long : length (values_of s) ≡ i = length-map s.sums.items (λ (v : ValueSum). v.value) ∙ sym last in
        let values : values_of r ≡ values_of s ++ x.value ∷ [] =
        ap (map (λ (v : ValueSum). v.value)) now ∙ map-append (λ (v : ValueSum). v.value) s.sums.items (own ∷ []) ∙ ap (λ (t : Term). values_of s ++ t ∷ []) value in
        let sums : sums_of r ≡ sums_of s ++ x.weight ∷ [] =
        ap (map (λ (v : ValueSum). v.sum)) now ∙ map-append (λ (v : ValueSum). v.sum) s.sums.items (own ∷ []) ∙ ap (λ (n : ℕ). sums_of s ++ n ∷ []) sum in
        let behind : length (sums_of s) ≤ i = let e = as_many_sums s in omega (arith, e, long) in
        let entered : HasEntered x.value (values_of s) (values_of r) i = inr (values, sym long, absent h.0) in
        let more : r.more ≡ drop 16 (values_of s ++ x.value ∷ []) =
        kept_behind x.value (values_of s) s.more r.more h.0 (λ l. few (omega (arith, l, long))) (λ l none. further (omega (arith, l, long)) none) (absent h.0) in
        one_added before h entered (more ∙ ap (drop 16) (sym values)) (new_grown x (values_of s) (values_of r) (sums_of s) (sums_of r) i entered behind small sums);
  }

-- ---- the weight of a value

module _ (t : Term) (s : Sums) (slots all : List Slot) (sound : AreSumsOf slots s) (are : slots ≡ all) (n : ℕ) (within : n ≤ 2 ^ 64 - 1) where
  with_sum : (m : ℕ) → sum_beside t (values_of s) (sums_of s) ≡ m → kept (n + m) ≡ weight_from n t all
  with_sum m is =
      let sum : m ≡ weight_from 0 t slots = sym is ∙ sound.1 t in
      ap (λ (k : ℕ). kept (n + k)) sum ∙ (weight_with n t slots within ∙ ap (weight_from n t) are)

  pub weight_found : (i m : ℕ) (own : ValueSum) → IsPlaceOf t (values_of s) i → i < length s.sums.items → own ≡ get_or s.sums.items i own → m ≡ kept (n + own.sum) → m ≡ weight_from n t all
  weight_found i m own first below at now =
      let sum_read : get_or (sums_of s) i own.sum ≡ own.sum = get_or-map (λ (v : ValueSum). v.sum) s.sums.items i own own.sum below ∙ ap (λ (v : ValueSum). v.sum) (sym at) in
      now ∙ with_sum own.sum (sum_first t (values_of s) (sums_of s) i own.sum first (as_many_sums s) ∙ sum_read)

  pub weight_unfound : IsAbsent t (values_of s) → n ≡ weight_from n t all
  weight_unfound absent =
      let none : n + 0 ≡ n = omega arith in
      sym (ap kept none ∙ min-eq_left within) ∙ with_sum 0 (sum_absent t (values_of s) (sums_of s) absent)

-- ---- one place after another

pub empty_sums : (s : Sums) → s.more ≡ [] → s.sums.items ≡ [] → s.places.items ≡ [] → AreSumsOf [] s
empty_sums s more sums places =
    let values : values_of s ≡ [] = ap (map (λ (v : ValueSum). v.value)) sums in
    (more ∙ sym (ap (drop 16) values), λ t. ap (λ (us : List Term). sum_beside t us (sums_of s)) values, subst (λ (ps : List Place). AreNumbered [] ps (values_of s)) (sym places) tt)

pub none_added : (s : Sums) → AreAdded [] s s
none_added s = record { count = omega arith; sums = λ before h. subst (λ (xs : List Slot). AreSumsOf xs s) (sym (append-nil before)) h }

pub both_added : (xs ys : List Slot) (s m r : Sums) → AreAdded xs s m → AreAdded ys m r → AreAdded (xs ++ ys) s r
both_added xs ys s m r one other =
    let long = length-append xs ys in record {
      count = omega (arith, long, one.count, other.count);
      sums = λ before h. subst (λ (zs : List Slot). AreSumsOf zs r) (append_assoc before xs ys) (other.sums (before ++ xs) (one.sums before h));
    }

-- The places xs are added, if none are left of them.
pub all_added : (xs : List Slot) (s : Sums) → xs ≡ [] → AreAdded xs s s
all_added xs s none = subst (λ (ys : List Slot). AreAdded ys s s) (sym none) (none_added s)

-- The places xs are added, of which some come first.
pub next_added : (xs first rest : List Slot) → xs ≡ first ++ rest → (s m r : Sums) → AreAdded first s m → AreAdded rest m r → AreAdded xs s r
next_added xs first rest are s m r one other = subst (λ (ys : List Slot). AreAdded ys s r) (sym are) (both_added first rest s m r one other)
