-- What stands at the places of a list, and of lists that are made of others.
use Rattle.std.proofs.Common.{◌≡◌, ◌≢◌, ◌⊎◌, inl, inr, ◌∙◌, ℕ, zero, suc, ◌+◌, ◌<◌, ◌≤◌, List, [], ◌∷◌, ◌++◌, Option, Some, None, option_map, map, length, get_or, slice_get, set, take, drop, refl, sym, ap, subst, arith, ⊎_elim}
use Rattle.cp_lists.specs.Lists.{item_at, IsIn, here, there}

-- ---- places and items

pub place_of : {A : Type 0} {x : A} {xs : List A} → IsIn x xs → (i : ℕ) × (item_at xs i ≡ Some x)
place_of here = (zero, refl)
place_of (there p) = let r = place_of p in (suc r.0, r.1)

pub at_place : {A : Type 0} (xs : List A) (i : ℕ) (x : A) → item_at xs i ≡ Some x → IsIn x xs
at_place [] i x e = absurd (cc)
at_place (y ∷ xs) zero x e = let s : y ≡ x = cc in subst (λ z. IsIn z (y ∷ xs)) s here
at_place (y ∷ xs) (suc i) x e = there (at_place xs i x e)

pub item_below : {A : Type 0} (xs : List A) (i : ℕ) (x : A) → item_at xs i ≡ Some x → i < length xs
item_below [] i x e = absurd (cc)
item_below (y ∷ xs) zero x e = omega arith
item_below (y ∷ xs) (suc i) x e = let h : i < length xs = item_below xs i x e in omega arith

pub item_there : {A : Type 0} (xs : List A) (i : ℕ) → i < length xs → (x : A) × (item_at xs i ≡ Some x)
item_there [] i h = absurd (omega (arith, h))
item_there (y ∷ xs) zero h = (y, refl)
item_there (y ∷ xs) (suc i) h = item_there xs i (omega (arith, h))

pub item_past : {A : Type 0} (xs : List A) (i : ℕ) → length xs ≤ i → item_at xs i ≡ None
item_past [] i l = refl
item_past (x ∷ xs) zero l = absurd (omega (arith, l))
item_past (x ∷ xs) (suc i) l = item_past xs i (omega (arith, l))

-- What stands at a place stands at each place before.
pub item_before : {A : Type 0} (xs : List A) (i j : ℕ) (x : A) → item_at xs j ≡ Some x → i ≤ j → (y : A) × (item_at xs i ≡ Some y)
item_before xs i j x e l = let h : j < length xs = item_below xs j x e in item_there xs i (omega arith)

pub there_or_none : {A : Type 0} (o : Option A) → ((x : A) × (o ≡ Some x)) ⊎ (o ≡ None)
there_or_none None = inr refl
there_or_none (Some x) = inl (x, refl)

-- ---- what is read

pub slice_get_item : {A : Type 0} (xs : List A) (i : ℕ) → slice_get xs i ≡ item_at xs i
slice_get_item [] i = refl
slice_get_item (x ∷ xs) zero = refl
slice_get_item (x ∷ xs) (suc i) = slice_get_item xs i

pub item_of_read : {A : Type 0} (xs : List A) (i : ℕ) (x : A) → i < length xs → x ≡ get_or xs i x → item_at xs i ≡ Some x
item_of_read [] i x l e = absurd (omega (arith, l))
item_of_read (y ∷ xs) zero x l e = ap Some (sym e)
item_of_read (y ∷ xs) (suc i) x l e = item_of_read xs i x (omega (arith, l)) e

pub same_item : {A : Type 0} (xs : List A) (i j : ℕ) (x y : A) → i ≡ j → item_at xs i ≡ Some x → item_at xs j ≡ Some y → x ≡ y
same_item xs i j x y e f g = let at : item_at xs i ≡ item_at xs j = ap (item_at xs) e in cc

-- ---- what is made of each item

pub mapped_item : {A B : Type 0} (f : A → B) (xs : List A) (i : ℕ) → item_at (map f xs) i ≡ option_map f (item_at xs i)
mapped_item f [] i = refl
mapped_item f (x ∷ xs) zero = refl
mapped_item f (x ∷ xs) (suc i) = mapped_item f xs i

pub map_of_item : {A B : Type 0} (f : A → B) (xs : List A) (i : ℕ) (x : A) → item_at xs i ≡ Some x → item_at (map f xs) i ≡ Some (f x)
map_of_item f [] i x e = absurd (cc)
map_of_item f (y ∷ xs) zero x e = cc
map_of_item f (y ∷ xs) (suc i) x e = map_of_item f xs i x e

pub item_of_map : {A B : Type 0} (f : A → B) (xs : List A) (i : ℕ) (y : B) → item_at (map f xs) i ≡ Some y → (x : A) × (item_at xs i ≡ Some x) × (f x ≡ y)
item_of_map f [] i y e = absurd (cc)
item_of_map f (x ∷ xs) zero y e = (x, refl, cc)
item_of_map f (x ∷ xs) (suc i) y e = item_of_map f xs i y e

pub map_of_read : {A B : Type 0} (f : A → B) (xs : List A) (i : ℕ) (x : A) → i < length xs → x ≡ get_or xs i x → item_at (map f xs) i ≡ Some (f x)
map_of_read f xs i x l e = map_of_item f xs i x (item_of_read xs i x l e)

-- ---- the front and the back of a list

pub item_of_take : {A : Type 0} (n : ℕ) (xs : List A) (i : ℕ) (x : A) → item_at (take n xs) i ≡ Some x → (i < n) × (item_at xs i ≡ Some x)
item_of_take zero xs i x e = absurd (cc)
item_of_take (suc n) [] i x e = absurd (cc)
item_of_take (suc n) (y ∷ xs) zero x e = (omega arith, e)
item_of_take (suc n) (y ∷ xs) (suc i) x e = let h = item_of_take n xs i x e in let l : i < n = h.0 in (omega arith, h.1)

pub take_of_item : {A : Type 0} (n : ℕ) (xs : List A) (i : ℕ) (x : A) → i < n → item_at xs i ≡ Some x → item_at (take n xs) i ≡ Some x
take_of_item zero xs i x l e = absurd (omega (arith, l))
take_of_item (suc n) [] i x l e = e
take_of_item (suc n) (y ∷ xs) zero x l e = e
take_of_item (suc n) (y ∷ xs) (suc i) x l e = take_of_item n xs i x (omega (arith, l)) e

-- One item more is taken.
pub take_to_item : {A : Type 0} (xs : List A) (i : ℕ) (x : A) → item_at xs i ≡ Some x → take (suc i) xs ≡ take i xs ++ x ∷ []
take_to_item [] i x e = absurd (cc)
take_to_item (y ∷ xs) zero x e = let s : y ≡ x = cc in ap (λ z. z ∷ []) s
take_to_item (y ∷ xs) (suc i) x e = ap (λ ys. y ∷ ys) (take_to_item xs i x e)

pub item_of_drop : {A : Type 0} (n : ℕ) (xs : List A) (i : ℕ) → item_at (drop n xs) i ≡ item_at xs (n + i)
item_of_drop zero xs i = let e : 0 + i ≡ i = omega arith in ap (item_at xs) (sym e)
item_of_drop (suc n) [] i = refl
item_of_drop (suc n) (x ∷ xs) i = let e : suc n + i ≡ suc (n + i) = omega arith in item_of_drop n xs i ∙ ap (item_at (x ∷ xs)) (sym e)

pub drop_of_item : {A : Type 0} (xs : List A) (i : ℕ) (x : A) → item_at xs i ≡ Some x → drop i xs ≡ x ∷ drop (suc i) xs
drop_of_item [] i x e = absurd (cc)
drop_of_item (y ∷ xs) zero x e = let s : y ≡ x = cc in ap (λ z. z ∷ xs) s
drop_of_item (y ∷ xs) (suc i) x e = drop_of_item xs i x e

-- ---- one list behind another

pub item_still : {A : Type 0} (xs ys : List A) (i : ℕ) (x : A) → item_at xs i ≡ Some x → item_at (xs ++ ys) i ≡ Some x
item_still [] ys i x e = absurd (cc)
item_still (y ∷ xs) ys zero x e = e
item_still (y ∷ xs) ys (suc i) x e = item_still xs ys i x e

pub item_in_front : {A : Type 0} (xs ys : List A) (i : ℕ) → i < length xs → item_at (xs ++ ys) i ≡ item_at xs i
item_in_front [] ys i l = absurd (omega (arith, l))
item_in_front (x ∷ xs) ys zero l = refl
item_in_front (x ∷ xs) ys (suc i) l = item_in_front xs ys i (omega (arith, l))

pub item_behind : {A : Type 0} (xs ys : List A) (i : ℕ) → item_at (xs ++ ys) (length xs + i) ≡ item_at ys i
item_behind [] ys i = let e : 0 + i ≡ i = omega arith in ap (item_at ys) e
item_behind (x ∷ xs) ys i = let e : suc (length xs) + i ≡ suc (length xs + i) = omega arith in ap (item_at (x ∷ (xs ++ ys))) e ∙ item_behind xs ys i

pub item_last : {A : Type 0} (xs : List A) (y : A) → item_at (xs ++ y ∷ []) (length xs) ≡ Some y
item_last [] y = refl
item_last (x ∷ xs) y = item_last xs y

-- Anywhere but at its end a list is as it was.
pub item_apart : {A : Type 0} (xs : List A) (y : A) (i : ℕ) → length xs ≢ i → item_at (xs ++ y ∷ []) i ≡ item_at xs i
item_apart [] y zero ne = absurd (ne refl)
item_apart [] y (suc i) ne = refl
item_apart (x ∷ xs) y zero ne = refl
item_apart (x ∷ xs) y (suc i) ne = item_apart xs y i (λ e. ne (ap suc e))

pub item_of_push : {A : Type 0} (xs : List A) (y : A) (i : ℕ) (x : A) → item_at (xs ++ y ∷ []) i ≡ Some x → (item_at xs i ≡ Some x) ⊎ ((i ≡ length xs) × (y ≡ x))
item_of_push [] y zero x e = inr (refl, cc)
item_of_push [] y (suc i) x e = absurd (cc)
item_of_push (z ∷ xs) y zero x e = inl e
item_of_push (z ∷ xs) y (suc i) x e = next (item_of_push xs y i x e)
  where
    next : (item_at xs i ≡ Some x) ⊎ ((i ≡ length xs) × (y ≡ x)) → (item_at xs i ≡ Some x) ⊎ ((suc i ≡ suc (length xs)) × (y ≡ x))
    next (inl h) = inl h
    next (inr p) = inr (ap suc p.0, p.1)

-- ---- one item in another's place

pub set_here : {A : Type 0} (xs : List A) (i : ℕ) (y : A) → i < length xs → item_at (set xs i y) i ≡ Some y
set_here [] i y l = absurd (omega (arith, l))
set_here (x ∷ xs) zero y l = refl
set_here (x ∷ xs) (suc i) y l = set_here xs i y (omega (arith, l))

pub set_elsewhere : {A : Type 0} (xs : List A) (i : ℕ) (y : A) (j : ℕ) → i ≢ j → item_at (set xs i y) j ≡ item_at xs j
set_elsewhere [] i y j ne = refl
set_elsewhere (x ∷ xs) zero y zero ne = absurd (ne refl)
set_elsewhere (x ∷ xs) zero y (suc j) ne = refl
set_elsewhere (x ∷ xs) (suc i) y zero ne = refl
set_elsewhere (x ∷ xs) (suc i) y (suc j) ne = set_elsewhere xs i y j (λ e. ne (ap suc e))

-- ---- lists of few items, and lists in two parts

pub map_none : {A B : Type 0} (f : A → B) (xs : List A) (i : ℕ) → item_at xs i ≡ None → item_at (map f xs) i ≡ None
map_none f [] i e = refl
map_none f (x ∷ xs) zero e = absurd (cc)
map_none f (x ∷ xs) (suc i) e = map_none f xs i e

-- A list of one item.
pub only_place : {A : Type 0} (x : A) (i : ℕ) {y : A} → item_at (x ∷ []) i ≡ Some y → (i ≡ 0) × (x ≡ y)
only_place x zero e = let p : x ≡ _ = cc in (refl, p)
only_place x (suc i) e = absurd (cc)

-- The items of lists of one and of three.
pub one_item : {A : Type 0} {x y : A} (i : ℕ) (P : ℕ → A → Type 0) → item_at (x ∷ []) i ≡ Some y → P 0 x → P i y
one_item {x = x} {y = y} zero P q p = let e : x ≡ y = cc in subst (P 0) e p
one_item (suc i) P q p = absurd (cc)

pub each_of_three : {A : Type 0} {x y z w : A} (i : ℕ) (P : ℕ → A → Type 0) → item_at (x ∷ y ∷ z ∷ []) i ≡ Some w → P 0 x → P 1 y → P 2 z → P i w
each_of_three {x = x} {w = w} zero P q a b c = let e : x ≡ w = cc in subst (P 0) e a
each_of_three {y = y} {w = w} (suc zero) P q a b c = let e : y ≡ w = cc in subst (P 1) e b
each_of_three {z = z} {w = w} (suc (suc zero)) P q a b c = let e : z ≡ w = cc in subst (P 2) e c
each_of_three (suc (suc (suc i))) P q a b c = absurd (cc)

pub some_within : {A : Type 0} (es : List A) (i : ℕ) → i < length es → item_at es i ≡ None → ⊥
some_within [] i h e = absurd (omega arith)
some_within (x ∷ es) zero h e = absurd (cc)
some_within (x ∷ es) (suc i) h e = some_within es i (omega arith) e

pub past_end : {A B : Type 0} (f : A → B) (xs : List A) (i : ℕ) (y : B) → length xs ≤ i → item_at (map f xs) i ≡ Some y → ⊥
past_end f xs i y l at =
    let r = item_of_map f xs i y at in
    let below = item_below xs i r.0 r.1 in
    omega (arith, l, below)

-- An item of two lists strung together is in the first or in the second.
pub at_append : {A : Type 0} (xs ys : List A) (i : ℕ) (z : A) → item_at (xs ++ ys) i ≡ Some z → ((item_at xs i ≡ Some z) × (i < length xs)) ⊎ ((j : ℕ) × (i ≡ length xs + j) × (item_at ys j ≡ Some z))
at_append [] ys i z e = inr (i, omega arith, e)
at_append (x ∷ xs) ys zero z e = inl (e, omega arith)
at_append {A} (x ∷ xs) ys (suc i) z e = elim (at_append xs ys i z e) as (λ _. ((item_at (x ∷ xs) (suc i) ≡ Some z) × (suc i < length (x ∷ xs))) ⊎ ((j : ℕ) × (suc i ≡ length (x ∷ xs) + j) × (item_at ys j ≡ Some z))) [
  | inl p ↦ inl (p.0, omega (arith, p.1))
  | inr p ↦ inr (p.0, omega (arith, p.1), p.2)
]

pub some_same : {s t : List ℕ} → Some s ≡ Some t → s ≡ t
some_same e = cc

pub item_end : {A : Type 0} (xs : List A) (y : A) (s : ℕ) → length xs ≡ s → item_at (xs ++ (y ∷ [])) s ≡ Some y
item_end xs y s e = ap (item_at (xs ++ (y ∷ []))) (sym e) ∙ item_last xs y

pub end_cases : {A : Type 0} (xs : List A) (y : A) (i : ℕ) (x : A) → item_at (xs ++ (y ∷ [])) i ≡ Some x → ((i < length xs) × (item_at xs i ≡ Some x)) ⊎ ((i ≡ length xs) × (y ≡ x))
end_cases [] y zero x e = inr (refl, cc)
end_cases [] y (suc i) x e = absurd (cc)
end_cases (z ∷ xs) y zero x e = inl (omega arith, e)
end_cases (z ∷ xs) y (suc i) x e = by (end_cases xs y i x e)
  where
    by : ((i < length xs) × (item_at xs i ≡ Some x)) ⊎ ((i ≡ length xs) × (y ≡ x)) → ((suc i < length (z ∷ xs)) × (item_at xs i ≡ Some x)) ⊎ ((suc i ≡ length (z ∷ xs)) × (y ≡ x))
    by (inl r) = let l = r.0 in inl (omega (arith, l), r.1)
    by (inr r) = inr (ap suc r.0, r.1)

pub other_entry : (p : List ℕ) (n : ℕ) → n < length p → (item_at p n ≡ Some n → ⊥) → (l : ℕ) × (item_at p n ≡ Some l) × (l ≡ n → ⊥)
other_entry p n less none = let r = item_there p n less in (r.0, r.1, λ e. none (r.1 ∙ ap Some e))

-- Of two lists, one behind the other, each item is one of the first, or one of the second so many places on.
pub item_in_parts : {A : Type 0} (xs ys : List A) (i : ℕ) (y : A) → item_at (xs ++ ys) i ≡ Some y → (item_at xs i ≡ Some y) ⊎ ((q : ℕ) × (i ≡ length xs + q) × (item_at ys q ≡ Some y))
item_in_parts [] ys i y at = inr (i, omega arith, at)
item_in_parts (x ∷ xs) ys zero y at = inl at
item_in_parts (x ∷ xs) ys (suc i) y at = ⊎_elim inl (λ r. inr (r.0, (let e = r.1 in omega (arith, e)), r.2)) (item_in_parts xs ys i y at)

-- Behind other items each stands as many places further.
pub item_further : {A : Type 0} (xs ys : List A) (i j : ℕ) (y : A) → j ≡ length xs + i → item_at ys i ≡ Some y → item_at (xs ++ ys) j ≡ Some y
item_further [] ys i j y e at = let same : j ≡ i = omega (arith, e) in ap (item_at ys) same ∙ at
item_further (x ∷ xs) ys i zero y e at = absurd (omega (arith, e))
item_further (x ∷ xs) ys i (suc j) y e at = item_further xs ys i j y (omega (arith, e)) at

pub front_or_behind : {A : Type 0} (xs ys : List A) (i : ℕ) (y : A) → item_at (xs ++ ys) i ≡ Some y → (item_at xs i ≡ Some y) ⊎ IsIn y ys
front_or_behind [] ys i y at = inr (at_place ys i y at)
front_or_behind (x ∷ xs) ys zero y at = inl at
front_or_behind (x ∷ xs) ys (suc i) y at = front_or_behind xs ys i y at
