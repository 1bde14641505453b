-- The front and the back of a list, and what is left of it.
use Rattle.std.proofs.Common.{◌≡◌, ℕ, ◌+◌, ◌<◌, List, ◌∷◌, length, drop, sym, ap, ◌∙◌, add-one, Some, zero, suc, [], ◌++◌, take, ◌==◌, Bool, true, false, arith, ◌≤◌, refl, inl, inr, min, ◌-◌, length-append}
use Rattle.cp_lists.specs.Lists.{item_at, IsIn, here, there}
use Rattle.cp_lists.proofs.Items.{item_there, drop_of_item, take_to_item}
use Rattle.std.proofs.lemmas.List.{take-append-drop, take_at, length-take-le, append-nil, drop_all, nil_from_length}
use Rattle.std.proofs.lemmas.Bool.Decides.{eqb_tells}
use Rattle.std.specs.Prelude.{map}
use Rattle.std.proofs.Math.Seq.{take-append_seam}

pub next_of : {A : Type 0} (xs : List A) (k : ℕ) → k < length xs → (x : A) × (item_at xs k ≡ Some x) × (drop k xs ≡ x ∷ drop (k + 1) xs)
next_of xs k h =
    let found = item_there xs k h in
    (found.0, found.1, drop_of_item xs k found.0 found.1 ∙ ap (λ n. found.0 ∷ drop n xs) (sym (add-one k)))

pub taken_more : {A : Type 0} (xs : List A) (i : ℕ) (x : A) → drop i xs ≡ x ∷ drop (suc i) xs → take (suc i) xs ≡ take i xs ++ (x ∷ [])
taken_more [] zero x e = absurd (cc)
taken_more [] (suc i) x e = absurd (cc)
taken_more (y ∷ xs) zero x e = let same : y ≡ x = cc in ap (λ z. z ∷ []) same
taken_more (y ∷ xs) (suc i) x e = ap (λ ys. y ∷ ys) (taken_more xs i x e)

-- a text that is split at n is its two parts
pub both_parts : (n : ℕ) (text part after : List ℕ) → part ≡ take n text → after ≡ drop n text → text ≡ part ++ after
both_parts n text part after front back = sym (ap (λ xs. xs ++ after) front ∙ ap (λ xs. take n text ++ xs) back ∙ take-append-drop n text)

pub some_left : (empty : Bool) (rest : List ℕ) → empty ≡ (length rest == 0) → empty ≡ false → 0 < length rest
some_left empty [] is some = absurd (let e : true ≡ false = sym is ∙ some in cc)
some_left empty (x ∷ rest) is some = omega arith

pub take-front : (n : ℕ) (rest others : List ℕ) → n ≤ length rest → take n (take n rest ++ others) ≡ take n rest
take-front n rest others within = take_at (take n rest) others n (length-take-le n rest within)

pub in_longer_front : {A : Type 0} {x : A} (n : ℕ) (xs ys : List A) → IsIn x (take n xs) → IsIn x (take n (xs ++ ys))
in_longer_front zero xs ys m = elim m [ ]
in_longer_front (suc n) [] ys m = elim m [ ]
in_longer_front (suc n) (y ∷ xs) ys here = here
in_longer_front (suc n) (y ∷ xs) ys (there m) = there (in_longer_front n xs ys m)

pub in_front : {A : Type 0} {x : A} (n : ℕ) (xs ys : List A) → length xs ≤ n → IsIn x xs → IsIn x (take n (xs ++ ys))
in_front n [] ys h m = elim m [ ]
in_front zero (y ∷ xs) ys h m = absurd (omega (arith, h))
in_front (suc n) (y ∷ xs) ys h here = here
in_front (suc n) (y ∷ xs) ys h (there m) = there (in_front n xs ys (omega (arith, h)) m)

pub all-listed : {A : Type 0} (xs : List A) (k : ℕ) → length xs ≤ k → (done whole : List A) → done ++ drop k xs ≡ whole → done ≡ whole
all-listed xs k h done whole e = sym (append-nil done) ∙ sym (ap (λ ys. done ++ ys) (drop_all k xs h)) ∙ e

pub none_taken : {A : Type 0} (n : ℕ) → ◌≡◌ {A = List A} (take n []) []
none_taken zero = refl
none_taken (suc n) = refl

pub none_if_empty : {A : Type 0} (empty : Bool) (xs : List A) → empty ≡ (length xs == 0) → empty ≡ true → xs ≡ []
none_if_empty empty xs is none =
    elim (eqb_tells (length xs) 0) [ inl w ↦ nil_from_length xs w.1 | inr w ↦ let e : true ≡ false = sym none ∙ is ∙ w.0 in absurd (cc) ]

pub length_min : {A B : Type 0} (f : A → B) (n : ℕ) (xs : List A) → length (map f (take n xs)) ≡ min n (length xs)
length_min f zero xs = omega arith
length_min f (suc n) [] = omega arith
length_min f (suc n) (x ∷ xs) = let h = length_min f n xs in omega arith

-- there is an item before the end
pub some_item : {A : Type 0} (xs : List A) (n : ℕ) → n < length xs → (x : A) × (drop n xs ≡ x ∷ drop (suc n) xs)
some_item [] n lt = absurd (omega arith)
some_item (x ∷ xs) zero lt = (x, refl)
some_item (x ∷ xs) (suc n) lt = some_item xs n (omega arith)

-- What a slice that was written makes of the list.
pub all_written : (old new : List Bool) (len : ℕ) → length new ≡ length old → length old ≡ len → take len (new ++ drop (length new) old) ≡ new
all_written old new len count l =
    let e : len ≡ length new = omega arith in
    ap (λ (n : ℕ). take n (new ++ drop (length new) old)) e ∙ take-append_seam new (drop (length new) old)

pub rest_of_map : {A B : Type 0} (g : A → B) (xs : List A) → drop 1 (map g xs) ≡ map g (drop 1 xs)
rest_of_map g [] = refl
rest_of_map g (x ∷ xs) = refl

pub split_end : {A : Type 0} (n : ℕ) (xs : List A) → length xs ≡ suc n → (ys : List A) × (y : A) × (xs ≡ ys ++ (y ∷ [])) × (length ys ≡ n)
split_end n [] e = absurd (omega (arith, e))
split_end zero (x ∷ []) e = ([], x, refl, refl)
split_end zero (x ∷ y ∷ xs) e = absurd (omega (arith, e))
split_end (suc n) (x ∷ xs) e =
    let r = split_end n xs (omega (arith, e)) in
    (x ∷ r.0, r.1, ap (λ zs. x ∷ zs) r.2, ap suc r.3)

pub take_next : {A : Type 0} (xs : List A) (i : ℕ) (x : A) → item_at xs i ≡ Some x → take i xs ++ (x ∷ []) ≡ take (i + 1) xs
take_next xs i x e = let next : suc i ≡ i + 1 = omega arith in sym (take_to_item xs i x e) ∙ ap (λ (m : ℕ). take m xs) next

pub item-zero : {A : Type 0} (k : ℕ) (xs : List A) → item_at (drop k xs) 0 ≡ item_at xs k
item-zero zero [] = refl
item-zero zero (x ∷ xs) = refl
item-zero (suc k) [] = refl
item-zero (suc k) (x ∷ xs) = item-zero k xs

pub drop-one : {A : Type 0} (k : ℕ) (xs : List A) → drop 1 (drop k xs) ≡ drop (suc k) xs
drop-one zero xs = refl
drop-one (suc k) [] = refl
drop-one (suc k) (x ∷ xs) = drop-one k xs

-- the first of a list are some of it
pub in_first : {A : Type 0} (n : ℕ) (s : A) (xs : List A) → IsIn s (take n xs) → IsIn s xs
in_first zero s [] i = elim i [ ]
in_first zero s (x ∷ xs) i = elim i [ ]
in_first (suc n) s [] i = elim i [ ]
in_first (suc n) s (x ∷ xs) here = here
in_first (suc n) s (x ∷ xs) (there i) = there (in_first n s xs i)

pub front_spelled : (text front rest : List ℕ) → text ≡ front ++ rest → take (length text - length rest) text ≡ front
front_spelled text front rest e =
    let n : length text - length rest ≡ length front = omega (arith, ap length e ∙ length-append front rest) in
    ap (λ k. take k text) n ∙ ap (take (length front)) e ∙ take-append_seam front rest
