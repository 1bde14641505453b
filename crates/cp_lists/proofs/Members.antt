-- What is in a list, and in lists that are made of others.
use Rattle.std.proofs.Common.{◌≡◌, ◌⊎◌, inl, inr, ◌∙◌, ℕ, zero, suc, ◌+◌, ◌<◌, ◌≤◌, List, [], ◌∷◌, ◌++◌, Bool, true, false, if◌then◌else◌, map, length, get_or, drop, refl, sym, ap, subst, add-one, arith, ⊎_elim, ◌≢◌}
use Rattle.std.specs.Prelude.{reverse}
use Rattle.std.specs.List.{filter, AllZip, remove}
use Rattle.std.proofs.Math.Seq.{drop-cons}
use Rattle.std.proofs.lemmas.List.{drop_all, drop_more, reverse-append}
use Rattle.cp_lists.specs.Lists.{IsIn, here, there}

-- ---- one item after another

pub not_in_none : {A : Type 0} {x : A} → IsIn x [] → ⊥
not_in_none h = elim h [ ]

pub none_in_empty : {A : Type 0} {x : A} {xs : List A} → xs ≡ [] → IsIn x xs → ⊥
none_in_empty {x = x} e h = not_in_none (subst (IsIn x) e h)

pub only_item : {A : Type 0} {x y : A} → IsIn x (y ∷ []) → x ≡ y
only_item here = refl
only_item (there h) = elim h [ ]

-- An item is the first or one of the rest, with the equation from the first to the item, or back.
pub in_cases : {A : Type 0} {x y : A} {ys : List A} → IsIn x (y ∷ ys) → (y ≡ x) ⊎ IsIn x ys
in_cases here = inl refl
in_cases (there h) = inr h

pub head_or_behind : {A : Type 0} {x y : A} {ys : List A} → IsIn x (y ∷ ys) → (x ≡ y) ⊎ IsIn x ys
head_or_behind here = inl refl
head_or_behind (there h) = inr h

pub at_head : {A : Type 0} {x y : A} {xs : List A} → x ≡ y → IsIn x (y ∷ xs)
at_head {x = x} {xs = xs} e = subst (λ z. IsIn x (z ∷ xs)) e here

-- Where it can be told whether two items are one, it can be told whether one is in a list.
pub in_or_not : {A : Type 0} → ((x y : A) → (x ≡ y) ⊎ (x ≡ y → ⊥)) → (xs : List A) (x : A) → IsIn x xs ⊎ (IsIn x xs → ⊥)
in_or_not told [] x = inr not_in_none
in_or_not told (y ∷ ys) x = one_more (told x y) (in_or_not told ys x)
  where
    one_more : (x ≡ y) ⊎ (x ≡ y → ⊥) → IsIn x ys ⊎ (IsIn x ys → ⊥) → IsIn x (y ∷ ys) ⊎ (IsIn x (y ∷ ys) → ⊥)
    one_more (inl e) rest = inl (at_head e)
    one_more (inr other) (inl i) = inl (there i)
    one_more (inr other) (inr none) = inr (λ i. ⊎_elim other none (head_or_behind i))

-- What holds of the first item and of each of the rest holds of each item.
pub of_each : {A : Type 0} {x y : A} {xs : List A} (P : A → Type 0) → P y → (IsIn x xs → P x) → IsIn x (y ∷ xs) → P x
of_each P p f here = p
of_each P p f (there h) = f h

-- ---- one list behind another

pub in_append_left : {A : Type 0} {x : A} {xs : List A} (ys : List A) → IsIn x xs → IsIn x (xs ++ ys)
in_append_left ys here = here
in_append_left ys (there h) = there (in_append_left ys h)

pub in_append_right : {A : Type 0} {x : A} (xs : List A) {ys : List A} → IsIn x ys → IsIn x (xs ++ ys)
in_append_right [] h = h
in_append_right (y ∷ xs) h = there (in_append_right xs h)

-- What is in one of two lists is in the first with a list behind that has what is in the second.
pub in_longer : {A : Type 0} {x : A} {xs ys zs : List A} → IsIn x xs ⊎ IsIn x ys → (IsIn x ys → IsIn x zs) → IsIn x (xs ++ zs)
in_longer {zs = zs} (inl h) f = in_append_left zs h
in_longer {xs = xs} (inr h) f = in_append_right xs (f h)

one_further : {A : Type 0} {x y : A} {xs : List A} {P : Type 0} → IsIn x xs ⊎ P → IsIn x (y ∷ xs) ⊎ P
one_further (inl h) = inl (there h)
one_further (inr p) = inr p

pub in_append : {A : Type 0} {x : A} (xs ys : List A) → IsIn x (xs ++ ys) → IsIn x xs ⊎ IsIn x ys
in_append [] ys h = inr h
in_append (y ∷ xs) ys here = inl here
in_append (y ∷ xs) ys (there h) = one_further (in_append xs ys h)

pub in_last : {A : Type 0} (xs : List A) (x : A) → IsIn x (xs ++ x ∷ [])
in_last xs x = in_append_right xs here

pub in_pushed : {A : Type 0} (xs : List A) (x z : A) → IsIn z (xs ++ x ∷ []) → IsIn z xs ⊎ (x ≡ z)
in_pushed xs x z h = of (in_append xs (x ∷ []) h)
  where
    of : IsIn z xs ⊎ IsIn z (x ∷ []) → IsIn z xs ⊎ (x ≡ z)
    of (inl i) = inl i
    of (inr i) = inr (sym (only_item i))

-- ---- backwards

pub in_reverse : {A : Type 0} {x : A} (xs : List A) → IsIn x xs → IsIn x (reverse xs)
in_reverse {x = x} (y ∷ ys) h = subst (IsIn x) (sym (reverse-append (y ∷ []) ys)) (of (in_reverse ys) (in_cases h))
  where
    of : (IsIn x ys → IsIn x (reverse ys)) → (y ≡ x) ⊎ IsIn x ys → IsIn x (reverse ys ++ y ∷ [])
    of rest (inl e) = in_append_right (reverse ys) (at_head (sym e))
    of rest (inr i) = in_append_left (y ∷ []) (rest i)
in_reverse [] h = elim h [ ]

pub from_reverse : {A : Type 0} {x : A} (xs : List A) → IsIn x (reverse xs) → IsIn x xs
from_reverse {x = x} (y ∷ ys) h = of (from_reverse ys) (in_append (reverse ys) (y ∷ []) (subst (IsIn x) (reverse-append (y ∷ []) ys) h))
  where
    of : (IsIn x (reverse ys) → IsIn x ys) → IsIn x (reverse ys) ⊎ IsIn x (y ∷ []) → IsIn x (y ∷ ys)
    of rest (inl i) = there (rest i)
    of rest (inr i) = at_head (only_item i)
from_reverse [] h = elim h [ ]

-- ---- what is made of each item

pub into_map : {A B : Type 0} (f : A → B) {x : A} {xs : List A} → IsIn x xs → IsIn (f x) (map f xs)
into_map f here = here
into_map f (there h) = there (into_map f h)

pub from_map : {A B : Type 0} (f : A → B) (xs : List A) {y : B} → IsIn y (map f xs) → (x : A) × IsIn x xs × (f x ≡ y)
from_map {A} f (x ∷ xs) {y} h = of (from_map f xs) (in_cases h)
  where
    of : (IsIn y (map f xs) → (z : A) × IsIn z xs × (f z ≡ y)) → (f x ≡ y) ⊎ IsIn y (map f xs) → (z : A) × IsIn z (x ∷ xs) × (f z ≡ y)
    of rest (inl e) = (x, here, e)
    of rest (inr i) = let r = rest i in (r.0, there r.1, r.2)
from_map f [] h = elim h [ ]

-- ---- what is kept of a list

-- An item that is put in front where a test is true.
pub in_if_here : {A : Type 0} (b : Bool) (y : A) (ys : List A) → b ≡ true → IsIn y (if b then y ∷ ys else ys)
in_if_here true y ys e = here
in_if_here false y ys e = absurd (cc)

pub in_if_behind : {A : Type 0} (b : Bool) (z y : A) (ys : List A) → IsIn y ys → IsIn y (if b then z ∷ ys else ys)
in_if_behind true z y ys h = there h
in_if_behind false z y ys h = h

pub into_filter : {A : Type 0} (p : A → Bool) (xs : List A) {x : A} → IsIn x xs → p x ≡ true → IsIn x (filter p xs)
into_filter p [] h e = elim h [ ]
into_filter p (x ∷ xs) here e = in_if_here (p x) x (filter p xs) e
into_filter p (y ∷ xs) {x} (there h) e = in_if_behind (p y) y x (filter p xs) (into_filter p xs h e)

kept_first : {A : Type 0} (p : A → Bool) (xs : List A) (y : A) {x : A} → p y ≡ true → (IsIn x (filter p xs) → IsIn x xs × (p x ≡ true)) → IsIn x (y ∷ filter p xs) → IsIn x (y ∷ xs) × (p x ≡ true)
kept_first p xs y e rest here = (here, e)
kept_first p xs y e rest (there i) = let r = rest i in (there r.0, r.1)

kept_or_not : {A : Type 0} (p : A → Bool) (xs : List A) (y : A) {x : A} (b : Bool) → p y ≡ b → (IsIn x (filter p xs) → IsIn x xs × (p x ≡ true)) → IsIn x (if b then y ∷ filter p xs else filter p xs) → IsIn x (y ∷ xs) × (p x ≡ true)
kept_or_not p xs y true e rest i = kept_first p xs y e rest i
kept_or_not p xs y false e rest i = let r = rest i in (there r.0, r.1)

pub from_filter : {A : Type 0} (p : A → Bool) (xs : List A) {x : A} → IsIn x (filter p xs) → IsIn x xs × (p x ≡ true)
from_filter p [] h = elim h [ ]
from_filter p (y ∷ xs) h = kept_or_not p xs y (p y) refl (from_filter p xs) h

-- ---- what is read, and what is left

pub item_in : {A : Type 0} (xs : List A) (i : ℕ) (d : A) → i < length xs → IsIn (get_or xs i d) xs
item_in [] i d h = absurd (omega (arith, h))
item_in (x ∷ xs) zero d h = here
item_in (x ∷ xs) (suc i) d h = there (item_in xs i d (omega (arith, h)))

pub item_is_in : {A : Type 0} (xs : List A) (i : ℕ) (x : A) → i < length xs → x ≡ get_or xs i x → IsIn x xs
item_is_in xs i x h e = subst (λ z. IsIn z xs) (sym e) (item_in xs i x h)

pub in_rest : {A : Type 0} {x : A} (xs : List A) (i : ℕ) → IsIn x (drop i xs) → IsIn x xs
in_rest xs zero h = h
in_rest [] (suc i) h = h
in_rest (y ∷ xs) (suc i) h = there (in_rest xs i h)

pub drop_read : {A : Type 0} (xs : List A) (i : ℕ) (x : A) → i < length xs → x ≡ get_or xs i x → drop i xs ≡ x ∷ drop (i + 1) xs
drop_read xs i x h e = drop-cons xs i x h ∙ rw (← e) (ap (λ ys. x ∷ ys) (rw add-one))

-- What is left from a place within the list on begins with an item.
pub first_left : {A : Type 0} (xs : List A) (i : ℕ) → i < length xs → (x : A) × (drop i xs ≡ x ∷ drop (i + 1) xs)
first_left [] i h = absurd (omega (arith, h))
first_left (x ∷ xs) i h = (get_or (x ∷ xs) i x, drop_more (x ∷ xs) i x h)

-- An item of what is left is the next one or behind it.
pub next_or_rest : {A : Type 0} (xs : List A) (i : ℕ) (x y : A) → i < length xs → y ≡ get_or xs i y → IsIn x (drop i xs) → (y ≡ x) ⊎ IsIn x (drop (i + 1) xs)
next_or_rest xs i x y h e there_is = in_cases (subst (IsIn x) (drop_read xs i y h e) there_is)

pub none_left : {A : Type 0} (xs : List A) (i : ℕ) (x : A) → length xs ≤ i → IsIn x (drop i xs) → ⊥
none_left xs i x h there_is = not_in_none (rw (drop_all i xs h) at there_is)

-- ---- lists of which each item is one of another's

pub each_in : {A : Type 0} (xs ys : List A) (y : A) → ((i : ℕ) (d : A) → i < length ys → IsIn (get_or ys i d) xs) → IsIn y ys → IsIn y xs
each_in xs [] y h m = elim m [ ]
each_in xs (z ∷ ys) y h here = h 0 y (omega arith)
each_in xs (z ∷ ys) y h (there m) = each_in xs ys y (λ i d l. h (suc i) d (omega (arith, l))) m

-- ---- what is true of all items, or of none

pub below_end : (n m : ℕ) (ns : List ℕ) → n < m → ((k : ℕ) → IsIn k ns → n < k) → (k : ℕ) → IsIn k ns ⊎ IsIn k (m ∷ []) → n < k
below_end n m ns l above k (inl i) = above k i
below_end n m ns l above k (inr i) = subst (λ (x : ℕ). n < x) (sym (only_item i)) l

pub nothing_there : {A : Type 0} (xs : List A) → ((x : A) → IsIn x xs → ⊥) → xs ≡ []
nothing_there [] h = refl
nothing_there (x ∷ xs) h = absurd (h x here)

pub zip_listed : {A B : Type 0} (P Q : A → B → Type 0) (xs : List A) (ys : List B) → ((x : A) (y : B) → IsIn x xs → P x y → Q x y) → AllZip P xs ys → AllZip Q xs ys
zip_listed P Q [] [] f all = tt
zip_listed P Q [] (y ∷ ys) f all = absurd all
zip_listed P Q (x ∷ xs) [] f all = absurd all
zip_listed P Q (x ∷ xs) (y ∷ ys) f all = (f x y here all.0, zip_listed P Q xs ys (λ z w i. f z w (there i)) all.1)

pub in_with_last : {A : Type 0} {x : A} (xs : List A) (y : A) → (x ≡ y) ⊎ IsIn x xs → IsIn x (xs ++ y ∷ [])
in_with_last [] y (inl e) = at_head e
in_with_last [] y (inr h) = elim h [ ]
in_with_last {x = x} (z ∷ xs) y (inl e) = there (in_with_last xs y (inl e))
in_with_last {x = x} (z ∷ xs) y (inr h) = of (head_or_behind h) (λ h'. in_with_last xs y (inr h'))
  where
    of : (x ≡ z) ⊎ IsIn x xs → (IsIn x xs → IsIn x (xs ++ y ∷ [])) → IsIn x (z ∷ xs ++ y ∷ [])
    of (inl e) f = at_head e
    of (inr h') f = there (f h')

pub done_or_none : {A : Type 0} {x : A} (done : List A) → IsIn x done ⊎ IsIn x [] → IsIn x done
done_or_none done (inl m) = m
done_or_none done (inr m) = elim m [ ]

-- Where neither of two comes before a third, none of them does.
pub among_two : {A : Type 0} (comes_before : A → A → Bool) (r s t : A) → comes_before r t ≡ false → comes_before s t ≡ false → (q : A) → IsIn q (r ∷ s ∷ []) → comes_before q t ≡ false
among_two comes_before r s t g h q here = g
among_two comes_before r s t g h q (there here) = h
among_two comes_before r s t g h q (there (there m)) = elim m [ ]

pub filter-all : {A : Type 0} (p : A → Bool) (xs : List A) → ((v : A) → IsIn v xs → p v ≡ true) → filter p xs ≡ xs
filter-all p [] h = refl
filter-all p (x ∷ xs) h = ap (λ b. if b then x ∷ filter p xs else filter p xs) (h x here) ∙ ap (λ ys. x ∷ ys) (filter-all p xs (λ v i. h v (there i)))

-- What is left of a list without one of its items was in it.
pub was_in : {A : Type 0} (xs : List A) (d : ℕ) (x : A) → IsIn x (remove xs d) → IsIn x xs
was_in [] zero x i = i
was_in [] (suc d) x i = i
was_in (y ∷ xs) zero x i = there i
was_in (y ∷ xs) (suc d) x here = here
was_in (y ∷ xs) (suc d) x (there i) = there (was_in xs d x i)

pub other_than : {A : Type 0} {x y : A} {ys : List A} → y ≢ x → (y ≡ x) ⊎ IsIn x ys → IsIn x ys
other_than other (inl e) = absurd (other e)
other_than other (inr h) = h

pub in_either : {A : Type 0} {x y : A} (xs : List A) → IsIn x (xs ++ y ∷ []) → IsIn x xs ⊎ (x ≡ y)
in_either [] m = inr (only (head_or_behind m))
  where
    only : {B : Type 0} {x y : B} → (x ≡ y) ⊎ IsIn x [] → x ≡ y
    only (inl e) = e
    only (inr i) = elim i [ ]
in_either (z ∷ zs) here = inl here
in_either (z ∷ zs) (there m) = further (in_either zs m)
  where
    further : {B : Type 0} {x y z : B} {zs : List B} → IsIn x zs ⊎ (x ≡ y) → IsIn x (z ∷ zs) ⊎ (x ≡ y)
    further (inl i) = inl (there i)
    further (inr e) = inr e

pub suc_in : (ns : List ℕ) (n : ℕ) → IsIn n ns → IsIn (suc n) (map suc ns)
suc_in (m ∷ ns) n here = here
suc_in (m ∷ ns) n (there p) = there (suc_in ns n p)
suc_in [] n p = elim p [ ]

pub in_sucs : (ns : List ℕ) (n : ℕ) → IsIn n (map suc ns) → (m : ℕ) × (n ≡ suc m) × IsIn m ns
in_sucs [] n p = elim p [ ]
in_sucs (m ∷ ns) n here = (m, refl, here)
in_sucs (m ∷ ns) n (there p) = let h = in_sucs ns n p in (h.0, h.1, there h.2)

pub not_zero : (ns : List ℕ) → IsIn zero (map suc ns) → ⊥
not_zero ns p = let h = in_sucs ns zero p in let e : zero ≡ suc h.0 = h.1 in omega (arith, e)

pub empty_in : (p : List ℕ) → length p ≡ 0 → IsIn p ([] ∷ [])
empty_in [] e = here
empty_in (x ∷ p) e = absurd (omega (arith, e))

pub in-cons : {A : Type 0} (x y : A) (xs : List A) → IsIn x (y ∷ xs) → (x ≡ y → ⊥) → IsIn x xs
in-cons x y xs here other = absurd (other refl)
in-cons x y xs (there p) other = p

pub in_either_half : {A : Type 0} (x : A) (xs : List A) → IsIn x (reverse xs ++ xs) → IsIn x xs
in_either_half x xs i = ⊎_elim (from_reverse xs) (λ j. j) (in_append (reverse xs) xs i)
