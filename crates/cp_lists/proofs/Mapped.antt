-- Lists of what functions make of each item.
use Rattle.std.proofs.Common.{◌≡◌, ◌∙◌, List, [], ◌∷◌, map, refl, ap, ℕ, ◌≤◌, length, arith, sym, zero, suc, ◌++◌}
use Rattle.cp_lists.specs.Lists.{IsIn, here, there}
use Rattle.std.proofs.lemmas.List.{length-map, map-append}
use Rattle.std.specs.List.{remove}

-- What a function that changes nothing makes of the items is these items.
pub map_same : {A : Type 0} (f : A → A) → ((x : A) → f x ≡ x) → (xs : List A) → map f xs ≡ xs
map_same f same [] = refl
map_same f same (x ∷ xs) = ap (λ y. y ∷ map f xs) (same x) ∙ ap (λ ys. x ∷ ys) (map_same f same xs)

-- One function after the other.
pub map_then : {A B C : Type 0} (f : A → B) (g : B → C) (h : A → C) → ((x : A) → h x ≡ g (f x)) → (xs : List A) → map h xs ≡ map g (map f xs)
map_then f g h same [] = refl
map_then f g h same (x ∷ xs) = ap (λ y. y ∷ map h xs) (same x) ∙ ap (λ ys. g (f x) ∷ ys) (map_then f g h same xs)

-- Two functions that agree on the items.
pub map_alike : {A B : Type 0} (f g : A → B) (xs : List A) → ((x : A) → IsIn x xs → f x ≡ g x) → map f xs ≡ map g xs
map_alike f g [] same = refl
map_alike f g (x ∷ xs) same = ap (λ y. y ∷ map f xs) (same x here) ∙ ap (λ ys. g x ∷ ys) (map_alike f g xs (λ z i. same z (there i)))

-- A loop over all items has come to their number.
pub at_all : {A B : Type 0} (f : A → B) (xs : List A) (n : ℕ) → length xs ≤ n → n ≤ length xs → n ≡ length (map f xs)
at_all f xs n l k = let e = length-map xs f in omega (arith, l, k, e)

pub length_of : {A B : Type 0} (f : A → B) (xs : List A) (ys : List B) → map f xs ≡ ys → length xs ≡ length ys
length_of f xs ys e = sym (length-map xs f) ∙ ap length e

pub removed_map : {A B : Type 0} (f : A → B) (xs : List A) (d : ℕ) → map f (remove xs d) ≡ remove (map f xs) d
removed_map f [] zero = refl
removed_map f [] (suc d) = refl
removed_map f (x ∷ xs) zero = refl
removed_map f (x ∷ xs) (suc d) = ap (λ ys. f x ∷ ys) (removed_map f xs d)

pub map_after : {A B C : Type 0} (f : A → B) (g : B → C) (h : A → C) → ((x : A) → h x ≡ g (f x)) → (xs : List A) → map g (map f xs) ≡ map h xs
map_after f g h e xs = sym (map_then f g h e xs)

-- two parts, each of them mapped
pub both_mapped : {A : Type 0} (g : A → A) (xs ys us vs : List A) → us ≡ map g xs → vs ≡ map g ys → us ++ vs ≡ map g (xs ++ ys)
both_mapped g xs ys us vs e f = ap (λ zs. zs ++ vs) e ∙ ap (λ zs. map g xs ++ zs) f ∙ sym (map-append g xs ys)

pub nothing_mapped : {A B : Type 0} (g : A → B) (xs : List A) → xs ≡ [] → map g xs ≡ []
nothing_mapped g xs e = ap (map g) e
