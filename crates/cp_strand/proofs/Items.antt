-- Items of lists: loops over them, what is in them, and what stands at their places.
use Rattle.std.proofs.Common.{◌≡◌, ℕ, zero, suc, ◌+◌, ◌<◌, ◌≤◌, List, [], ◌∷◌, length, get_or, map, drop, refl, sym, ap, ◌∙◌, subst}
use Rattle.std.proofs.lemmas.List.{drop_all}
use Rattle.cp_lists.specs.Lists.{IsIn, here}
use Rattle.cp_lists.proofs.Members.{drop_read, in_rest, in-cons}

-- A search for y through xs, each of which shows a value, as far as place i.
module _ {A B : Type 0} (f : A → B) (y : B) (xs : List A) (i : ℕ) where
  step : (x : A) → i < length xs → x ≡ get_or xs i x → map f (drop i xs) ≡ f x ∷ map f (drop (i + 1) xs)
  step x lt is = ap (map f) (drop_read xs i x lt is)

  map-drop : (zs : List A) (k : ℕ) → map f (drop k zs) ≡ drop k (map f zs)
  map-drop zs zero = refl
  map-drop [] (suc k) = refl
  map-drop (z ∷ zs) (suc k) = map-drop zs k

  pub search-found : (x : A) → i < length xs → x ≡ get_or xs i x → f x ≡ y → IsIn y (map f xs)
  search-found x lt is e =
      in_rest (map f xs) i (subst (IsIn y) (sym (step x lt is) ∙ map-drop xs i) (subst (λ z. IsIn y (z ∷ map f (drop (i + 1) xs))) (sym e) here))

  pub search-next : (x : A) → i < length xs → x ≡ get_or xs i x → (f x ≡ y → ⊥) → (IsIn y (map f xs) → IsIn y (map f (drop i xs))) → IsIn y (map f xs) → IsIn y (map f (drop (i + 1) xs))
  search-next x lt is other h p = in-cons y (f x) (map f (drop (i + 1) xs)) (subst (IsIn y) (step x lt is) (h p)) (λ e. other (sym e))

  pub search-none : length xs ≤ i → (IsIn y (map f xs) → IsIn y (map f (drop i xs))) → IsIn y (map f xs) → ⊥
  search-none le h p = elim (subst (λ zs. IsIn y (map f zs)) (drop_all i xs le) (h p)) [ ]

-- The same search, through the items themselves.
module _ {A : Type 0} (y : A) (xs : List A) (i : ℕ) where
  pub item-found : (x : A) → i < length xs → x ≡ get_or xs i x → x ≡ y → IsIn y xs
  item-found x lt is e =
      in_rest xs i (subst (IsIn y) (sym (drop_read xs i x lt is)) (subst (λ z. IsIn y (z ∷ drop (i + 1) xs)) (sym e) here))

  pub item-next : (x : A) → i < length xs → x ≡ get_or xs i x → (x ≡ y → ⊥) → (IsIn y xs → IsIn y (drop i xs)) → IsIn y xs → IsIn y (drop (i + 1) xs)
  item-next x lt is other h p = in-cons y x (drop (i + 1) xs) (subst (IsIn y) (drop_read xs i x lt is) (h p)) (λ e. other (sym e))

  pub item-none : length xs ≤ i → (IsIn y xs → IsIn y (drop i xs)) → IsIn y xs → ⊥
  item-none le h p = elim (subst (IsIn y) (drop_all i xs le) (h p)) [ ]
