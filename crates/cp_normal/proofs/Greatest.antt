-- The greatest of the numbers of a list's items, and when it falls.
use Rattle.std.proofs.Common.{◌≡◌, ◌⊎◌, inl, inr, ◌<◌, ◌≤◌, ℕ, max, List, [], ◌∷◌, arith}
use Rattle.cp_lists.specs.Lists.{IsIn, here, there}

abbrev pub greatest : {A : Type 0} → (A → ℕ) → List A → ℕ
greatest f [] = 0
greatest f (x ∷ xs) = max (f x) (greatest f xs)

module _ {A : Type 0} (f : A → ℕ) where
  pub at_most_greatest : (x : A) (xs : List A) → IsIn x xs → f x ≤ greatest f xs
  at_most_greatest x (y ∷ xs) here = omega arith
  at_most_greatest x (y ∷ xs) (there i) = let l = at_most_greatest x xs i in omega (arith, l)
  at_most_greatest x [] i = elim i [ ]

  pub all_below : (n : ℕ) (xs : List A) → 0 < n → ((x : A) → IsIn x xs → f x < n) → greatest f xs < n
  all_below n [] l h = l
  all_below n (x ∷ xs) l h = let a = h x here in let b = all_below n xs l (λ y i. h y (there i)) in omega (arith, a, b)

  -- It falls where some item has a number and each new item has none, or one below that of an old item.
  abbrev IsBelowOne : List A → A → Type 0
  IsBelowOne xs y = (f y ≡ 0) ⊎ ((x : A) × IsIn x xs × (f y < f x))

  below : (xs : List A) (y : A) → 0 < greatest f xs → IsBelowOne xs y → f y < greatest f xs
  below xs y l (inl e) = omega (arith, l, e)
  below xs y l (inr b) = let m = at_most_greatest b.0 xs b.1 in let n : f y < f b.0 = b.2 in omega (arith, m, n)

  pub greatest_falls : (xs ys : List A) (x : A) → IsIn x xs → 0 < f x → ((y : A) → IsIn y ys → IsBelowOne xs y) → greatest f ys < greatest f xs
  greatest_falls xs ys x i l h =
      let m = at_most_greatest x xs i in
      let n : 0 < greatest f xs = omega (arith, l, m) in
      all_below (greatest f xs) ys n (λ y j. below xs y n (h y j))
