-- Comparing two lists of one length, item by item.
use Rattle.std.proofs.Common.{◌≡◌, ℕ, suc, ◌<◌, ◌≤◌, List, [], ◌∷◌, length, get_or, refl, ap₂, arith}

-- The first n items are the same.
abbrev pub AreSameTo : {A : Type 0} → ℕ → List A → List A → Type 0
AreSameTo {A} n xs ys = (i : ℕ) (x y : A) → i < n → x ≡ get_or xs i x → y ≡ get_or ys i y → x ≡ y

same_of_all : {A : Type 0} (xs ys : List A) → length xs ≡ length ys → AreSameTo (length xs) xs ys → xs ≡ ys
same_of_all [] [] e all = refl
same_of_all [] (y ∷ ys) e all = absurd (omega (arith, e))
same_of_all (x ∷ xs) [] e all = absurd (omega (arith, e))
same_of_all (x ∷ xs) (y ∷ ys) e all =
    ap₂ (λ z zs. z ∷ zs) (all 0 x y (omega arith) refl refl) (same_of_all xs ys (omega (arith, e)) (λ i a b l p q. all (suc i) a b (omega (arith, l)) p q))

pub same_lists : {A : Type 0} (xs ys : List A) (n : ℕ) → length xs ≤ n → length xs ≡ length ys → AreSameTo n xs ys → xs ≡ ys
same_lists xs ys n done e all = same_of_all xs ys e (λ i x y l p q. all i x y (omega (arith, l, done)) p q)
