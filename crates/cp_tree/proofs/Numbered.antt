-- Numbers that are given one after the other.
use Rattle.std.proofs.Common.{◌≡◌, ℕ, zero, suc, ◌+◌, List, [], ◌∷◌, ◌++◌, length, Some, refl, ap, subst, arith}
use Rattle.cp_lists.specs.Lists.{item_at, IsIn, here, there}
use Rattle.cp_model.specs.Problem.{numbers_from}

pub numbers_append : {A : Type 0} (n m : ℕ) (xs ys : List A) → m ≡ n + length xs → numbers_from n (xs ++ ys) ≡ numbers_from n xs ++ numbers_from m ys
numbers_append n m [] ys e = let same : n ≡ m = omega (arith, e) in ap (λ (a : ℕ). numbers_from a ys) same
numbers_append n m (x ∷ xs) ys e = ap (λ (us : List ℕ). n ∷ us) (numbers_append (suc n) m xs ys (omega (arith, e)))

-- A number that is given is that of an item.
pub number_of : {A : Type 0} (n j : ℕ) (xs : List A) → IsIn j (numbers_from n xs) → (q : ℕ) × (x : A) × (item_at xs q ≡ Some x) × (j ≡ n + q)
number_of n j [] i = elim i [ ]
number_of n n' (x ∷ xs) here = (0, x, refl, omega arith)
number_of n j (x ∷ xs) (there i) = let r = number_of (suc n) j xs i in (suc r.0, r.1, r.2, (let e = r.3 in omega (arith, e)))

-- The number of each item is given.
pub number_there : {A : Type 0} (n q : ℕ) (xs : List A) (x : A) → item_at xs q ≡ Some x → IsIn (n + q) (numbers_from n xs)
number_there n q [] x at = absurd (cc)
number_there n zero (x ∷ xs) y at = let same : n ≡ n + 0 = omega arith in subst (λ (a : ℕ). IsIn a (numbers_from n (x ∷ xs))) same here
number_there n (suc q) (x ∷ xs) y at = let same : suc n + q ≡ n + suc q = omega arith in there (subst (λ (a : ℕ). IsIn a (numbers_from (suc n) xs)) same (number_there (suc n) q xs y at))
