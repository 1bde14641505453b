-- The numbers of the items of a list, from one on.
use Rattle.std.proofs.Common.{◌≡◌, ℕ, zero, suc, ◌+◌, ◌<◌, List, [], ◌∷◌, length, refl, ap, subst, arith}
use Rattle.cp_lists.specs.Lists.{IsIn, here, there}
use Rattle.cp_model.specs.Problem.{numbers_from}

pub numbers_length : {A : Type 0} (n : ℕ) (xs : List A) → length (numbers_from n xs) ≡ length xs
numbers_length n [] = refl
numbers_length n (x ∷ xs) = ap suc (numbers_length (suc n) xs)

-- The number of each item is among them.
pub number_from : {A : Type 0} (n i : ℕ) (xs : List A) → i < length xs → IsIn (n + i) (numbers_from n xs)
number_from n i [] l = absurd (omega (arith, l))
number_from n zero (x ∷ xs) l = let e : n ≡ n + 0 = omega arith in subst (λ (m : ℕ). IsIn m (n ∷ numbers_from (suc n) xs)) e here
number_from n (suc i) (x ∷ xs) l = let e : suc n + i ≡ n + suc i = omega arith in there (subst (λ (m : ℕ). IsIn m (numbers_from (suc n) xs)) e (number_from (suc n) i xs (omega (arith, l))))
