-- The terms of declared variables, and their numbers.
use Rattle.std.proofs.Common.{◌≡◌, ℕ, zero, suc, ◌+◌, List, [], ◌∷◌, Some, ap₂, subst, arith, ◌++◌, ◌<◌, length}
use Rattle.cp_lists.specs.Lists.{item_at}
use Rattle.cp_model.specs.Term.{Sort, Variable, variable_term}
use Rattle.cp_model.specs.Strand.{Declaration}
use Rattle.cp_model.specs.Problem.{variable_terms, declared_sort, IsDeclared}

-- What stands at the numbers of declared variables.
pub variable_at : (n : ℕ) (ds : List Declaration) (i : ℕ) (sort : Sort) → declared_sort (item_at ds i) ≡ Some sort → item_at (variable_terms n ds) i ≡ Some (variable_term (record { sort = sort; number = n + i }))
variable_at n [] i sort e = absurd (cc)
variable_at n (d ∷ ds) zero sort e =
    let p : d.sort ≡ sort = cc in
    let q : n ≡ n + zero = omega arith in
    ap₂ (λ (s : Sort) (m : ℕ). Some (variable_term (record { sort = s; number = m }))) p q
variable_at n (d ∷ ds) (suc i) sort e =
    let q : suc n + i ≡ n + suc i = omega arith in
    subst (λ (m : ℕ). item_at (variable_terms (suc n) ds) i ≡ Some (variable_term (record { sort = sort; number = m }))) q (variable_at (suc n) ds i sort e)

pub declared_at : (ds : List Declaration) (x : Variable) → IsDeclared ds x → item_at (variable_terms 0 ds) x.number ≡ Some (variable_term x)
declared_at ds x is =
    let q : 0 + x.number ≡ x.number = omega arith in
    subst (λ (m : ℕ). item_at (variable_terms 0 ds) x.number ≡ Some (variable_term (record { sort = x.sort; number = m }))) q (variable_at 0 ds x.number x.sort is)

-- ---- the numbers of declared variables

-- What is declared is declared where more declarations come behind.
pub still_declared : (ds more : List Declaration) (n : ℕ) (k : Sort) → declared_sort (item_at ds n) ≡ Some k → declared_sort (item_at (ds ++ more) n) ≡ Some k
still_declared [] more n k e = absurd (cc)
still_declared (d ∷ ds) more zero k e = e
still_declared (d ∷ ds) more (suc n) k e = still_declared ds more n k e

pub declared_below : (ds : List Declaration) (n : ℕ) (k : Sort) → declared_sort (item_at ds n) ≡ Some k → n < length ds
declared_below [] n k e = absurd (cc)
declared_below (d ∷ ds) zero k e = omega arith
declared_below (d ∷ ds) (suc n) k e = let h : n < length ds = declared_below ds n k e in omega arith
