-- Tables of variables that grow.
use Rattle.std.proofs.Common.{◌≡◌, ℕ, zero, suc, ◌+◌, List, [], ◌∷◌, ◌++◌, length, take, slice_get, Some, refl, sym, ap, ◌∙◌, add-one}
use Rattle.cp_model.specs.declared.variable.Declaration.{Declaration}
use Rattle.cp_model.specs.Skeleton.{Skeleton}
use Rattle.cp_model.specs.Data.{roots, sorts}
use Rattle.cp_model.specs.declared.sort.Sort.{Sort}

next_at : (vs : List Declaration) (n : ℕ) (root : List ℕ) (sort : Sort) → slice_get (roots vs) n ≡ Some root → slice_get (sorts vs) n ≡ Some sort → take n vs ++ record { identifier = root; sort = sort } ∷ [] ≡ take (suc n) vs
next_at [] n root sort e f = absurd (cc)
next_at (v ∷ vs) zero root sort e f =
    let a : v.identifier ≡ root = cc in
    let b : v.sort ≡ sort = cc in
    sym (λ i. record { identifier = a i; sort = b i } ∷ [])
next_at (v ∷ vs) (suc n) root sort e f = ap (λ ws. v ∷ ws) (next_at vs n root sort e f)

pub next_declared : (vs : List Declaration) (n : ℕ) (root : List ℕ) (sort : Sort) → slice_get (roots vs) n ≡ Some root → slice_get (sorts vs) n ≡ Some sort → take n vs ++ record { identifier = root; sort = sort } ∷ [] ≡ take (n + 1) vs
next_declared vs n root sort e f = next_at vs n root sort e f ∙ ap (λ m. take m vs) (sym (add-one n))

pub first_declared : (vs more : List Declaration) → take (length vs) (vs ++ more) ≡ vs
first_declared [] more = refl
first_declared (v ∷ vs) more = ap (λ ws. v ∷ ws) (first_declared vs more)

pub one_more : (k : Skeleton) (vs : List Declaration) (n : ℕ) (old new : Skeleton) (id : ℕ) (root : List ℕ) (sort : Sort) → old ≡ record k { variables = take n vs } → id ≡ n → slice_get (roots vs) id ≡ Some root → slice_get (sorts vs) id ≡ Some sort
    → new ≡ record old { variables = old.variables ++ record { identifier = root; sort = sort } ∷ [] } → new ≡ record k { variables = take (n + 1) vs }
one_more k vs n old new id root sort before is e f grows =
    let e' : slice_get (roots vs) n ≡ Some root = rw is at e in
    let f' : slice_get (sorts vs) n ≡ Some sort = rw is at f in
    let grown : new ≡ record k { variables = take n vs ++ record { identifier = root; sort = sort } ∷ [] } = grows ∙ ap (λ (o : Skeleton). record o { variables = o.variables ++ record { identifier = root; sort = sort } ∷ [] }) before in
    grown ∙ ap (λ ws. record k { variables = ws }) (next_declared vs n root sort e' f')
