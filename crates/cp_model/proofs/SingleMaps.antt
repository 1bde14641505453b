-- The map of a problem's own skeleton changes nothing.
use Rattle.std.proofs.Common.{◌≡◌, ℕ, zero, suc, ◌+◌, ◌⊎◌, inl, inr, false, List, [], ◌∷◌, Option, Some, None, refl, sym, ap, ◌∙◌, subst, arith, map}
use Rattle.cp_lists.specs.Lists.{item_at}
use Rattle.cp_model.specs.Term.{Sort, text_sort, datum_sort, name_sort, skey_sort, akey_sort, skey_variable, akey_variable, Term, variable_term, apply_to}
use Rattle.cp_model.specs.Identity.{unchanged}
use Rattle.cp_model.specs.Strand.{Declaration}
use Rattle.cp_model.specs.Skeleton.{Skeleton}
use Rattle.cp_model.specs.Problem.{numbers_from, variable_terms}
use Rattle.cp_model.specs.PointOfView.{MapsToItself, StatesItself, IsPointOfView}
use Rattle.cp_model.specs.Homomorphism.{SkeletonMap, IsHomomorphism, CarriesHomomorphism, text_in, datum_in, name_in, skey_in, akey_in, substitution_by, number_or, strand_in, map_from_problem}
use Rattle.cp_lists.proofs.Mapped.{map_same}
use Rattle.cp_model.proofs.LawTerms.{term_unchanged}
use Rattle.cp_model.proofs.LawEmbeddings.{same_map, same_homomorphism}

-- A place of the numbers from n on holds its own number, or nothing.
number_at : {A : Type 0} (n : ℕ) (xs : List A) (i : ℕ) → number_or (n + i) (item_at (numbers_from n xs) i) ≡ n + i
number_at n [] i = refl
number_at n (x ∷ xs) zero = let e : n ≡ n + zero = omega arith in e
number_at n (x ∷ xs) (suc i) =
    let e : suc n + i ≡ n + suc i = omega arith in
    subst (λ m. number_or m (item_at (numbers_from (suc n) xs) i) ≡ m) e (number_at (suc n) xs i)

pub own_strands : {A : Type 0} (xs : List A) (i : ℕ) → strand_in (numbers_from 0 xs) i ≡ i
own_strands xs i = let e : 0 + i ≡ i = omega arith in subst (λ m. number_or m (item_at (numbers_from 0 xs) i) ≡ m) e (number_at 0 xs i)

-- A place of the declared variables' terms holds the variable of that number, or nothing.
variable_at : (n : ℕ) (ds : List Declaration) (i : ℕ) →
    (item_at (variable_terms n ds) i ≡ None) ⊎ ((s : Sort) × (item_at (variable_terms n ds) i ≡ Some (variable_term (record { sort = s; number = n + i }))))
variable_at n [] i = inl refl
variable_at n (d ∷ ds) zero =
    let e : n ≡ n + zero = omega arith in
    inr (d.sort, ap (λ m. Some (variable_term (record { sort = d.sort; number = m }))) e)
variable_at n (d ∷ ds) (suc i) =
    let e : suc n + i ≡ n + suc i = omega arith in
    subst (λ m. (item_at (variable_terms (suc n) ds) i ≡ None) ⊎ ((s : Sort) × (item_at (variable_terms (suc n) ds) i ≡ Some (variable_term (record { sort = s; number = m })))))
    e (variable_at (suc n) ds i)

abbrev IsOwn : ℕ → Option Term → Type 0
IsOwn n t = (text_in n t ≡ n) × (datum_in n t ≡ n) × (name_in n t ≡ n) × (skey_in n t ≡ skey_variable n) × (akey_in n t ≡ (false, akey_variable n))

own_variable : (s : Sort) (n : ℕ) → IsOwn n (Some (variable_term (record { sort = s; number = n })))
own_variable text_sort n = (refl, refl, refl, refl, refl)
own_variable datum_sort n = (refl, refl, refl, refl, refl)
own_variable name_sort n = (refl, refl, refl, refl, refl)
own_variable skey_sort n = (refl, refl, refl, refl, refl)
own_variable akey_sort n = (refl, refl, refl, refl, refl)

own_at : (ds : List Declaration) (n : ℕ) → IsOwn n (item_at (variable_terms 0 ds) n)
own_at ds n = of (variable_at 0 ds n)
  where
    of : (item_at (variable_terms 0 ds) n ≡ None) ⊎ ((s : Sort) × (item_at (variable_terms 0 ds) n ≡ Some (variable_term (record { sort = s; number = 0 + n })))) →
        IsOwn n (item_at (variable_terms 0 ds) n)
    of (inl e) = subst (IsOwn n) (sym e) (refl, refl, refl, refl, refl)
    of (inr p) =
        let z : 0 + n ≡ n = omega arith in
        let e = p.1 ∙ ap (λ m. Some (variable_term (record { sort = p.0; number = m }))) z in
        subst (IsOwn n) (sym e) (own_variable p.0 n)

-- The substitution by the declared variables themselves changes nothing.
pub own_substitution : (ds : List Declaration) → substitution_by (variable_terms 0 ds) ≡ unchanged
own_substitution ds = λ i. record {
  texts = λ n. (own_at ds n).0 i;
  datums = λ n. (own_at ds n).1 i;
  names = λ n. (own_at ds n).2 i;
  skeys = λ n. (own_at ds n).3 i;
  akeys = λ n. (own_at ds n).4 i;
}

-- A point-of-view skeleton maps its strands and variables to themselves.
pub itself : {variables : List Declaration} {k : Skeleton} → IsPointOfView variables k → MapsToItself variables k
itself own = record { strands = own.strands; values = own.values; closed = own.closed }

-- It states itself.
pub states_itself : {variables : List Declaration} {k : Skeleton} → IsPointOfView variables k → StatesItself variables k
states_itself own = record { maps = itself own; assumed = own.assumed; ordered = own.ordered }

pub own_map : (variables : List Declaration) (k : Skeleton) → MapsToItself variables k → map_from_problem k ≡ same_map
own_map variables k own =
    let p : strand_in k.from_problem.strands ≡ (λ s. s) = ap strand_in own.strands ∙ λ i s. own_strands k.strands s i in
    let q : substitution_by k.from_problem.values ≡ unchanged = ap substitution_by own.values ∙ own_substitution variables in
    λ i. record { strands = p i; terms = q i }

pub own_homomorphism : (variables : List Declaration) (k : Skeleton) → MapsToItself variables k → IsHomomorphism k k (map_from_problem k)
own_homomorphism variables k own = subst (IsHomomorphism k k) (sym (own_map variables k own)) (same_homomorphism k)

-- A problem's own skeleton carries a homomorphism from itself.
pub own_carries : (variables : List Declaration) (k : Skeleton) → MapsToItself variables k → CarriesHomomorphism k k
own_carries variables k own = record {
  homomorphism = own_homomorphism variables k own;
  strands = ap (λ (f : SkeletonMap). map f.strands k.from_problem.strands) (own_map variables k own) ∙ map_same (λ s. s) (λ s. refl) k.from_problem.strands;
  values = ap (λ (f : SkeletonMap). map (apply_to f.terms) k.from_problem.values) (own_map variables k own) ∙ map_same (apply_to unchanged) term_unchanged k.from_problem.values;
}
