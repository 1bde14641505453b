-- A list without one of its items.
use Rattle.std.proofs.Common.{◌≡◌, ◌⊎◌, inl, inr, suc, List, [], ◌∷◌, length, refl, ap, ℕ, zero, ◌≤◌, arith, ◌≢◌}
use Rattle.cp_lists.specs.Lists.{IsIn, here, there}
use Rattle.cp_lists.proofs.Members.{in_cases}

-- The list without one x: it is shorter by one, has all other items, and no new one.
pub record Without {A : Type 0} (x : A) (xs : List A) : Type 0 where
  pub rest : List A
  pub shorter : length xs ≡ suc (length rest)
  pub kept : (z : A) → IsIn z xs → (x ≡ z) ⊎ IsIn z rest
  pub only : (z : A) → IsIn z rest → IsIn z xs

kept_further : {A : Type 0} (x y z : A) (xs rest : List A) → ((w : A) → IsIn w xs → (x ≡ w) ⊎ IsIn w rest) → IsIn z (y ∷ xs) → (x ≡ z) ⊎ IsIn z (y ∷ rest)
kept_further x y z xs rest f here = inr here
kept_further x y z xs rest f (there m) = elim (f z m) as (λ _. (x ≡ z) ⊎ IsIn z (y ∷ rest)) [ inl e ↦ inl e | inr i ↦ inr (there i) ]

only_further : {A : Type 0} (y z : A) (xs rest : List A) → ((w : A) → IsIn w rest → IsIn w xs) → IsIn z (y ∷ rest) → IsIn z (y ∷ xs)
only_further y z xs rest f here = here
only_further y z xs rest f (there m) = there (f z m)

without_further : {A : Type 0} (x y : A) (xs : List A) → Without x xs → Without x (y ∷ xs)
without_further x y xs w = record {
  rest = y ∷ w.rest;
  shorter = ap suc w.shorter;
  kept = λ z m. kept_further x y z xs w.rest w.kept m;
  only = λ z m. only_further y z xs w.rest w.only m;
}

pub without : {A : Type 0} {x : A} {xs : List A} → IsIn x xs → Without x xs
without {A} {x} (here {xs}) = record { rest = xs; shorter = refl; kept = λ z m. in_cases m; only = λ z m. there m }
without {A} {x} (there {y} {xs} m) = without_further x y xs (without m)

pub no_fewer : {A : Type 0} {x : A} {xs : List A} → length xs ≡ 0 → IsIn x xs → ⊥
no_fewer {xs = []} e m = elim m [ ]
no_fewer {xs = y ∷ xs} e m = absurd (cc)

-- More texts than a list has cannot all be in it.
pub too_many : (n : ℕ) (f : ℕ → List ℕ) → ((i j : ℕ) → i ≤ n → j ≤ n → f i ≡ f j → i ≡ j) → (taken : List (List ℕ)) → length taken ≡ n → ((i : ℕ) → i ≤ n → IsIn (f i) taken) → ⊥
too_many zero f different taken e all = no_fewer e (all 0 (omega arith))
too_many (suc n) f different taken e all =
    let w : Without (f (suc n)) taken = without (all (suc n) (omega arith)) in
    let left : length w.rest ≡ n = omega (arith, e, w.shorter) in
    too_many n f (λ i j p q. different i j (omega arith) (omega arith)) w.rest left (λ i p. still i p (w.kept (f i) (all i (omega arith))))
  where
    still : {rest : List (List ℕ)} (i : ℕ) → i ≤ n → (f (suc n) ≡ f i) ⊎ IsIn (f i) rest → IsIn (f i) rest
    still i p (inl same) = let s : suc n ≡ i = different (suc n) i (omega arith) (omega arith) same in absurd (omega arith)
    still i p (inr m) = m

pub taken_out : (k : ℕ) (ns : List ℕ) → IsIn k ns → (rest : List ℕ) × (length ns ≡ suc (length rest)) × ((j : ℕ) → IsIn j ns → j ≢ k → IsIn j rest)
taken_out k [] p = elim p [ ]
taken_out k (n ∷ ns) here = (ns, refl, first)
  where
    first : (j : ℕ) → IsIn j (k ∷ ns) → j ≢ k → IsIn j ns
    first j here other = absurd (other refl)
    first j (there q) other = q
taken_out k (n ∷ ns) (there p) =
    let r = taken_out k ns p in
    (n ∷ r.0, ap suc r.1, λ j q other. later r.0 r.2 j q other)
  where
    later : (rest : List ℕ) → ((j : ℕ) → IsIn j ns → j ≢ k → IsIn j rest) → (j : ℕ) → IsIn j (n ∷ ns) → j ≢ k → IsIn j (n ∷ rest)
    later rest h j here other = here
    later rest h j (there q) other = there (h j q other)
