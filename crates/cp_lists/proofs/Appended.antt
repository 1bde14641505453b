-- How long lists are, and when there is nothing in them.
use Rattle.std.proofs.Common.{◌≡◌, ◌≢◌, ℕ, suc, List, [], ◌∷◌, ◌++◌, length, true, false, nat_eq, refl, ap, arith, eqb-true, append_assoc, sym, ◌∙◌, reverse}
use Rattle.std.proofs.lemmas.List.{reverse-append}

-- ---- one list behind another

pub none_in_both : {A : Type 0} (xs ys : List A) → xs ++ ys ≡ [] → (xs ≡ []) × (ys ≡ [])
none_in_both [] ys e = (refl, e)
none_in_both (x ∷ xs) ys e = absurd (cc)

-- the same of the front and of the rest
pub none_before : {A : Type 0} (xs ys : List A) → xs ++ ys ≡ [] → xs ≡ []
none_before xs ys e = (none_in_both xs ys e).0

pub none_behind : {A : Type 0} (xs ys : List A) → xs ++ ys ≡ [] → ys ≡ []
none_behind xs ys e = (none_in_both xs ys e).1

pub length_pushed : {A : Type 0} (xs : List A) (y : A) → length (xs ++ y ∷ []) ≡ suc (length xs)
length_pushed [] y = refl
length_pushed (x ∷ xs) y = ap suc (length_pushed xs y)

-- ---- what a test of the length says

pub none_counted : {A : Type 0} (xs : List A) (n : ℕ) → n ≡ length xs → nat_eq n 0 ≡ true → xs ≡ []
none_counted [] n e t = refl
none_counted (x ∷ xs) n e t = let z : n ≡ 0 = eqb-true n 0 t in absurd (omega (arith, e, z))

pub some_counted : {A : Type 0} (xs : List A) (n : ℕ) → n ≡ length xs → nat_eq n 0 ≡ false → xs ≢ []
some_counted [] n e f = absurd (let t : nat_eq n 0 ≡ true = ap (λ (k : ℕ). nat_eq k 0) e in cc)
some_counted (x ∷ xs) n e f = λ q. cc

-- ---- lists of several parts

pub append-two : {A : Type 0} (ts : List A) (a b : A) → (ts ++ a ∷ []) ++ b ∷ [] ≡ ts ++ a ∷ b ∷ []
append-two [] a b = refl
append-two (t ∷ ts) a b = ap (λ us. t ∷ us) (append-two ts a b)

-- An item behind the old ones, taken from those that are left.
pub moved_behind : {A : Type 0} (old new left rest whole : List A) (x : A) → new ≡ old ++ (x ∷ []) → left ≡ x ∷ rest → old ++ left ≡ whole → new ++ rest ≡ whole
moved_behind old new left rest whole x n l e = ap (λ ys. ys ++ rest) n ∙ append_assoc old (x ∷ []) rest ∙ sym (ap (λ ys. old ++ ys) l) ∙ e

pub none_and : {A : Type 0} (xs ys : List A) → xs ≡ [] → ys ≡ [] → xs ++ ys ≡ []
none_and xs ys e f = ap (λ zs. zs ++ ys) e ∙ f

pub next_first : {A : Type 0} (left rest : List A) (x : A) → left ≡ rest ++ x ∷ [] → reverse left ≡ x ∷ reverse rest
next_first left rest x e = ap reverse e ∙ reverse-append rest (x ∷ [])

pub some_behind : {A : Type 0} (xs : List A) (y : A) → xs ++ y ∷ [] ≡ [] → ⊥
some_behind [] y e = cc
some_behind (x ∷ xs) y e = cc

-- as of two lists
pub none_of_three : {A : Type 0} (xs ys zs : List A) → xs ++ ys ++ zs ≡ [] → (xs ≡ []) × (ys ≡ []) × (zs ≡ [])
none_of_three [] [] zs e = (refl, refl, e)
none_of_three [] (y ∷ ys) zs e = absurd (cc)
none_of_three (x ∷ xs) ys zs e = absurd (cc)

pub none_of_four : {A : Type 0} (ws xs ys zs : List A) → ws ++ xs ++ ys ++ zs ≡ [] → (ws ≡ []) × (xs ≡ []) × (ys ≡ []) × (zs ≡ [])
none_of_four [] [] [] zs e = (refl, refl, refl, e)
none_of_four [] [] (y ∷ ys) zs e = absurd (cc)
none_of_four [] (x ∷ xs) ys zs e = absurd (cc)
none_of_four (w ∷ ws) xs ys zs e = absurd (cc)
