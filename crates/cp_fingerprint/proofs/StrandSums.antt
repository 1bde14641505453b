-- Sums over lists: of numbers that go apart to numbers that are no less, the sum is no more.
use Rattle.std.proofs.Common.{◌≡◌, ◌≢◌, ℕ, zero, suc, ◌+◌, ◌≤◌, List, [], ◌∷◌, ◌++◌, map, refl, ap, ap₂, ◌∙◌, arith, ◌⊎◌, inl, inr}
use Rattle.std.specs.Prelude.{Some}
use Rattle.cp_lists.specs.Lists.{item_at, IsIn, here, there}

abbrev pub total : List ℕ → ℕ
total [] = 0
total (n ∷ ns) = n + total ns

abbrev pub sum_of : {A : Type 0} → (A → ℕ) → List A → ℕ
sum_of w [] = 0
sum_of w (x ∷ xs) = w x + sum_of w xs

pub sum_append : {A : Type 0} (w : A → ℕ) (xs ys : List A) → sum_of w (xs ++ ys) ≡ sum_of w xs + sum_of w ys
sum_append w [] ys = let e : sum_of w ys ≡ 0 + sum_of w ys = omega arith in e
sum_append w (x ∷ xs) ys = let h : sum_of w (xs ++ ys) ≡ sum_of w xs + sum_of w ys = sum_append w xs ys in omega (arith, h)

pub total_map : {A : Type 0} (w : A → ℕ) (xs : List A) → total (map w xs) ≡ sum_of w xs
total_map w [] = refl
total_map w (x ∷ xs) = ap (λ (n : ℕ). w x + n) (total_map w xs)

pub sum_map : {A B : Type 0} (w : B → ℕ) (f : A → B) (xs : List A) → sum_of w (map f xs) ≡ sum_of (λ x. w (f x)) xs
sum_map w f [] = refl
sum_map w f (x ∷ xs) = ap (λ (n : ℕ). w (f x) + n) (sum_map w f xs)

pub sum_same : {A : Type 0} (u w : A → ℕ) (xs : List A) → ((x : A) → IsIn x xs → u x ≡ w x) → sum_of u xs ≡ sum_of w xs
sum_same u w [] h = refl
sum_same u w (x ∷ xs) h = ap₂ (λ (m n : ℕ). m + n) (h x here) (sum_same u w xs (λ y p. h y (there p)))

pub sum_no_more : {A : Type 0} (u w : A → ℕ) (xs : List A) → ((x : A) → IsIn x xs → u x ≤ w x) → sum_of u xs ≤ sum_of w xs
sum_no_more u w [] h = omega arith
sum_no_more u w (x ∷ xs) h = let one = h x here in let rest = sum_no_more u w xs (λ y p. h y (there p)) in omega (arith, one, rest)

pub sum_zero : {A : Type 0} (u : A → ℕ) (xs : List A) → ((x : A) → IsIn x xs → u x ≡ 0) → sum_of u xs ≡ 0
sum_zero u [] h = refl
sum_zero u (x ∷ xs) h = let one = h x here in let rest = sum_zero u xs (λ y p. h y (there p)) in omega (arith, one, rest)

pub sum_both : {A : Type 0} (u v w : A → ℕ) (xs : List A) → ((x : A) → u x ≡ v x + w x) → sum_of u xs ≡ sum_of v xs + sum_of w xs
sum_both u v w [] h = refl
sum_both u v w (x ∷ xs) h =
    let one = h x in
    let rest : sum_of u xs ≡ sum_of v xs + sum_of w xs = sum_both u v w xs h in
    omega (arith, one, rest)

-- ---- a list with 0 in the place of one of its numbers

abbrev without : List ℕ → ℕ → List ℕ
without [] k = []
without (m ∷ ms) zero = 0 ∷ ms
without (m ∷ ms) (suc k) = m ∷ without ms k

without_total : (ms : List ℕ) (k m : ℕ) → item_at ms k ≡ Some m → total ms ≡ m + total (without ms k)
without_total [] k m at = absurd (cc)
without_total (n ∷ ms) zero m at = let q : n ≡ m = cc in let e : n + total ms ≡ m + (0 + total ms) = omega (arith, q) in e
without_total (n ∷ ms) (suc k) m at = let h : total ms ≡ m + total (without ms k) = without_total ms k m at in omega (arith, h)

without_other : (ms : List ℕ) (k j : ℕ) → j ≢ k → item_at (without ms k) j ≡ item_at ms j
without_other [] k j other = refl
without_other (m ∷ ms) zero zero other = absurd (other refl)
without_other (m ∷ ms) zero (suc j) other = refl
without_other (m ∷ ms) (suc k) zero other = refl
without_other (m ∷ ms) (suc k) (suc j) other = without_other ms k j (λ e. other (ap suc e))

-- ---- sums of what goes apart

-- The item weighs nothing; or it counts, and goes to a number that is no less.
abbrev pub GoesToMore : {A : Type 0} → (A → ℕ) → (A → Type 0) → List ℕ → ℕ → A → Type 0
GoesToMore w counts ms k x = (w x ≡ 0) ⊎ (counts x × ((m : ℕ) × (item_at ms k ≡ Some m) × (w x ≤ m)))

abbrev pub GoApart : {A : Type 0} → (A → Type 0) → List A → (ℕ → ℕ) → Type 0
GoApart {A} counts xs f = (i j : ℕ) (x y : A) → item_at xs i ≡ Some x → item_at xs j ≡ Some y → counts x → counts y → f i ≡ f j → i ≡ j

pub no_more_in_all : {A : Type 0} (w : A → ℕ) (counts : A → Type 0) (xs : List A) (f : ℕ → ℕ) (ms : List ℕ) →
    ((i : ℕ) (x : A) → item_at xs i ≡ Some x → GoesToMore w counts ms (f i) x) → GoApart counts xs f → sum_of w xs ≤ total ms
no_more_in_all w counts [] f ms goes apart = omega arith
no_more_in_all {A} w counts (x ∷ xs) f ms goes apart = by (λ ns h. no_more_in_all w counts xs (λ i. f (suc i)) ns h later) (goes 0 x refl)
  where
    later : GoApart counts xs (λ i. f (suc i))
    later i j y z at au p q e = let h : suc i ≡ suc j = apart (suc i) (suc j) y z at au p q e in omega (arith, h)

    elsewhere : counts x → (i : ℕ) (y : A) → item_at xs i ≡ Some y → counts y → f (suc i) ≢ f 0
    elsewhere p i y at q e = let h : suc i ≡ 0 = apart (suc i) 0 y x at refl q p e in omega (arith, h)

    onward : counts x → (i : ℕ) (y : A) → item_at xs i ≡ Some y → GoesToMore w counts ms (f (suc i)) y → GoesToMore w counts (without ms (f 0)) (f (suc i)) y
    onward p i y at (inl none) = inl none
    onward p i y at (inr h) = inr (h.0, (h.1.0, without_other ms (f 0) (f (suc i)) (elsewhere p i y at h.0) ∙ h.1.1, h.1.2))

    by : ((ns : List ℕ) → ((i : ℕ) (y : A) → item_at xs i ≡ Some y → GoesToMore w counts ns (f (suc i)) y) → sum_of w xs ≤ total ns) → GoesToMore w counts ms (f 0) x → w x + sum_of w xs ≤ total ms
    by rest (inl none) =
        let h = rest ms (λ i y at. goes (suc i) y at) in
        omega (arith, none, h)
    by rest (inr g) =
        let h = rest (without ms (f 0)) (λ i y at. onward g.0 i y at (goes (suc i) y at)) in
        let e : total ms ≡ g.1.0 + total (without ms (f 0)) = without_total ms (f 0) g.1.0 g.1.1 in
        let l : w x ≤ g.1.0 = g.1.2 in
        omega (arith, l, h, e)
