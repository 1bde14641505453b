-- The lowest number that goes with a number, and lists of numbers from one on.
use Rattle.std.proofs.Common.{◌≡◌, ◌⊎◌, inl, inr, ℕ, zero, suc, ◌<◌, ◌≤◌, ◌+◌, Bool, true, false, ◌&&◌, List, [], ◌∷◌, Some, cond, length, refl, sym, ap, ◌∙◌, subst, arith, eq-or-lt_of_le}
use native.Mathlib.Decide.{dec_lt}
use Rattle.cp_lists.specs.Lists.{item_at}
use Rattle.cp_model.specs.Problem.{numbers_from}
use Rattle.cp_model.proofs.CarriedParts.{not_both}

-- The least number below n that passes the test, or the given one.
abbrev pub least : (ℕ → Bool) → ℕ → ℕ → ℕ
least test zero d = d
least test (suc n) d = least test n (cond (test n) n d)

abbrev IsLeast : (ℕ → Bool) → ℕ → ℕ → ℕ → Type 0
IsLeast test n d m =
    ((m ≡ d) × ((t : ℕ) → t < n → test t ≡ false)) ⊎ ((m < n) × (test m ≡ true) × ((t : ℕ) → t < m → test t ≡ false))

below_next : (test : ℕ → Bool) (n : ℕ) → ((t : ℕ) → t < n → test t ≡ false) → test n ≡ false → (t : ℕ) → t < suc n → test t ≡ false
below_next test n below last t l = by (eq-or-lt_of_le (omega (arith, l)))
  where
    by : (t ≡ n) ⊎ (t < n) → test t ≡ false
    by (inl e) = ap test e ∙ last
    by (inr m) = below t m

least_next : (test : ℕ → Bool) (n d m : ℕ) (b : Bool) → test n ≡ b → IsLeast test n (cond b n d) m → IsLeast test (suc n) d m
least_next test n d m true e (inl p) = inr (let q = p.0 in omega arith, ap test p.0 ∙ e, λ t l. p.1 t (let q = p.0 in omega (arith, l)))
least_next test n d m false e (inl p) = inl (p.0, below_next test n p.1 e)
least_next test n d m b e (inr p) = inr (let q = p.0 in omega arith, p.1, p.2)

pub least_is : (test : ℕ → Bool) (n d : ℕ) → IsLeast test n d (least test n d)
least_is test zero d = inl (refl, λ t l. absurd (omega arith))
least_is test (suc n) d = least_next test n d (least test n (cond (test n) n d)) (test n) refl (least_is test n (cond (test n) n d))

pub both : (a b : Bool) → a && b ≡ true → (a ≡ true) × (b ≡ true)
both true true e = (refl, refl)
both true false e = absurd (cc)
both false b e = absurd (cc)

module _ (together : ℕ → ℕ → Bool) where
  -- The lowest number that goes with s.
  abbrev pub low : ℕ → ℕ
  low s = least (λ t. together t s) s s

  pub low_below : (s : ℕ) → low s ≤ s
  low_below s = elim (least_is (λ t. together t s) s s) [ inl p ↦ let q = p.0 in omega arith | inr p ↦ let q = p.0 in omega arith ]

  pub low_with : (s : ℕ) → (low s ≡ s) ⊎ (together (low s) s ≡ true)
  low_with s = elim (least_is (λ t. together t s) s s) as (λ _. (low s ≡ s) ⊎ (together (low s) s ≡ true)) [ inl p ↦ inl p.0 | inr p ↦ inr p.1 ]

  pub low_first : (s t : ℕ) → t < low s → together t s ≡ false
  low_first s t l = elim (least_is (λ u. together u s) s s) [ inl p ↦ p.1 t (let q = p.0 in omega (arith, l)) | inr p ↦ p.2 t l ]

  module _ (back : (s t : ℕ) → together s t ≡ true → together t s ≡ true) (then : (s t u : ℕ) → together s t ≡ true → together t u ≡ true → together s u ≡ true) where
    low_goes_too : (s t : ℕ) → together s t ≡ true → together (low s) t ≡ true
    low_goes_too s t e = elim (low_with s) [ inl p ↦ subst (λ (a : ℕ). together a t ≡ true) (sym p) e | inr p ↦ then (low s) s t p e ]

    not_lower : (s t : ℕ) → together s t ≡ true → low s < low t → ⊥
    not_lower s t e l = not_both (low_first t (low s) l) (low_goes_too s t e)

    -- Numbers that go together have one lowest.
    pub low_same : (s t : ℕ) → together s t ≡ true → low s ≡ low t
    low_same s t e = by (dec_lt (low s) (low t)) (dec_lt (low t) (low s))
      where
        by : Dec (low s < low t) → Dec (low t < low s) → low s ≡ low t
        by (yes l) m = absurd (not_lower s t e l)
        by (no n) (yes l) = absurd (not_lower t s (back s t e) l)
        by (no n) (no m) = omega (arith, n, m)

    pub low_of_low : (s : ℕ) → low (low s) ≡ low s
    low_of_low s = elim (low_with s) [ inl p ↦ ap low p | inr p ↦ low_same (low s) s p ]

pub numbers_at : {A : Type 0} (n : ℕ) (xs : List A) (i : ℕ) → i < length xs → item_at (numbers_from n xs) i ≡ Some (n + i)
numbers_at n [] i l = absurd (omega arith)
numbers_at n (x ∷ xs) zero l = ap Some (omega arith)
numbers_at n (x ∷ xs) (suc i) l = numbers_at (suc n) xs i (omega (arith, l)) ∙ ap Some (omega arith)

pub at_numbers : {A : Type 0} (n : ℕ) (xs : List A) (i j : ℕ) → item_at (numbers_from n xs) i ≡ Some j → (i < length xs) × (j ≡ n + i)
at_numbers n [] i j e = absurd (cc)
at_numbers n (x ∷ xs) zero j e = let f : n ≡ j = cc in (omega arith, omega (arith, f))
at_numbers n (x ∷ xs) (suc i) j e = let r = at_numbers (suc n) xs i j e in let l = r.0 in let f = r.1 in (omega (arith, l), omega (arith, f))
