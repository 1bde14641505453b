-- Below each number there is one that is minimal.
use Rattle.std.proofs.Common.{◌≡◌, ◌⊎◌, inl, inr, ℕ, zero, suc, ◌<◌, Bool, true, false, refl, subst, ◌∙◌, arith}
use Rattle.cp_lists.proofs.Least.{less_or_same}

-- Number j is chosen, is below i, and no other of the first n chosen ones is below it.
pub record IsMinimalBelow (e : ℕ → ℕ → Bool) (r : ℕ → Bool) (n i j : ℕ) : Type 0 where
  pub chosen : r j ≡ true
  pub below : e j i ≡ true
  pub least : (k : ℕ) → k < n → r k ≡ true → e k j ≡ true → k ≡ j

-- Of the chosen numbers an order that is given by tests.
module _ (e : ℕ → ℕ → Bool) (r : ℕ → Bool) (same : (i : ℕ) → r i ≡ true → e i i ≡ true) (then : (i j k : ℕ) → e i j ≡ true → e j k ≡ true → e i k ≡ true)
    (apart : (i j : ℕ) → r i ≡ true → r j ≡ true → e i j ≡ true → e j i ≡ true → i ≡ j) where
  -- It stays minimal where the next number is not below it.
  module _ (n i j : ℕ) (m : IsMinimalBelow e r n i j) where
    least_with : (r n ≡ true → e n j ≡ true → n ≡ j) → (k : ℕ) → (k < n) ⊎ (k ≡ n) → r k ≡ true → e k j ≡ true → k ≡ j
    least_with next k (inl l) a b = m.least k l a b
    least_with next k (inr q) a b = q ∙ next (subst (λ x. r x ≡ true) q a) (subst (λ x. e x j ≡ true) q b)

    kept : (r n ≡ true → e n j ≡ true → n ≡ j) → IsMinimalBelow e r (suc n) i j
    kept next = record { chosen = m.chosen; below = m.below; least = λ k l. least_with next k (less_or_same k n l) }

  -- What is minimal below the next number is minimal with it.
  lower : (n i j : ℕ) → r n ≡ true → e n i ≡ true → IsMinimalBelow e r n n j → IsMinimalBelow e r (suc n) i j
  lower n i j a b m =
      let low : IsMinimalBelow e r n i j = record { chosen = m.chosen; below = then j n i m.below b; least = m.least } in
      kept n i j low (λ h g. apart n j h m.chosen g m.below)

  choose : (n i j : ℕ) → IsMinimalBelow e r n i j → (r n ≡ true → (l : ℕ) × IsMinimalBelow e r n n l) → (a b : Bool) → r n ≡ a → e n j ≡ b → (l : ℕ) × IsMinimalBelow e r (suc n) i l
  choose n i j m next false b p q = (j, kept n i j m (λ h g. absurd (cc)))
  choose n i j m next true false p q = (j, kept n i j m (λ h g. absurd (cc)))
  choose n i j m next true true p q = let l = next p in (l.0, lower n i l.0 p (then n j i q m.below) l.1)

  pub minimal_below : (n i : ℕ) → r i ≡ true → (j : ℕ) × IsMinimalBelow e r n i j
  minimal_below zero i h = (i, record { chosen = h; below = same i h; least = λ k l. absurd (omega (arith, l)) })
  minimal_below (suc n) i h = let m = minimal_below n i h in choose n i m.0 m.1 (minimal_below n n) (r n) (e n m.0) refl refl
