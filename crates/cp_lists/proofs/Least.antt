-- Numbers below a bound, and the least of them that has a decidable property.
use Rattle.std.proofs.Common.{◌≡◌, ◌⊎◌, inl, inr, ℕ, zero, suc, ◌<◌, subst, arith}

-- A number below the next one is below this one, or is it.
pub less_or_same : (k n : ℕ) → k < suc n → (k < n) ⊎ (k ≡ n)
less_or_same k n l = grind arith

abbrev pub NoneBelow : (ℕ → Type 0) → ℕ → Type 0
NoneBelow P n = (k : ℕ) → k < n → P k → ⊥

abbrev pub LeastBelow : (ℕ → Type 0) → ℕ → Type 0
LeastBelow P n = (j : ℕ) × (j < n) × P j × NoneBelow P j

none_more : (P : ℕ → Type 0) (n : ℕ) → NoneBelow P n → (P n → ⊥) → (k : ℕ) → (k < n) ⊎ (k ≡ n) → P k → ⊥
none_more P n none last k (inl l) p = none k l p
none_more P n none last k (inr e) p = last (subst P e p)

least_more : (P : ℕ → Type 0) (n : ℕ) → Dec (P n) → LeastBelow P n ⊎ NoneBelow P n → LeastBelow P (suc n) ⊎ NoneBelow P (suc n)
least_more P n d (inl r) = let l : r.0 < n = r.1 in inl (r.0, omega arith, r.2, r.3)
least_more P n (yes p) (inr none) = inl (n, omega arith, p, none)
least_more P n (no q) (inr none) = inr (λ k l. none_more P n none q k (less_or_same k n l))

-- There is a least one, or none.
pub least_or_none : (P : ℕ → Type 0) → ((j : ℕ) → Dec (P j)) → (n : ℕ) → LeastBelow P n ⊎ NoneBelow P n
least_or_none P d zero = inr (λ k l. absurd (omega arith))
least_or_none P d (suc n) = least_more P n (d n) (least_or_none P d n)

least_of : (P : ℕ → Type 0) (n : ℕ) → P n → LeastBelow P (suc n) ⊎ NoneBelow P (suc n) → LeastBelow P (suc n)
least_of P n p (inl r) = r
least_of P n p (inr none) = absurd (none n (omega arith) p)

-- Where n has the property there is a least one up to n.
pub least : (P : ℕ → Type 0) → ((j : ℕ) → Dec (P j)) → (n : ℕ) → P n → LeastBelow P (suc n)
least P d n p = least_of P n p (least_or_none P d (suc n))
