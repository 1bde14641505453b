-- Rows that are made number by number, and what is first in them.
use Rattle.std.proofs.Common.{◌≡◌, ◌↔◌, ◌⊎◌, inl, inr, ℕ, zero, suc, ◌+◌, ◌<◌, List, [], ◌∷◌, ◌++◌, drop, sym, subst, arith}
use Rattle.cp_lists.specs.Lists.{IsIn, here, there}
use Rattle.cp_model.specs.Skeleton.{Skeleton}
use Rattle.cp_lists.proofs.Members.{in_append, in_append_left, in_append_right, only_item, below_end}
use Rattle.cp_lists.proofs.Least.{less_or_same}
use Rattle.cp_shapes.specs.Shapes.{IsInstanceWithin}
use Rattle.cp_shapes.specs.Rows.{IsRising, IsRowOf}

pub rising_with : (ns : List ℕ) (m : ℕ) → IsRising ns → ((n : ℕ) → IsIn n ns → n < m) → IsRising (ns ++ m ∷ [])
rising_with [] m r below = ((λ k i. elim i [ ]), tt)
rising_with (n ∷ ns) m r below = (
  (λ k i. below_end n m ns (below n here) r.0 k (in_append ns (m ∷ []) i)),
  rising_with ns m r.1 (λ k i. below k (there i)),
)

pub rising_behind : (i : ℕ) (ns : List ℕ) → IsRising ns → IsRising (drop i ns)
rising_behind zero ns r = r
rising_behind (suc i) [] r = tt
rising_behind (suc i) (n ∷ ns) r = rising_behind i ns r.1

-- ---- a row that is made

-- The row has those below n of which candidate number m is an instance.
pub record IsRowTo (ks : List Skeleton) (m : ℕ) (row : List ℕ) (n : ℕ) : Type 0 where
  pub listed : (k : ℕ) → IsIn k row ↔ ((k < n) × IsInstanceWithin ks m k)
  pub rising : IsRising row

pub no_row : (ks : List Skeleton) (m : ℕ) (row : List ℕ) → row ≡ [] → IsRowTo ks m row 0
no_row ks m row e = subst (λ (r : List ℕ). IsRowTo ks m r 0) (sym e) (record {
  listed = λ k. ((λ i. elim i [ ]), λ h. absurd (let l : k < 0 = h.0 in omega (arith, l)));
  rising = tt;
})

module _ (ks : List Skeleton) (m n : ℕ) (row : List ℕ) (so_far : IsRowTo ks m row n) where
  still_before : (k : ℕ) → (IsInstanceWithin ks m n → ⊥) → (k < n) ⊎ (k ≡ n) → IsInstanceWithin ks m k → IsIn k row
  still_before k not (inl l) h = (so_far.listed k).1 (l, h)
  still_before k not (inr e) h = absurd (not (subst (IsInstanceWithin ks m) e h))

  pub row_without : (IsInstanceWithin ks m n → ⊥) → IsRowTo ks m row (n + 1)
  row_without not = record {
    listed = λ k. (
      λ i. let h = (so_far.listed k).0 i in (let l : k < n = h.0 in omega (arith, l), h.1),
      λ h. still_before k not (less_or_same k n (omega (arith, h.0))) h.1,
    );
    rising = so_far.rising;
  }

  module _ (is : IsInstanceWithin ks m n) where
    now_before : (k : ℕ) → IsIn k row ⊎ IsIn k (n ∷ []) → (k < n + 1) × IsInstanceWithin ks m k
    now_before k (inl i) = let h = (so_far.listed k).0 i in (let l : k < n = h.0 in omega (arith, l), h.1)
    now_before k (inr i) = let e : k ≡ n = only_item i in (omega (arith, e), subst (IsInstanceWithin ks m) (sym e) is)

    now_listed : (k : ℕ) → (k < n) ⊎ (k ≡ n) → IsInstanceWithin ks m k → IsIn k (row ++ n ∷ [])
    now_listed k (inl l) h = in_append_left (n ∷ []) ((so_far.listed k).1 (l, h))
    now_listed k (inr e) h = in_append_right row (subst (λ (x : ℕ). IsIn x (n ∷ [])) (sym e) here)

    pub row_with : (new : List ℕ) → new ≡ row ++ n ∷ [] → IsRowTo ks m new (n + 1)
    row_with new e = subst (λ (r : List ℕ). IsRowTo ks m r (n + 1)) (sym e) (record {
      listed = λ k. (
        λ i. now_before k (in_append row (n ∷ []) i),
        λ h. now_listed k (less_or_same k n (omega (arith, h.0))) h.1,
      );
      rising = rising_with row n so_far.rising (λ k i. ((so_far.listed k).0 i).0);
    })

  pub whole_row : ((k : ℕ) → IsInstanceWithin ks m k → k < n) → IsRowOf ks m row
  whole_row all = record { listed = λ k. ((λ i. ((so_far.listed k).0 i).1), λ h. (so_far.listed k).1 (all k h, h)); rising = so_far.rising }
