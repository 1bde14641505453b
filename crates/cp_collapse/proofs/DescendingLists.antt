-- Lists in descending lexicographic order, and lists with one item more.
use Rattle.std.proofs.Common.{◌≡◌, ◌⊎◌, inl, inr, ℕ, zero, suc, ◌<◌, List, [], ◌∷◌, ◌++◌, Some, refl, sym, ap, subst, arith}
use Rattle.cp_lists.specs.Lists.{item_at, IsIn, here, there}
use Rattle.cp_lists.proofs.Members.{in_append, only_item}
use Rattle.cp_lists.proofs.Items.{at_place}
use Rattle.cp_collapse.specs.Partitions.{IsLower, AreDescending}

next_case : {P : Type 0} {i n : ℕ} → ((i < n) × P) ⊎ ((i ≡ n) × P) → ((suc i < suc n) × P) ⊎ ((suc i ≡ suc n) × P)
next_case (inl r) = let l = r.0 in inl (omega (arith, l), r.1)
next_case (inr r) = inr (ap suc r.0, r.1)

-- Lower lists.
pub lower_with : (p q : List ℕ) (x y : ℕ) → IsLower p q → IsLower (p ++ (x ∷ [])) (q ++ (y ∷ []))
lower_with [] q x y l = absurd l
lower_with (a ∷ p) [] x y l = absurd l
lower_with (a ∷ p) (b ∷ q) x y (inl l) = inl l
lower_with (a ∷ p) (b ∷ q) x y (inr r) = inr (r.0, lower_with p q x y r.1)

pub lower_last : (p : List ℕ) (x y : ℕ) → x < y → IsLower (p ++ (x ∷ [])) (p ++ (y ∷ []))
lower_last [] x y l = inl l
lower_last (a ∷ p) x y l = inr (refl, lower_last p x y l)

pub never_lower : (p : List ℕ) → IsLower p p → ⊥
never_lower [] l = l
never_lower (a ∷ p) (inl l) = omega (arith, l)
never_lower (a ∷ p) (inr r) = never_lower p r.1

pub descending_at : (ps : List (List ℕ)) (j i : ℕ) (p q : List ℕ) → AreDescending ps → j < i → item_at ps j ≡ Some q → item_at ps i ≡ Some p → IsLower p q
descending_at [] j i p q d l e f = absurd (cc)
descending_at (r ∷ ps) j zero p q d l e f = absurd (omega (arith, l))
descending_at (r ∷ ps) zero (suc i) p q d l e f = let same : r ≡ q = cc in subst (IsLower p) same (d.0 p (at_place ps i _ f))
descending_at (r ∷ ps) (suc j) (suc i) p q d l e f = descending_at ps j i p q d.1 (omega (arith, l)) e f

end_lower : (p : List ℕ) (ps : List (List ℕ)) (x q : List ℕ) → ((r : List ℕ) → IsIn r ps → IsLower r p) → IsLower x p → IsIn q ps ⊎ IsIn q (x ∷ []) → IsLower q p
end_lower p ps x q d l (inl i) = d q i
end_lower p ps x q d l (inr i) = subst (λ (r : List ℕ). IsLower r p) (sym (only_item i)) l

pub descending_with : (ps : List (List ℕ)) (x : List ℕ) → AreDescending ps → ((q : List ℕ) → IsIn q ps → IsLower x q) → AreDescending (ps ++ (x ∷ []))
descending_with [] x d l = (λ q i. elim i [ ], tt)
descending_with (p ∷ ps) x d l = (λ q i. end_lower p ps x q d.0 (l p here) (in_append ps (x ∷ []) i), descending_with ps x d.1 (λ q i. l q (there i)))
