-- Lists that are related place by place, and the first item that is so.
use Rattle.std.proofs.Common.{◌≡◌, ℕ, zero, suc, ◌≤◌, List, [], ◌∷◌, ◌++◌, Option, Some, map, drop, length, refl, sym, subst, inl, inr, arith}
use Rattle.std.proofs.lemmas.List.{append-nil, drop_all}
use Rattle.cp_lists.specs.Lists.{item_at}
use Rattle.cp_model.specs.Senders.{IsFirst, ArePaired}

-- Where nothing is left, all are paired.
pub paired_whole : {A B C : Type 0} (R : B → C → Type 0) (f : A → B) (xs : List A) (ys : List C) (n : ℕ) → length xs ≤ n →
    ((rest : List C) → ArePaired R (map f (drop n xs)) rest → ArePaired R (map f xs) (ys ++ rest)) → ArePaired R (map f xs) ys
paired_whole R f xs ys n all h =
    subst (ArePaired R (map f xs)) (append-nil ys) (h [] (subst (λ zs. ArePaired R (map f zs) []) (sym (drop_all n xs all)) tt))

-- Where nothing is left of the items themselves, all are paired.
pub paired_to_the_end : {A C : Type 0} (R : A → C → Type 0) (xs : List A) (ys : List C) (n : ℕ) → length xs ≤ n →
    ((rest : List C) → ArePaired R (drop n xs) rest → ArePaired R xs (ys ++ rest)) → ArePaired R xs ys
paired_to_the_end R xs ys n all h =
    subst (ArePaired R xs) (append-nil ys) (h [] (subst (λ zs. ArePaired R zs []) (sym (drop_all n xs all)) tt))

-- The partner of an item.
pub paired_item : {A B : Type 0} (R : A → B → Type 0) (xs : List A) (ys : List B) → ArePaired R xs ys → (i : ℕ) (x : A) → item_at xs i ≡ Some x → (y : B) × (item_at ys i ≡ Some y) × R x y
paired_item R [] ys p i x e = absurd (cc)
paired_item R (z ∷ xs) [] p i x e = elim p [ ]
paired_item R (z ∷ xs) (y ∷ ys) p zero x e = let same : z ≡ x = cc in (y, refl, subst (λ w. R w y) same p.0)
paired_item R (z ∷ xs) (y ∷ ys) p (suc i) x e = paired_item R xs ys p.1 i x e

-- Where one item is so, one is found.
pub first_found : {A : Type 0} (P : A → Type 0) (xs : List A) (found : Option A) → IsFirst P xs found → (i : ℕ) (x : A) → item_at xs i ≡ Some x → P x → (y : A) × (found ≡ Some y)
first_found P [] found h i x e p = absurd (cc)
first_found P (z ∷ xs) found (inl h) i x e p = (z, h.1)
first_found P (z ∷ xs) found (inr h) zero x e p = let same : x ≡ z = cc in absurd (h.0 (subst P same p))
first_found P (z ∷ xs) found (inr h) (suc i) x e p = first_found P xs found h.1 i x e p

-- What is found stands at some place, is so, and no item before that place is.
pub record FirstPlace {A : Type 0} (P : A → Type 0) (xs : List A) (x : A) : Type 0 where
  pub place : ℕ
  pub listed : item_at xs place ≡ Some x
  pub is_so : P x
  pub first : (j : ℕ) (y : A) → item_at xs j ≡ Some y → P y → place ≤ j

later : {A : Type 0} (P : A → Type 0) (z : A) (xs : List A) (x : A) → (P z → ⊥) → FirstPlace P xs x → FirstPlace P (z ∷ xs) x
later {A} P z xs x not f = record { place = suc f.place; listed = f.listed; is_so = f.is_so; first = after }
  where
    after : (j : ℕ) (y : A) → item_at (z ∷ xs) j ≡ Some y → P y → suc f.place ≤ j
    after zero y e p = let same : y ≡ z = cc in absurd (not (subst P same p))
    after (suc j) y e p = let h : f.place ≤ j = f.first j y e p in omega arith

pub first_place : {A : Type 0} (P : A → Type 0) (xs : List A) (x : A) → IsFirst P xs (Some x) → FirstPlace P xs x
first_place P [] x h = absurd (cc)
first_place P (z ∷ xs) x (inl h) =
    let same : z ≡ x = cc in record { place = zero; listed = sym h.1; is_so = subst P same h.0; first = λ j y e p. omega arith }
first_place P (z ∷ xs) x (inr h) = later P z xs x h.0 (first_place P xs x h.1)
