-- Loops over items that all have a property.
use Rattle.std.proofs.Common.{ℕ, ◌+◌, ◌<◌, ◌≤◌, List, ◌≡◌, ◌⊎◌, inl, inr, length, get_or, drop, subst}
use Rattle.std.proofs.lemmas.List.{get_or_default}
use Rattle.cp_lists.specs.Lists.{IsIn}
use Rattle.cp_lists.proofs.Members.{next_or_rest, none_left}

-- Each item has it, or is left.
abbrev pub HasOrLeft : {A : Type 0} → (A → Type 0) → List A → List A → Type 0
HasOrLeft {A = A} has xs rest = (x : A) → IsIn x xs → has x ⊎ IsIn x rest

module _ {A : Type 0} (has : A → Type 0) (xs : List A) (i : ℕ) where
  has_next : (x : A) → i < length xs → x ≡ get_or xs i x → has x → HasOrLeft has xs (drop i xs) → HasOrLeft has xs (drop (i + 1) xs)
  has_next x l at h so_far y m = of (so_far y m)
    where
      next : (x ≡ y) ⊎ IsIn y (drop (i + 1) xs) → has y ⊎ IsIn y (drop (i + 1) xs)
      next (inl e) = inl (subst has e h)
      next (inr j) = inr j

      of : has y ⊎ IsIn y (drop i xs) → has y ⊎ IsIn y (drop (i + 1) xs)
      of (inl h) = inl h
      of (inr j) = next (next_or_rest xs i y x l at j)

  -- the same of an item that is copied
  pub copy_next : (d : A) → i < length xs → has (get_or xs i d) → HasOrLeft has xs (drop i xs) → HasOrLeft has xs (drop (i + 1) xs)
  copy_next d l h = has_next (get_or xs i d) l (get_or_default xs i d (get_or xs i d) l) h

  pub all_have : length xs ≤ i → HasOrLeft has xs (drop i xs) → (x : A) → IsIn x xs → has x
  all_have l so_far x m = of (so_far x m)
    where
      of : has x ⊎ IsIn x (drop i xs) → has x
      of (inl h) = h
      of (inr j) = absurd (none_left xs i x l j)
