-- What a loop has seen of each item of a list.
use Rattle.std.proofs.Common.{◌≡◌, ℕ, ◌+◌, ◌<◌, ◌≤◌, List, length, get_or, drop, subst, ⊎_elim}
use Rattle.cp_lists.specs.Lists.{IsIn}
use Rattle.cp_lists.proofs.Members.{item_is_in, next_or_rest, none_left}

-- Each item has the property, where those from place i on have it.
abbrev pub EachIfRest : {A : Type 0} → (A → Type 0) → List A → ℕ → Type 0
EachIfRest {A} P xs i = ((x : A) → IsIn x (drop i xs) → P x) → (x : A) → IsIn x xs → P x

module _ {A : Type 0} (P : A → Type 0) (xs : List A) where
  pub each_next : (i : ℕ) (y : A) → i < length xs → y ≡ get_or xs i y → EachIfRest P xs i → P y → EachIfRest P xs (i + 1)
  each_next i y below read so_far has rest = so_far (λ x j. ⊎_elim (λ e. subst P e has) (rest x) (next_or_rest xs i x y below read j))

  pub each_last : (i : ℕ) → length xs ≤ i → EachIfRest P xs i → (x : A) → IsIn x xs → P x
  each_last i end so_far = so_far (λ x j. absurd (none_left xs i x end j))

  pub not_each : (i : ℕ) (y : A) → i < length xs → y ≡ get_or xs i y → (P y → ⊥) → ((x : A) → IsIn x xs → P x) → ⊥
  not_each i y below read not each = not (each y (item_is_in xs i y below read))
