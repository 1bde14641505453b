-- Loops that gather what the items of a list give.
use Rattle.std.proofs.Common.{ℕ, ◌+◌, ◌<◌, ◌≤◌, List, [], ◌∷◌, ◌++◌, ◌≡◌, ◌↔◌, ◌⊎◌, inl, inr, length, get_or, drop, sym, subst}
use Rattle.cp_lists.specs.Lists.{IsIn, here}
use Rattle.cp_lists.proofs.Members.{in_cases, in_append, in_append_left, in_append_right}
use Rattle.cp_model.specs.declared.node.OrderPair.{OrderPair}
use Rattle.cp_collapse.specs.Property.{Has}
use Rattle.cp_normal.specs.Events.{Gathers}
use Rattle.cp_collapse.proofs.ItemsWithProperty.{next_or_rest, next_back, none}

-- The pairs so far, with those that the items from i on give, are the first ones and all that are given.
abbrev pub IsGathering : {A : Type 0} → (A → OrderPair → Type 0) → List A → ℕ → List OrderPair → List OrderPair → Type 0
IsGathering gives xs i initial current = (p : OrderPair) → (IsIn p current ⊎ Has (λ x. gives x p) (drop i xs)) ↔ (IsIn p initial ⊎ Has (λ x. gives x p) xs)

-- What one item gives is put to the pairs.
abbrev pub Puts : {A : Type 0} → (A → OrderPair → Type 0) → A → List OrderPair → List OrderPair → Type 0
Puts gives x old new = (p : OrderPair) → IsIn p new ↔ (IsIn p old ⊎ gives x p)

module _ {A : Type 0} (gives : A → OrderPair → Type 0) (xs : List A) where
  pub start : (initial : List OrderPair) → IsGathering gives xs 0 initial initial
  start initial p = (λ h. h, λ h. h)

  first_way : (p : OrderPair) (new old : List OrderPair) (x : A) (rest : List A) → Puts gives x old new → IsIn p new ⊎ Has (λ x. gives x p) rest → IsIn p old ⊎ (gives x p ⊎ Has (λ x. gives x p) rest)
  first_way p new old x rest puts (inl h) = of ((puts p).0 h)
    where
      of : IsIn p old ⊎ gives x p → IsIn p old ⊎ (gives x p ⊎ Has (λ x. gives x p) rest)
      of (inl a) = inl a
      of (inr b) = inr (inl b)
  first_way p new old x rest puts (inr h) = inr (inr h)

  second_way : (p : OrderPair) (new old : List OrderPair) (x : A) (rest : List A) → Puts gives x old new → IsIn p old ⊎ (gives x p ⊎ Has (λ x. gives x p) rest) → IsIn p new ⊎ Has (λ x. gives x p) rest
  second_way p new old x rest puts (inl h) = inl ((puts p).1 (inl h))
  second_way p new old x rest puts (inr (inl g)) = inl ((puts p).1 (inr g))
  second_way p new old x rest puts (inr (inr h)) = inr h

  right : {P Q R : Type 0} → (Q → R) → P ⊎ Q → P ⊎ R
  right f (inl p) = inl p
  right f (inr q) = inr (f q)

  pub step : (initial old new : List OrderPair) (i : ℕ) (x : A) → i < length xs → x ≡ get_or xs i x → Puts gives x old new → IsGathering gives xs i initial old → IsGathering gives xs (i + 1) initial new
  step initial old new i x l is puts inv p = (
    λ h. (inv p).0 (right (next_back (λ x. gives x p) xs i x l is) (first_way p new old x (drop (i + 1) xs) puts h)),
    λ h. second_way p new old x (drop (i + 1) xs) puts (right (next_or_rest (λ x. gives x p) xs i x l is) ((inv p).1 h)),
  )

  only_left : (p : OrderPair) (current : List OrderPair) (i : ℕ) → length xs ≤ i → IsIn p current ⊎ Has (λ x. gives x p) (drop i xs) → IsIn p current
  only_left p current i l (inl h) = h
  only_left p current i l (inr h) = absurd (none (λ x. gives x p) xs i l h)

  pub end : (initial current : List OrderPair) (i : ℕ) → length xs ≤ i → IsGathering gives xs i initial current → Gathers gives xs initial current
  end initial current i l inv p = (λ h. (inv p).0 (inl h), λ h. only_left p current i l ((inv p).1 h))

  -- an item that gives nothing
  none_given : (x : A) (old : List OrderPair) (p : OrderPair) → (gives x p → ⊥) → IsIn p old ⊎ gives x p → IsIn p old
  none_given x old p not (inl h) = h
  none_given x old p not (inr g) = absurd (not g)

  pub puts_none : (x : A) (old new : List OrderPair) → new ≡ old → ((p : OrderPair) → gives x p → ⊥) → Puts gives x old new
  puts_none x old new same not p = (λ h. inl (subst (IsIn p) same h), λ h. subst (IsIn p) (sym same) (none_given x old p (not p) h))

  -- an item that gives one pair
  pub puts_one : (x : A) (q : OrderPair) (old new : List OrderPair) → gives x q → ((p : OrderPair) → gives x p → q ≡ p) → new ≡ old ++ q ∷ [] → Puts gives x old new
  puts_one x q old new given only pushed p = (
    λ h. of (in_append old (q ∷ []) (subst (IsIn p) pushed h)),
    λ h. subst (IsIn p) (sym pushed) (back h),
  )
    where
      one : (q ≡ p) ⊎ IsIn p [] → gives x p
      one (inl e) = subst (gives x) e given
      one (inr h) = elim h [ ]

      of : IsIn p old ⊎ IsIn p (q ∷ []) → IsIn p old ⊎ gives x p
      of (inl h) = inl h
      of (inr h) = inr (one (in_cases h))

      back : IsIn p old ⊎ gives x p → IsIn p (old ++ q ∷ [])
      back (inl h) = in_append_left (q ∷ []) h
      back (inr g) = in_append_right old (subst (λ z. IsIn z (q ∷ [])) (only p g) here)
