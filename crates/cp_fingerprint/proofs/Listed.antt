-- Loops over lists of whose items each has to be so.
use Rattle.std.proofs.Common.{◌≡◌, ℕ, List, [], ◌∷◌, sym, subst}
use Rattle.std.specs.Prelude.{Some}
use Rattle.cp_lists.proofs.Items.{at_place}
use Rattle.cp_lists.specs.Lists.{item_at, IsIn, here, there}

-- The fact is true of each item.
abbrev pub AllOf : {A : Type 0} → (A → Type 0) → List A → Type 0
AllOf {A} fact xs = (x : A) → IsIn x xs → fact x

module _ {A : Type 0} (fact : A → Type 0) where
  pub one_or_rest : (x : A) (xs : List A) → fact x → AllOf fact xs → AllOf fact (x ∷ xs)
  one_or_rest x xs h k y here = h
  one_or_rest x xs h k y (there m) = k y m

  pub each_next : (xs left rest : List A) (x : A) → left ≡ x ∷ rest → fact x → (AllOf fact left → AllOf fact xs) → AllOf fact rest → AllOf fact xs
  each_next xs left rest x next h so_far others = so_far (subst (AllOf fact) (sym next) (one_or_rest x rest h others))

  pub each_lost : (xs : List A) (i : ℕ) (x : A) → item_at xs i ≡ Some x → (fact x → ⊥) → AllOf fact xs → ⊥
  each_lost xs i x at lost all = lost (all x (at_place xs i x at))

  pub each_done : (xs left : List A) → left ≡ [] → (AllOf fact left → AllOf fact xs) → AllOf fact xs
  each_done xs left done so_far = so_far (subst (AllOf fact) (sym done) (λ x m. elim m [ ]))
