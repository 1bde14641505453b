-- What is still to come of a list whose items are taken from its front: how many there are.
use Rattle.std.proofs.Common.{◌≡◌, ◌∙◌, ℕ, suc, ◌+◌, List, [], ◌∷◌, ◌++◌, length, sym, ap, arith}
use Rattle.std.proofs.lemmas.List.{append_assoc}

module _ {A : Type 0} where
  pub all_to_come : (whole left : List A) (n k : ℕ) → n ≡ length whole → left ≡ whole → k ≡ n → k ≡ length left
  all_to_come whole left n k count all same = same ∙ (count ∙ ap length (sym all))

  pub one_less : (left rest : List A) (x : A) (n k : ℕ) → n ≡ length left → left ≡ x ∷ rest → k + 1 ≡ n → k ≡ length rest
  one_less left rest x n k count taken less = (let e : length left ≡ suc (length rest) = ap length taken in omega (arith, count, less, e))

  pub next_whole : (whole done left rest : List A) (x : A) → done ++ left ≡ whole → left ≡ x ∷ rest → (done ++ x ∷ []) ++ rest ≡ whole
  next_whole whole done left rest x so_far taken = append_assoc done (x ∷ []) rest ∙ (ap (λ ys. done ++ ys) (sym taken) ∙ so_far)
