-- What is in a list, and in what is left of it.
use Rattle.std.proofs.Common.{ℕ, ◌+◌, ◌<◌, List, [], ◌∷◌, ◌++◌, ◌≡◌, ◌≢◌, ◌⊎◌, length, get_or, drop, sym, subst}
use Rattle.cp_lists.proofs.Members.{in_append_left, in_last, in_pushed, next_or_rest, other_than}
use Rattle.cp_lists.specs.Lists.{IsIn}

-- An item that is not the next one is among those behind it.
pub behind_other : {A : Type 0} (xs : List A) (i : ℕ) (x y : A) → i < length xs → y ≡ get_or xs i y → y ≢ x → IsIn x (drop i xs) → IsIn x (drop (i + 1) xs)
behind_other xs i x y h e other there_is = other_than other (next_or_rest xs i x y h e there_is)

-- What is in a list after a push.
pub record IsPushed {A : Type 0} (xs : List A) (x : A) (ys : List A) : Type 0 where
  pub more : (z : A) → IsIn z xs → IsIn z ys
  pub itself : IsIn x ys
  pub only : (z : A) → IsIn z ys → IsIn z xs ⊎ (x ≡ z)

pub pushed : {A : Type 0} (xs : List A) (x : A) (ys : List A) → ys ≡ xs ++ (x ∷ []) → IsPushed xs x ys
pushed xs x ys e = record {
  more = λ z h. subst (IsIn z) (sym e) (in_append_left (x ∷ []) h);
  itself = subst (IsIn x) (sym e) (in_last xs x);
  only = λ z h. in_pushed xs x z (subst (IsIn z) e h);
}
