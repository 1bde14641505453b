-- Lists without some of their items.
use Rattle.std.proofs.Common.{◌≡◌, ℕ, ◌+◌, ◌<◌, ◌≤◌, List, [], ◌∷◌, ◌++◌, take, length, get_or, sym, ap, ◌∙◌, subst}
use Rattle.std.proofs.lemmas.List.{take_more, take_all}
use Rattle.cp_skel.specs.Deletion.{LeavesOut, all_left, is_gone, is_left}

module _ {B : Type 0} (gone : B → Type 0) (form : B → B) where
  gone_behind : (xs ys : List B) (x : B) → gone x → LeavesOut gone form xs ys → LeavesOut gone form (xs ++ x ∷ []) ys
  gone_behind [] ys x g all_left = is_gone g all_left
  gone_behind (y ∷ xs) ys x g (is_gone h l) = is_gone h (gone_behind xs ys x g l)
  gone_behind (y ∷ xs) ys x g (is_left {ys = zs} h l) = is_left h (gone_behind xs zs x g l)

  left_behind : (xs ys : List B) (x : B) → (gone x → ⊥) → LeavesOut gone form xs ys → LeavesOut gone form (xs ++ x ∷ []) (ys ++ form x ∷ [])
  left_behind [] ys x g all_left = is_left g all_left
  left_behind (y ∷ xs) ys x g (is_gone h l) = is_gone h (left_behind xs ys x g l)
  left_behind (y ∷ xs) ys x g (is_left {ys = zs} h l) = is_left h (left_behind xs zs x g l)

-- A loop over items, as far as place i.
module _ {A : Type 0} (gone : A → Type 0) (form : A → A) (xs : List A) (i : ℕ) (ys : List A) where
  next : (x d : A) → i < length xs → x ≡ get_or xs i d → take (i + 1) xs ≡ take i xs ++ x ∷ []
  next x d l e = take_more xs i d l ∙ ap (λ (z : A). take i xs ++ z ∷ []) (sym e)

  pub next_gone : (x d : A) → i < length xs → x ≡ get_or xs i d → gone x → LeavesOut gone form (take i xs) ys → LeavesOut gone form (take (i + 1) xs) ys
  next_gone x d l e g h = subst (λ zs. LeavesOut gone form zs ys) (sym (next x d l e)) (gone_behind gone form (take i xs) ys x g h)

  pub next_left : (x d y : A) (new : List A) → i < length xs → x ≡ get_or xs i d → (gone x → ⊥) → y ≡ form x → new ≡ ys ++ y ∷ [] →
      LeavesOut gone form (take i xs) ys → LeavesOut gone form (take (i + 1) xs) new
  next_left x d y new l e g f n h =
      subst (LeavesOut gone form (take (i + 1) xs)) (sym (n ∙ ap (λ z. ys ++ z ∷ []) f))
      (subst (λ zs. LeavesOut gone form zs (ys ++ form x ∷ [])) (sym (next x d l e)) (left_behind gone form (take i xs) ys x g h))

  pub all_taken : length xs ≤ i → LeavesOut gone form (take i xs) ys → LeavesOut gone form xs ys
  all_taken l h = subst (λ zs. LeavesOut gone form zs ys) (take_all i xs l) h
