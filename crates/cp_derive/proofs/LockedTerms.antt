-- Opening what is locked.
use Rattle.std.proofs.Common.{ℕ, ◌<◌, ◌≤◌, List, [], ◌∷◌, length, get_or, ◌≡◌, ◌⊎◌, inl, inr, sym, subst, arith}
use Rattle.std.specs.List.{sum_by, swap_remove}
use Rattle.std.specs.List.Sorted.{IsPermutation}
use Rattle.std.proofs.lemmas.List.Sums.{sum_by-cons}
use Rattle.std.proofs.lemmas.List.Sorted.{IsPermutation-swap_remove, IsPermutation-sym}
use Rattle.cp_lists.proofs.Permuted.{in_permuted}
use Rattle.cp_lists.proofs.Members.{in_cases}
use Rattle.cp_lists.specs.Lists.{IsIn, here, there}
use Rattle.cp_model.specs.Term.{KeyTerm, Term, enc_term}
use Rattle.cp_derive.specs.Given.{Given}
use Rattle.cp_derive.specs.Buildable.{Builds}
use Rattle.cp_derive.specs.OpenedTerms.{weight_of, locked_of, IsOpenOrLocked, TakesApart, Advances}
use Rattle.cp_derive.specs.declared.opened_terms.Locked.{Locked}
use Rattle.cp_derive.specs.declared.opened_terms.Opening.{Opening}
use Rattle.cp_derive.proofs.Built.{built_derivable}
use Rattle.cp_derive.proofs.TermParts.{builds_more}

-- What is in a list after an item was taken out.
pub record IsTakenOut {A : Type 0} (xs : List A) (x : A) (ys : List A) : Type 0 where
  pub itself : IsIn x xs
  pub less : (z : A) → IsIn z ys → IsIn z xs
  pub or_it : (z : A) → IsIn z xs → (x ≡ z) ⊎ IsIn z ys

pub taken_out : {A : Type 0} (xs : List A) (i : ℕ) (x : A) (ys : List A) → i < length xs → x ≡ get_or xs i x → ys ≡ swap_remove xs i x → IsTakenOut xs x ys
taken_out xs i x ys h e s =
    let p : IsPermutation xs (x ∷ ys) = subst (λ zs. IsPermutation xs (x ∷ zs)) (sym s) (IsPermutation-swap_remove xs i x h e) in
    record {
      itself = in_permuted (x ∷ ys) xs x (IsPermutation-sym xs (x ∷ ys) p) here;
      less = λ z there_is. in_permuted (x ∷ ys) xs z (IsPermutation-sym xs (x ∷ ys) p) (there there_is);
      or_it = λ z there_is. in_cases (in_permuted xs (x ∷ ys) z p there_is);
    }

-- What is locked weighs as much as it has items.
pub length_weight : (xs : List Locked) → length xs ≤ sum_by weight_of xs
length_weight [] = omega arith
length_weight (x ∷ xs) = omega (arith, length_weight xs, sum_by-cons weight_of x xs)

module _ (secrets : List Term) (o m n : Opening) (l : Locked) (out : IsTakenOut o.locked.items l m.locked.items) (same : m.held.items ≡ o.held.items)
    (key : Builds secrets o.held.items l.inverse) (takes : TakesApart secrets l.body m n) where
  held_on : (x : Term) → IsIn x o.held.items → IsIn x n.held.items
  held_on x h = takes.held_more x (subst (IsIn x) (sym same) h)

  still_open : (a : Term) (k : KeyTerm) → IsOpenOrLocked secrets o a k → IsOpenOrLocked secrets n a k
  still_open a k (inl b) = inl (builds_more secrets o.held.items n.held.items held_on a b)
  still_open a k (inr i) =
      elim (out.or_it (locked_of a k) i) [
        | inl e ↦ inl (subst (λ x. Builds secrets n.held.items x.body) e takes.builds)
        | inr j ↦ inr (takes.locked_more (locked_of a k) j)
      ]

  -- Opening one that was locked.
  pub unlocked : Advances secrets o n
  unlocked = record {
    held_more = held_on;
    sound = λ sent s.
        let g : Given = record { sent = sent; secrets = secrets } in
        takes.sound sent
        (record { held = λ t h. s.held t (subst (IsIn t) same h); locked = λ x h. s.locked x (out.less x h) })
        (s.locked l out.itself (built_derivable g o.held.items s.held l.inverse key));
    opened = λ all a k h.
        elim (takes.opened a k h) [ inl i ↦ still_open a k (all a k (subst (IsIn (enc_term a k)) same i)) | inr w ↦ w ];
  }
