-- Lists that grow by what is missing in them.
use Rattle.std.proofs.Common.{◌≡◌, List, [], ◌∷◌, ◌++◌, refl, sym, ap, ◌∙◌, subst, ◌⊎◌, append_assoc, ⊎_elim}
use Rattle.std.proofs.lemmas.List.{append-nil}
use Rattle.cp_lists.specs.Lists.{IsIn, here, there}
use Rattle.cp_lists.proofs.Members.{in_append, in_append_left, in_append_right, not_in_none, only_item}
use Rattle.cp_model.specs.GivenAssumptions.{IsEachOnce, AddsOnce}

pub once-append : {A : Type 0} (xs ys : List A) → IsEachOnce xs → IsEachOnce ys → ((x : A) → IsIn x xs → IsIn x ys → ⊥) → IsEachOnce (xs ++ ys)
once-append [] ys p q apart = q
once-append (x ∷ xs) ys p q apart =
    ((λ i. ⊎_elim p.0 (apart x here) (in_append xs ys i)), once-append xs ys p.1 q (λ z i. apart z (there i)))

-- Nothing is given, or all that is given is there.
pub adds-none : {A : Type 0} (given : A → Type 0) (old : List A) → ((x : A) → given x → IsIn x old) → AddsOnce given old old
adds-none given old h = record {
  more = [];
  behind = sym (append-nil old);
  only_given = λ x i. absurd (not_in_none i);
  only_missing = λ x i j. not_in_none i;
  once = tt;
  all = h;
}

pub adds-known : {A : Type 0} (a : A) (old : List A) → IsIn a old → AddsOnce (λ x. x ≡ a) old old
adds-known a old h = adds-none (λ x. x ≡ a) old (λ x e. subst (λ y. IsIn y old) (sym e) h)

pub adds-one : {A : Type 0} (a : A) (old : List A) → (IsIn a old → ⊥) → AddsOnce (λ x. x ≡ a) old (old ++ a ∷ [])
adds-one a old h = record {
  more = a ∷ [];
  behind = refl;
  only_given = λ x i. only_item i;
  only_missing = λ x i j. h (subst (λ y. IsIn y old) (only_item i) j);
  once = ((λ i. not_in_none i), tt);
  all = λ x e. in_append_right old (subst (λ y. IsIn y (a ∷ [])) (sym e) here);
}

-- First what one gives, and then what another gives.
pub adds-then : {A : Type 0} (P Q R : A → Type 0) (a b c : List A) → ((x : A) → P x → R x) → ((x : A) → Q x → R x) → ((x : A) → R x → P x ⊎ Q x) →
    AddsOnce P a b → AddsOnce Q b c → AddsOnce R a c
adds-then P Q R a b c f g h p q = record {
  more = p.more ++ q.more;
  behind = q.behind ∙ ap (λ xs. xs ++ q.more) p.behind ∙ append_assoc a p.more q.more;
  only_given = λ x i. ⊎_elim (λ j. f x (p.only_given x j)) (λ j. g x (q.only_given x j)) (in_append p.more q.more i);
  only_missing = λ x i j. ⊎_elim (λ k. p.only_missing x k j) (λ k. q.only_missing x k (in-b x (in_append_left p.more j))) (in_append p.more q.more i);
  once = once-append p.more q.more p.once q.once (λ x i j. q.only_missing x j (in-b x (in_append_right a i)));
  all = λ x r. ⊎_elim (λ k. in-c x (in_append_left q.more (p.all x k))) (λ k. q.all x k) (h x r);
}
  where
    in-b : (x : _) → IsIn x (a ++ p.more) → IsIn x b
    in-b x i = subst (IsIn x) (sym p.behind) i

    in-c : (x : _) → IsIn x (b ++ q.more) → IsIn x c
    in-c x i = subst (IsIn x) (sym q.behind) i

pub adds-same : {A : Type 0} (P R : A → Type 0) (a b : List A) → ((x : A) → P x → R x) → ((x : A) → R x → P x) → AddsOnce P a b → AddsOnce R a b
adds-same P R a b f g p = record {
  more = p.more;
  behind = p.behind;
  only_given = λ x i. f x (p.only_given x i);
  only_missing = p.only_missing;
  once = p.once;
  all = λ x r. p.all x (g x r);
}
