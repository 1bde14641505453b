-- Keys of items, each of which stands once.
use Rattle.std.proofs.Common.{◌≡◌, ℕ, ◌+◌, ◌<◌, List, [], ◌∷◌, ◌++◌, length, get_or, take, Option, Some, None, IfSome, is_some, Bool, true, false, slice_get, IsSome, sym, ◌∙◌, subst, ◌⊎◌, ⊎_elim}
use Rattle.std.proofs.lemmas.Bool.{both_ways}
use Rattle.cp_lists.specs.Lists.{IsIn}
use Rattle.cp_lists.proofs.Items.{place_of, at_place, slice_get_item}
use Rattle.cp_lists.proofs.Members.{only_item, not_in_none, none_in_empty, in_append, in_append_left}
use Rattle.cp_model.specs.GivenAssumptions.{IsEachOnce}
use Rattle.cp_model.specs.Term.{Term}
use Rattle.cp_model.proofs.Gathered.{IsGathering, onto-only}
use Rattle.cp_skel.specs.declared.keys.Keys.{Keys}
use Rattle.cp_skel.specs.KeyTable.{HasKey}
use Rattle.cp_skel.proofs.Once.{once-append}
use Rattle.cp_skel.proofs.AlreadyListed.{one-more, none-first}

pub in_read : {A : Type 0} (xs : List A) (i : ℕ) (x : A) → slice_get xs i ≡ Some x → IsIn x xs
in_read xs i x e = at_place xs i x (sym (slice_get_item xs i) ∙ e)

pub found_if_in : {A : Type 0} (xs : List A) (x : A) (found : Type 0) → ((i : ℕ) → slice_get xs i ≡ Some x → found) → IsIn x xs → found
found_if_in xs x found h i = let p = place_of i in h p.0 (slice_get_item xs p.0 ∙ p.1)

pub still_in : {A : Type 0} (old new more : List A) (x : A) → (new ≡ old) ⊎ (new ≡ old ++ more) → IsIn x old → IsIn x new
still_in old new more x h i = ⊎_elim (λ e. subst (IsIn x) (sym e) i) (λ e. subst (IsIn x) (sym e) (in_append_left more i)) h

pub once_first : {A : Type 0} (xs : List A) → IsEachOnce (take 1 xs)
once_first [] = tt
once_first (x ∷ xs) = subst (λ ys. IsEachOnce (x ∷ ys)) (sym (none-first xs)) ((λ i. not_in_none i), tt)

-- One item more, which is none of those before it.
pub once_more : {A : Type 0} (xs : List A) (n : ℕ) (x : A) → n < length xs → x ≡ get_or xs n x → (IsIn x (take n xs) → ⊥) → IsEachOnce (take n xs) → IsEachOnce (take (n + 1) xs)
once_more xs n x lt is apart once =
    subst IsEachOnce (sym (one-more xs n x lt is))
    (once-append (take n xs) (x ∷ []) once ((λ i. not_in_none i), tt) (λ y i j. apart (subst (λ z. IsIn z (take n xs)) (only_item j) i)))

-- What holds of the items before, and of one more.
pub each_more : {A : Type 0} (P : A → Type 0) (xs ys : List A) (x : A) → ys ≡ xs ++ x ∷ [] → ((v : A) → IsIn v xs → P v) → P x → (v : A) → IsIn v ys → P v
each_more P xs ys x e h p v i = ⊎_elim (h v) (λ j. subst P (sym (only_item j)) p) (in_append xs (x ∷ []) (subst (IsIn v) e i))

-- What holds of what is found.
pub of_found : {A : Type 0} (P : A → Type 0) (r : Option A) → IfSome r P → is_some r ≡ true → (found : Type 0) → ((x : A) → P x → found) → found
of_found P (Some x) h e found f = f x h
of_found P None h e found f = absurd (cc)

pub none_is_some : {A : Type 0} (r : Option A) → is_some r ≡ false → IsSome r → ⊥
none_is_some r e s = both_ways (is_some r) e s

-- What a table has, if there is one.
pub in_table : (keys : Keys) (table : List Term) (t : Term) → keys.table ≡ Some table → HasKey keys t → IsIn t table
in_table keys table t is h = subst (λ o. IfSome o (λ ts. IsIn t ts)) is h

-- Lists that are empty together have no item.
pub none_there : {A : Type 0} (xs ys : List A) (P : A → Type 0) → xs ≡ [] → ys ≡ [] → (v : A) → IsIn v (xs ++ ys) → P v
none_there xs ys P e f v i = ⊎_elim (λ j. absurd (none_in_empty e j)) (λ j. absurd (none_in_empty f j)) (in_append xs ys i)

-- What holds of the items before, and of one that is put behind them.
pub keyed-onto : {A : Type 0} {has : List A → A → Bool} {onto : List A → List A → List A} (g : IsGathering has onto) (P : A → Type 0) (before new : List A) (x : A)
    → new ≡ onto before (x ∷ []) → ((v : A) → IsIn v before → P v) → P x → (v : A) → IsIn v new → P v
keyed-onto g P before new x e h p v i =
    ⊎_elim (h v) (λ j. subst P (sym (only_item j)) p) (onto-only g before (x ∷ []) v (subst (IsIn v) e i))
