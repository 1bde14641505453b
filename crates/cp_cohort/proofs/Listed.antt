-- What lists that are made item by item have.
use Rattle.std.proofs.Common.{◌≡◌, ℕ, ◌+◌, ◌<◌, List, [], ◌∷◌, ◌++◌, length, Bool, true, false, refl, sym, subst, ◌⊎◌, inl, inr, ⊎_elim, arith}
use Rattle.std.specs.Prelude.{if◌then◌else◌, ◌||◌}
use Rattle.cp_lists.specs.Lists.{IsIn, here, there}
use Rattle.cp_lists.proofs.Members.{not_in_none, in_append_left, in_append_right, in_append, in_last, in_pushed, at_head}
use Rattle.cp_model.specs.Term.{Term}
use Rattle.cp_model.specs.Problem.{numbers_from}
use Rattle.cp_model.specs.Same.{same_term}
use Rattle.cp_model.proofs.SameTests.{term_is}
use Rattle.cp_model.proofs.NumbersFrom.{number_from}
use Rattle.cp_cohort.specs.GatheredLists.{EachGives, nothing_given, then_given, StartsGiving, starts_here, starts_later, AreThoseWith, none_left, taken, left_out, has_term, terms_onto}

-- ---- what items give

-- What an item of the first list gives is in the second.
pub record IsGiver {A B : Type 0} (gives : A → List B → Type 0) (x : A) (zs : List B) : Type 0 where
  pub given : List B
  pub gives_it : gives x given
  pub among : (y : B) → IsIn y given → IsIn y zs

pub giver : {A B : Type 0} {gives : A → List B → Type 0} {xs : List A} {zs : List B} → EachGives gives xs zs → (x : A) → IsIn x xs → IsGiver gives x zs
giver nothing_given x i = absurd (not_in_none i)
giver (then_given {ys = ys} {zs = zs} g rest) x here = record { given = ys; gives_it = g; among = λ y j. in_append_left zs j }
giver (then_given {ys = ys} {zs = zs} g rest) x (there i) = let r = giver rest x i in record { given = r.given; gives_it = r.gives_it; among = λ y j. in_append_right ys (r.among y j) }

-- Each item of the second list is given by one of the first.
pub record IsGiven {A B : Type 0} (gives : A → List B → Type 0) (xs : List A) (y : B) : Type 0 where
  pub giver : A
  pub listed : IsIn giver xs
  pub given : List B
  pub gives_it : gives giver given
  pub among : IsIn y given

later_given : {A B : Type 0} {gives : A → List B → Type 0} {x : A} {xs : List A} {y : B} → IsGiven gives xs y → IsGiven gives (x ∷ xs) y
later_given r = record { giver = r.giver; listed = there r.listed; given = r.given; gives_it = r.gives_it; among = r.among }

pub given : {A B : Type 0} {gives : A → List B → Type 0} {xs : List A} {zs : List B} → EachGives gives xs zs → (y : B) → IsIn y zs → IsGiven gives xs y
given nothing_given y i = absurd (not_in_none i)
given (then_given {x = x} {ys = ys} {zs = zs} g rest) y i =
    ⊎_elim (λ j. record { giver = x; listed = here; given = ys; gives_it = g; among = j }) (λ j. later_given (given rest y j)) (in_append ys zs i)

-- So is each item of one that the first items give, or the next one starts to give.
pub started : {A B : Type 0} {gives starts : A → List B → Type 0} {xs : List A} {zs : List B} → StartsGiving gives starts xs zs → (y : B) → IsIn y zs → IsGiven gives xs y ⊎ IsGiven starts xs y
started (starts_here {x = x} {ys = ys} s) y i = inr (record { giver = x; listed = here; given = ys; gives_it = s; among = i })
started (starts_later {x = x} {ys = ys} {zs = zs} g rest) y i =
    ⊎_elim (λ j. inl (record { giver = x; listed = here; given = ys; gives_it = g; among = j })) (λ j. ⊎_elim (λ r. inl (later_given r)) (λ r. inr (later_given r)) (started rest y j)) (in_append ys zs i)

-- ---- the items with a property

pub with_it : {A : Type 0} {has : A → Type 0} {xs ys : List A} → AreThoseWith has xs ys → (x : A) → IsIn x xs → has x → IsIn x ys
with_it none_left x i h = i
with_it (taken p rest) x here h = here
with_it (taken p rest) x (there i) h = there (with_it rest x i h)
with_it (left_out n rest) x here h = absurd (n h)
with_it (left_out n rest) x (there i) h = with_it rest x i h

pub those_have : {A : Type 0} {has : A → Type 0} {xs ys : List A} → AreThoseWith has xs ys → (x : A) → IsIn x ys → IsIn x xs × has x
those_have none_left x i = absurd (not_in_none i)
those_have (taken p rest) x here = (here, p)
those_have (taken p rest) x (there i) = let r = those_have rest x i in (there r.0, r.1)
those_have (left_out n rest) x i = let r = those_have rest x i in (there r.0, r.1)

-- ---- numbers

pub number_listed : {A : Type 0} (i : ℕ) (xs : List A) → i < length xs → IsIn i (numbers_from 0 xs)
number_listed i xs l = let e : 0 + i ≡ i = omega arith in subst (λ (m : ℕ). IsIn m (numbers_from 0 xs)) e (number_from 0 i xs l)

-- ---- terms, each once

has_it : (ts : List Term) (t : Term) → has_term ts t ≡ true → IsIn t ts
has_it [] t e = absurd (cc)
has_it (u ∷ us) t e = by_test (same_term u t) refl (has_it us t) e
  where
    by_test : (b : Bool) → same_term u t ≡ b → (has_term us t ≡ true → IsIn t us) → (b || has_term us t) ≡ true → IsIn t (u ∷ us)
    by_test true same rest h = subst (λ v. IsIn t (v ∷ us)) (sym (term_is u t same)) here
    by_test false other rest h = there (rest h)

pub terms_kept : (before ts : List Term) (t : Term) → IsIn t before → IsIn t (terms_onto before ts)
terms_kept before [] t i = i
terms_kept before (u ∷ ts) t i = terms_kept (if has_term before u then before else before ++ u ∷ []) ts t (by_test (has_term before u))
  where
    by_test : (b : Bool) → IsIn t (if b then before else before ++ u ∷ [])
    by_test true = i
    by_test false = in_append_left (u ∷ []) i

pub terms_listed : (before ts : List Term) (t : Term) → IsIn t ts → IsIn t (terms_onto before ts)
terms_listed before [] t i = absurd (not_in_none i)
terms_listed before (u ∷ ts) t here = terms_kept (if has_term before t then before else before ++ t ∷ []) ts t (by_test (has_term before t) refl)
  where
    by_test : (b : Bool) → has_term before t ≡ b → IsIn t (if b then before else before ++ t ∷ [])
    by_test true e = has_it before t e
    by_test false e = in_last before t
terms_listed before (u ∷ ts) t (there i) = terms_listed (if has_term before u then before else before ++ u ∷ []) ts t i

-- Each of them is one of those before, or of the list.
pub of_terms_onto : (before ts : List Term) (t : Term) → IsIn t (terms_onto before ts) → IsIn t before ⊎ IsIn t ts
of_terms_onto before [] t i = inl i
of_terms_onto before (u ∷ ts) t i = ⊎_elim (by_test (has_term before u)) (λ j. inr (there j)) (of_terms_onto (if has_term before u then before else before ++ u ∷ []) ts t i)
  where
    by_test : (b : Bool) → IsIn t (if b then before else before ++ u ∷ []) → IsIn t before ⊎ IsIn t (u ∷ ts)
    by_test true j = inl j
    by_test false j = ⊎_elim inl (λ e. inr (at_head (sym e))) (in_pushed before u t j)
