-- The first of what was met so far, in any order in which of two that are not the same one comes first.
use Rattle.std.proofs.Common.{◌≡◌, inl, inr, List, [], ◌∷◌, ◌++◌, Bool, true, false, refl, sym, ap, ◌∙◌, subst}
use Rattle.std.specs.Prelude.{Option, Some, None, is_none, not, if◌then◌else◌}
use Rattle.cp_lists.specs.Lists.{IsIn, here, there}
use Rattle.cp_lists.proofs.Members.{in_append, in_append_left, in_append_right, none_in_empty}
use Rattle.cp_scope.specs.FirstOf.{earlier_of, first_onto, merged, onto_none, stands_before}

-- None comes before itself, no two before each other, what does not come before the second does not before the first if the
-- second does not, and of two of which none comes first each is the other.
pub record IsOrder {A : Type 0} (comes_before : A → A → Bool) : Type 0 where
  pub itself : (r : A) → comes_before r r ≡ false
  pub other : (r s : A) → comes_before r s ≡ true → comes_before s r ≡ false
  pub both : (r s t : A) → comes_before s r ≡ false → comes_before t s ≡ false → comes_before t r ≡ false
  pub same : (r s : A) → comes_before r s ≡ false → comes_before s r ≡ false → r ≡ s

-- One of them, and none of them comes before it.
pub record IsFirstOf {A : Type 0} (comes_before : A → A → Bool) (rs : List A) (r : A) : Type 0 where
  pub listed : IsIn r rs
  pub first : (s : A) → IsIn s rs → comes_before s r ≡ false

-- The second, only where there is none of the first.
abbrev pub unless_any : {A : Type 0} → List A → List A → List A
unless_any [] others = others
unless_any (r ∷ rs) others = r ∷ rs

module _ {A : Type 0} (comes_before : A → A → Bool) where
  pub first_onto-append : (o : Option A) (a b : List A) → first_onto comes_before o (a ++ b) ≡ first_onto comes_before (first_onto comes_before o a) b
  first_onto-append o [] b = refl
  first_onto-append o (r ∷ rs) b = first_onto-append (Some (earlier_of comes_before o r)) rs b

  some_stays : (s : A) (qs : List A) → first_onto comes_before (Some s) qs ≡ None → ⊥
  some_stays s [] g = cc
  some_stays s (q ∷ qs) g = some_stays (earlier_of comes_before (Some s) q) qs g

  none_before : (o : Option A) (rs : List A) → first_onto comes_before o rs ≡ None → rs ≡ []
  none_before o [] e = refl
  none_before o (r ∷ rs) e = absurd (some_stays (earlier_of comes_before o r) rs e)

  pub none_found : (rs : List A) → first_onto comes_before None rs ≡ None → rs ≡ []
  none_found rs e = none_before None rs e

  -- ---- behind one that does not come after them

  pub none_changed : (o : Option A) (r : A) → stands_before comes_before o r ≡ true → o ≡ first_onto comes_before o (r ∷ [])
  none_changed None r h = absurd (cc)
  none_changed (Some s) r h = by_test (comes_before r s) h
    where
      by_test : (b : Bool) → not b ≡ true → Some s ≡ Some (if b then r else s)
      by_test true h = absurd (cc)
      by_test false h = refl

  -- ---- one after another

  pub first_then : (o p q : Option A) (a b : List A) → p ≡ first_onto comes_before o a → q ≡ first_onto comes_before p b → q ≡ first_onto comes_before o (a ++ b)
  first_then o p q a b e f = f ∙ ap (λ x. first_onto comes_before x b) e ∙ sym (first_onto-append o a b)

  pub first_then_three : (o p q r : Option A) (a b c : List A)
      → p ≡ first_onto comes_before o a → q ≡ first_onto comes_before p b → r ≡ first_onto comes_before q c → r ≡ first_onto comes_before o (a ++ b ++ c)
  first_then_three o p q r a b c e f g = first_then o q r (a ++ b) c (first_then o p q a b e f) g

  pub first_then_four : (o p q r s : Option A) (a b c d : List A)
      → p ≡ first_onto comes_before o a → q ≡ first_onto comes_before p b → r ≡ first_onto comes_before q c → s ≡ first_onto comes_before r d → s ≡ first_onto comes_before o (a ++ b ++ c ++ d)
  first_then_four o p q r s a b c d e f g h = first_then o r s (a ++ b ++ c) d (first_then_three o p q r a b c e f g) h

  -- ---- asked only where there was none before, or not asked

  pub onto_none-there : (i j : Option A) (others : List A) → is_none i ≡ true → j ≡ first_onto comes_before i others → j ≡ onto_none comes_before i others
  onto_none-there None j others h e = e
  onto_none-there (Some r) j others h e = absurd (cc)

  pub onto_none-not : (i j : Option A) (others : List A) → is_none i ≡ false → j ≡ i → j ≡ onto_none comes_before i others
  onto_none-not None j others h e = absurd (cc)
  onto_none-not (Some r) j others h e = e

  -- ---- what it means

  module _ (order : IsOrder comes_before) where
    -- the first of two is one of them, and none of them comes before it
    earlier_first : (s r : A) → (comes_before s (earlier_of comes_before (Some s) r) ≡ false) × (comes_before r (earlier_of comes_before (Some s) r) ≡ false)
    earlier_first s r = by_test (comes_before r s) refl
      where
        by_test : (b : Bool) → comes_before r s ≡ b → (comes_before s (if b then r else s) ≡ false) × (comes_before r (if b then r else s) ≡ false)
        by_test true e = (order.other r s e, order.itself r)
        by_test false e = (order.itself s, e)

    earlier_listed : (s r : A) (rs : List A) → IsIn (earlier_of comes_before (Some s) r) (s ∷ r ∷ rs)
    earlier_listed s r rs = by_test (comes_before r s)
      where
        by_test : (b : Bool) → IsIn (if b then r else s) (s ∷ r ∷ rs)
        by_test true = there here
        by_test false = here

    in_either : (x t : A) (rs ys : List A) → IsIn t (x ∷ rs) → IsIn x ys → (IsIn t rs → IsIn t ys) → IsIn t ys
    in_either x t rs ys here m f = m
    in_either x t rs ys (there n) m f = f n

    earlier_in : (s r : A) (rs : List A) (t : A) → IsIn t (earlier_of comes_before (Some s) r ∷ rs) → IsIn t (s ∷ r ∷ rs)
    earlier_in s r rs t m = in_either (earlier_of comes_before (Some s) r) t rs (s ∷ r ∷ rs) m (earlier_listed s r rs) (λ n. there (there n))

    pub first_of_onto : (s : A) (rs : List A) (r : A) → first_onto comes_before (Some s) rs ≡ Some r → IsFirstOf comes_before (s ∷ rs) r
    first_of_onto s [] r e =
        let same : s ≡ r = cc in
        let P : A → Type 0 = λ t. IsFirstOf comes_before (s ∷ []) t in
        subst P same (record { listed = here; first = only })
      where
        only : (t : A) → IsIn t (s ∷ []) → comes_before t s ≡ false
        only t here = order.itself s
        only t (there m) = elim m [ ]
    first_of_onto s (q ∷ qs) r e = with_rest (first_of_onto (earlier_of comes_before (Some s) q) qs r e)
      where
        with_rest : IsFirstOf comes_before (earlier_of comes_before (Some s) q ∷ qs) r → IsFirstOf comes_before (s ∷ q ∷ qs) r
        with_rest h = record { listed = earlier_in s q qs r h.listed; first = all }
          where
            front : comes_before (earlier_of comes_before (Some s) q) r ≡ false
            front = h.first (earlier_of comes_before (Some s) q) here

            all : (t : A) → IsIn t (s ∷ q ∷ qs) → comes_before t r ≡ false
            all t here = order.both r (earlier_of comes_before (Some s) q) s front (earlier_first s q).0
            all t (there here) = order.both r (earlier_of comes_before (Some s) q) q front (earlier_first s q).1
            all t (there (there m)) = h.first t (there m)

    pub first_found : (rs : List A) (r : A) → first_onto comes_before None rs ≡ Some r → IsFirstOf comes_before rs r
    first_found [] r e = absurd (cc)
    first_found (q ∷ qs) r e = first_of_onto q qs r e

    one_first : (rs : List A) (r s : A) → IsFirstOf comes_before rs r → IsFirstOf comes_before rs s → r ≡ s
    one_first rs r s g h = order.same r s (h.first r g.listed) (g.first s h.listed)

    -- ---- their order does not matter

    pub same_members : (xs ys : List A) → ((t : A) → IsIn t xs → IsIn t ys) → ((t : A) → IsIn t ys → IsIn t xs) → first_onto comes_before None xs ≡ first_onto comes_before None ys
    same_members xs ys f g = by_found (first_onto comes_before None xs) (first_onto comes_before None ys) refl refl
      where
        by_found : (o p : Option A) → first_onto comes_before None xs ≡ o → first_onto comes_before None ys ≡ p → o ≡ p
        by_found None None e h = refl
        by_found None (Some r) e h = absurd (none_in_empty (none_found xs e) (g r (first_found ys r h).listed))
        by_found (Some r) None e h = absurd (none_in_empty (none_found ys h) (f r (first_found xs r e).listed))
        by_found (Some r) (Some s) e h =
            ap Some (one_first xs r s (first_found xs r e) (record { listed = g s (first_found ys s h).listed; first = λ t m. (first_found ys s h).first t (f t m) }))

    swapped : (xs ys : List A) (t : A) → IsIn t (xs ++ ys) → IsIn t (ys ++ xs)
    swapped xs ys t m = elim (in_append xs ys m) as (λ _. IsIn t (ys ++ xs)) [ inl n ↦ in_append_right ys n | inr n ↦ in_append_left xs n ]

    under : (s : A) (xs ys : List A) → ((t : A) → IsIn t xs → IsIn t ys) → (t : A) → IsIn t (s ∷ xs) → IsIn t (s ∷ ys)
    under s xs ys f t here = here
    under s xs ys f t (there m) = there (f t m)

    pub first_onto-swap : (o : Option A) (a b : List A) → first_onto comes_before o (a ++ b) ≡ first_onto comes_before o (b ++ a)
    first_onto-swap None a b = same_members (a ++ b) (b ++ a) (swapped a b) (swapped b a)
    first_onto-swap (Some s) a b = same_members (s ∷ (a ++ b)) (s ∷ (b ++ a)) (under s (a ++ b) (b ++ a) (swapped a b)) (under s (b ++ a) (a ++ b) (swapped b a))

    pub moved_behind : (o : Option A) (a b c : List A) → first_onto comes_before o ((a ++ b) ++ c) ≡ first_onto comes_before (first_onto comes_before o (a ++ c)) b
    moved_behind o a b c =
        first_onto-append o (a ++ b) c ∙ ap (λ p. first_onto comes_before p c) (first_onto-append o a b) ∙ sym (first_onto-append (first_onto comes_before o a) b c)
        ∙ first_onto-swap (first_onto comes_before o a) b c ∙ first_onto-append (first_onto comes_before o a) c b ∙ ap (λ p. first_onto comes_before p b) (sym (first_onto-append o a c))

    pub moved_behind_two : (o : Option A) (a b c d : List A) → first_onto comes_before o (((a ++ b) ++ c) ++ d) ≡ first_onto comes_before (first_onto comes_before o ((a ++ c) ++ d)) b
    moved_behind_two o a b c d =
        first_onto-append o ((a ++ b) ++ c) d ∙ ap (λ p. first_onto comes_before p d) (moved_behind o a b c) ∙ sym (first_onto-append (first_onto comes_before o (a ++ c)) b d)
        ∙ first_onto-swap (first_onto comes_before o (a ++ c)) b d ∙ first_onto-append (first_onto comes_before o (a ++ c)) d b ∙ ap (λ p. first_onto comes_before p b) (sym (first_onto-append o (a ++ c) d))

    -- ---- what is gathered apart

    behind_earlier : (s r t : A) → (comes_before t r ≡ false) → comes_before t (earlier_of comes_before (Some s) r) ≡ false
    behind_earlier s r t h = by_test (comes_before r s) refl
      where
        by_test : (b : Bool) → comes_before r s ≡ b → comes_before t (if b then r else s) ≡ false
        by_test true e = h
        by_test false e = order.both s r t e h

    first_of_one : (s r : A) (rs : List A) → IsFirstOf comes_before rs r → IsFirstOf comes_before (s ∷ rs) (earlier_of comes_before (Some s) r)
    first_of_one s r rs h = record { listed = listed_one (comes_before r s); first = all }
      where
        listed_one : (b : Bool) → IsIn (if b then r else s) (s ∷ rs)
        listed_one true = there h.listed
        listed_one false = here

        all : (t : A) → IsIn t (s ∷ rs) → comes_before t (earlier_of comes_before (Some s) r) ≡ false
        all t here = (earlier_first s r).0
        all t (there m) = behind_earlier s r t (h.first t m)

    pub first_onto-merged : (o : Option A) (rs : List A) → first_onto comes_before o rs ≡ merged comes_before o (first_onto comes_before None rs)
    first_onto-merged None rs = by_found (first_onto comes_before None rs) refl
      where
        by_found : (p : Option A) → first_onto comes_before None rs ≡ p → first_onto comes_before None rs ≡ merged comes_before None p
        by_found None e = e
        by_found (Some r) e = e
    first_onto-merged (Some s) rs = by_found (first_onto comes_before None rs) (first_onto comes_before (Some s) rs) refl refl
      where
        by_found : (p q : Option A) → first_onto comes_before None rs ≡ p → first_onto comes_before (Some s) rs ≡ q → q ≡ merged comes_before (Some s) p
        by_found None q e f = sym f ∙ ap (first_onto comes_before (Some s)) (none_found rs e)
        by_found (Some r) None e f = absurd (some_stays s rs f)
        by_found (Some r) (Some t) e f = ap Some (one_first (s ∷ rs) t (earlier_of comes_before (Some s) r) (first_of_onto s rs t f) (first_of_one s r rs (first_found rs r e)))

    -- Others count only where there is none of the first.
    onto_none-unless : (rs others : List A) (p : Option A) → first_onto comes_before None rs ≡ p → onto_none comes_before p others ≡ first_onto comes_before None (unless_any rs others)
    onto_none-unless [] others None e = refl
    onto_none-unless [] others (Some r) e = absurd (cc)
    onto_none-unless (q ∷ qs) others None e = absurd (some_stays q qs e)
    onto_none-unless (q ∷ qs) others (Some r) e = sym e

    pub merged-unless : (o i j k : Option A) (rs others : List A) → i ≡ first_onto comes_before None rs → j ≡ onto_none comes_before i others → k ≡ merged comes_before o j
        → k ≡ first_onto comes_before o (unless_any rs others)
    merged-unless o i j k rs others e f g =
        g ∙ ap (merged comes_before o) (f ∙ onto_none-unless rs others i (sym e)) ∙ sym (first_onto-merged o (unless_any rs others))
