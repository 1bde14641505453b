-- Two variables are the same or not, and lists of variables have one or not; how many of some variables occur.
use Rattle.std.proofs.Common.{◌≡◌, ◌⊎◌, inl, inr, ◌<◌, ◌≤◌, ◌+◌, ℕ, Bool, true, false, cond, ◌==◌, ◌&&◌, ◌||◌, List, [], ◌∷◌, refl, sym, ap, ◌∙◌, subst, arith}
use Rattle.std.proofs.lemmas.Bool.{and_from, both_ways, eq-eqb}
use Rattle.cp_lists.specs.Lists.{IsIn, there}
use Rattle.cp_model.specs.declared.variable.Variable.{Variable}
use Rattle.cp_model.specs.Same.{same_sort}
use Rattle.cp_model.proofs.SameTests.{same_sort_itself, variable_is}
use Rattle.cp_lists.proofs.Members.{in_cases, not_in_none, at_head}

-- Whether two variables are the same.
abbrev pub is_variable : Variable → Variable → Bool
is_variable x y = same_sort x.sort y.sort && (x.number == y.number)

itself : (x : Variable) → is_variable x x ≡ true
itself x = and_from (same_sort x.sort x.sort) (x.number == x.number) (same_sort_itself x.sort) (eq-eqb x.number x.number refl)

pub is_variable_tells : (x y : Variable) → ((is_variable x y ≡ true) × (x ≡ y)) ⊎ ((is_variable x y ≡ false) × (x ≡ y → ⊥))
is_variable_tells x y = told (is_variable x y) refl
  where
    told : (b : Bool) → is_variable x y ≡ b → ((is_variable x y ≡ true) × (x ≡ y)) ⊎ ((is_variable x y ≡ false) × (x ≡ y → ⊥))
    told true e = inl (e, variable_is x y e)
    told false e = inr (e, λ same. both_ways (is_variable x y) e (subst (λ z. is_variable x z ≡ true) same (itself x)))

-- Whether a variable is among some.
abbrev pub occurs : List Variable → Variable → Bool
occurs [] x = false
occurs (y ∷ ys) x = is_variable x y || occurs ys x

occurs_cases : (x y : Variable) (ys : List Variable) → ((is_variable x y ≡ true) × (x ≡ y)) ⊎ ((is_variable x y ≡ false) × (x ≡ y → ⊥)) →
    (((occurs ys x) ≡ true) × IsIn x ys) ⊎ (((occurs ys x) ≡ false) × (IsIn x ys → ⊥)) →
    (((is_variable x y || occurs ys x) ≡ true) × IsIn x (y ∷ ys)) ⊎ (((is_variable x y || occurs ys x) ≡ false) × (IsIn x (y ∷ ys) → ⊥))
occurs_cases x y ys (inl p) rest = inl (rw p.0 refl, at_head p.1)
occurs_cases x y ys (inr p) (inl q) = inl (rw p.0 q.0, there q.1)
occurs_cases x y ys (inr p) (inr q) = inr (rw p.0 q.0, λ h. elim (in_cases h) [ inl e ↦ p.1 (sym e) | inr i ↦ q.1 i ])

pub occurs_tells : (xs : List Variable) (x : Variable) → ((occurs xs x ≡ true) × IsIn x xs) ⊎ ((occurs xs x ≡ false) × (IsIn x xs → ⊥))
occurs_tells [] x = inr (refl, λ h. not_in_none h)
occurs_tells (y ∷ ys) x = occurs_cases x y ys (is_variable_tells x y) (occurs_tells ys x)

-- What is in the list occurs, and what is not does not.
pub occurs_in : (xs : List Variable) (x : Variable) → IsIn x xs → occurs xs x ≡ true
occurs_in xs x i = elim (occurs_tells xs x) [ inl p ↦ p.0 | inr p ↦ absurd (p.1 i) ]

pub occurs_not : (xs : List Variable) (x : Variable) → (IsIn x xs → ⊥) → occurs xs x ≡ false
occurs_not xs x h = elim (occurs_tells xs x) [ inl p ↦ absurd (h p.1) | inr p ↦ p.0 ]

-- How many of the variables pass a test.
abbrev pub count : (Variable → Bool) → List Variable → ℕ
count p [] = 0
count p (x ∷ xs) = cond (p x) 1 0 + count p xs

-- Fewer pass a test that lets through less, one the less where one of them passes no more.
no_more : (p q : Variable → Bool) (zs : List Variable) → ((x : Variable) → q x ≡ true → p x ≡ true) → count q zs ≤ count p zs
no_more p q [] h = omega arith
no_more p q (z ∷ zs) h = more (q z) (p z) (h z) (no_more p q zs h)
  where
    more : (b c : Bool) → (b ≡ true → c ≡ true) → count q zs ≤ count p zs → cond b 1 0 + count q zs ≤ cond c 1 0 + count p zs
    more true true i l = omega arith
    more true false i l = absurd (let e : false ≡ true = i refl in cc)
    more false c i l = elim c as (λ d. cond false 1 0 + count q zs ≤ cond d 1 0 + count p zs) [ true ↦ omega arith | false ↦ omega arith ]

pub fewer : (p q : Variable → Bool) (x : Variable) (zs : List Variable) → ((y : Variable) → q y ≡ true → p y ≡ true) → IsIn x zs → p x ≡ true → q x ≡ false → count q zs < count p zs
fewer p q x [] h i yes_p no_q = absurd (not_in_none i)
fewer p q x (z ∷ zs) h i yes_p no_q = place (in_cases i) (λ j. fewer p q x zs h j yes_p no_q)
  where
    more : (b c : Bool) → (b ≡ true → c ≡ true) → count q zs < count p zs → cond b 1 0 + count q zs < cond c 1 0 + count p zs
    more true true i l = omega arith
    more true false i l = absurd (let e : false ≡ true = i refl in cc)
    more false c i l = elim c as (λ d. cond false 1 0 + count q zs < cond d 1 0 + count p zs) [ true ↦ omega arith | false ↦ omega arith ]

    place : (z ≡ x) ⊎ IsIn x zs → (IsIn x zs → count q zs < count p zs) → count q (z ∷ zs) < count p (z ∷ zs)
    place (inl e) rest =
        let e0 : p z ≡ true = ap p e ∙ yes_p in
        let e1 : q z ≡ false = ap q e ∙ no_q in
        let l = no_more p q zs h in rw (e0, e1) (omega arith)
    place (inr j) rest = more (q z) (p z) (h z) (rest j)
