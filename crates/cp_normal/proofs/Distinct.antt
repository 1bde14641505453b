-- How many different variables a list has.
use Rattle.std.proofs.Common.{◌≡◌, ◌⊎◌, inl, inr, ◌<◌, ◌≤◌, ◌+◌, ℕ, Bool, true, false, cond, ◌||◌, List, [], ◌∷◌, refl, sym, ap, ◌∙◌, subst, arith}
use Rattle.cp_lists.specs.Lists.{IsIn, here, there}
use Rattle.cp_model.specs.declared.variable.Variable.{Variable}
use Rattle.cp_unify.specs.Unifiers.{AreVariablesAmong}
use Rattle.cp_unify.proofs.VariableTests.{is_variable, is_variable_tells, occurs, occurs_tells, occurs_in, occurs_not}
use Rattle.cp_unify.proofs.Members.{among_cons}

abbrev pub distinct : List Variable → ℕ
distinct [] = 0
distinct (x ∷ xs) = cond (occurs xs x) 0 1 + distinct xs

-- The list without a variable.
abbrev without : Variable → List Variable → List Variable
without y [] = []
without y (x ∷ xs) = cond (is_variable x y) (without y xs) (x ∷ without y xs)

is_itself : (x y : Variable) → x ≡ y → is_variable x y ≡ true
is_itself x y e = elim (is_variable_tells x y) [ inl p ↦ p.0 | inr p ↦ absurd (p.1 e) ]

is_other : (x y : Variable) → (x ≡ y → ⊥) → is_variable x y ≡ false
is_other x y n = elim (is_variable_tells x y) [ inl p ↦ absurd (n p.1) | inr p ↦ p.0 ]

-- Whether another variable occurs does not change.
without_other : (y z : Variable) → (z ≡ y → ⊥) → (xs : List Variable) → occurs (without y xs) z ≡ occurs xs z
without_other y z ne [] = refl
without_other y z ne (x ∷ xs) = at (is_variable_tells x y) (without_other y z ne xs)
  where
    at : ((is_variable x y ≡ true) × (x ≡ y)) ⊎ ((is_variable x y ≡ false) × (x ≡ y → ⊥)) → occurs (without y xs) z ≡ occurs xs z → occurs (without y (x ∷ xs)) z ≡ occurs (x ∷ xs) z
    at (inl p) rest = rw (p.0, is_other z x (λ e. ne (e ∙ p.1))) rest
    at (inr p) rest = rw p.0 (ap (λ (b : Bool). is_variable z x || b) rest)

-- The count is that of the list without a variable, and one more where the variable occurs.
count_without : (y : Variable) (xs : List Variable) → distinct xs ≡ cond (occurs xs y) 1 0 + distinct (without y xs)
count_without y [] = refl
count_without y (x ∷ xs) = at (is_variable_tells x y) (count_without y xs)
  where
    sum : (b : Bool) (n : ℕ) → cond b 0 1 + (cond b 1 0 + n) ≡ 1 + n
    sum true n = omega arith
    sum false n = omega arith

    swap : (b c : Bool) (m n : ℕ) → m ≡ cond c 1 0 + n → cond b 0 1 + m ≡ cond c 1 0 + (cond b 0 1 + n)
    swap b c m n e = omega (arith, e)

    at : ((is_variable x y ≡ true) × (x ≡ y)) ⊎ ((is_variable x y ≡ false) × (x ≡ y → ⊥)) → distinct xs ≡ cond (occurs xs y) 1 0 + distinct (without y xs) →
        distinct (x ∷ xs) ≡ cond (occurs (x ∷ xs) y) 1 0 + distinct (without y (x ∷ xs))
    at (inl p) rest =
        rw (p.0, is_itself y x (sym p.1)) (ap (λ (n : ℕ). cond (occurs xs x) 0 1 + n) rest ∙ ap (λ (z : Variable). cond (occurs xs z) 0 1 + (cond (occurs xs y) 1 0 + distinct (without y xs))) p.1 ∙ sum (occurs xs y) (distinct (without y xs)))
    at (inr p) rest = rw (p.0, is_other y x (λ e. p.1 (sym e)), without_other y x p.1 xs) (swap (occurs xs x) (occurs xs y) (distinct xs) (distinct (without y xs)) rest)

in_occurs : (xs : List Variable) (x : Variable) → occurs xs x ≡ true → IsIn x xs
in_occurs xs x e = elim (occurs_tells xs x) [ inl p ↦ p.1 | inr p ↦ absurd (let f : true ≡ false = sym e ∙ p.0 in cc) ]

in_without : (x y : Variable) (xs : List Variable) → (x ≡ y → ⊥) → IsIn x xs → IsIn x (without y xs)
in_without x y xs ne i = in_occurs (without y xs) x (without_other y x ne xs ∙ occurs_in xs x i)

one_less : (y : Variable) (xs : List Variable) → IsIn y xs → distinct xs ≡ 1 + distinct (without y xs)
one_less y xs i = count_without y xs ∙ ap (λ (b : Bool). cond b 1 0 + distinct (without y xs)) (occurs_in xs y i)

not_more_at : (y : Variable) (ys xs : List Variable) → AreVariablesAmong (y ∷ ys) xs → ((zs : List Variable) → AreVariablesAmong ys zs → distinct ys ≤ distinct zs) →
    ((occurs ys y ≡ true) × IsIn y ys) ⊎ ((occurs ys y ≡ false) × (IsIn y ys → ⊥)) → distinct (y ∷ ys) ≤ distinct xs
not_more_at y ys xs h rest (inl p) = let l = rest xs (λ x i. h x (there i)) in rw p.0 (omega (arith, l))
not_more_at y ys xs h rest (inr p) =
    let l = rest (without y xs) (λ x i. in_without x y xs (λ e. p.1 (subst (λ (z : Variable). IsIn z ys) e i)) (h x (there i))) in
    let e = one_less y xs (h y here) in
    rw p.0 (omega (arith, l, e))

-- Of variables that are all among others there are not more, and fewer where one of those is not among them.
pub not_more : (ys xs : List Variable) → AreVariablesAmong ys xs → distinct ys ≤ distinct xs
not_more [] xs h = omega arith
not_more (y ∷ ys) xs h = not_more_at y ys xs h (λ zs k. not_more ys zs k) (occurs_tells ys y)

pub fewer_distinct : (ys xs : List Variable) (x : Variable) → AreVariablesAmong ys xs → IsIn x xs → (IsIn x ys → ⊥) → distinct ys < distinct xs
fewer_distinct ys xs x h i gone =
    let l : cond (occurs ys x) 0 1 + distinct ys ≤ distinct xs = not_more (x ∷ ys) xs (among_cons x ys xs i h) in
    let m : 1 + distinct ys ≤ distinct xs = subst (λ (b : Bool). cond b 0 1 + distinct ys ≤ distinct xs) (occurs_not ys x gone) l in
    omega (arith, m)
