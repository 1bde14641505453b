-- The locals of a pattern in the order in which they occur.
use Rattle.std.proofs.Common.{◌≡◌, ℕ, ◌==◌, ◌&&◌, ◌||◌, List, [], ◌∷◌, ◌++◌, Bool, true, false, refl, sym, ap, ap₂, ◌∙◌, if◌then◌else◌, append_assoc}
use Rattle.std.proofs.lemmas.Bool.{and_parts, eqb-true}
use Rattle.std.proofs.Math.Bool.{or_assoc}
use Rattle.cp_model.specs.declared.sort.Sort.{Sort}
use Rattle.cp_model.specs.declared.variable.Variable.{Variable}
use Rattle.cp_model.specs.Same.{same_sort, has_variable}
use Rattle.cp_model.proofs.SameTests.{sort_is}
use Rattle.cp_language.specs.Printed.{without, locals_in_order}
use Rattle.cp_names.proofs.NamesByFlags.{branch}

same_variable : (x y : Variable) → (same_sort x.sort y.sort && (x.number == y.number)) ≡ true → x ≡ y
same_variable x y e =
    let both = and_parts (same_sort x.sort y.sort) (x.number == y.number) e in
    ap₂ (λ (k : Sort) (m : ℕ). (record { sort = k; number = m })) (sort_is x.sort y.sort both.0) (eqb-true x.number y.number both.1)

-- a variable that is there already adds nothing
has-again : (seen : List Variable) (x y : Variable) → has_variable seen x ≡ true → has_variable (x ∷ seen) y ≡ has_variable seen y
has-again seen x y h = by_test (same_sort x.sort y.sort && (x.number == y.number)) refl
  where
    by_test : (b : Bool) → (same_sort x.sort y.sort && (x.number == y.number)) ≡ b → (b || has_variable seen y) ≡ has_variable seen y
    by_test true e = sym (sym (ap (has_variable seen) (same_variable x y e)) ∙ h)
    by_test false e = refl

or_last : (a b : Bool) → (a || b) ≡ (b || (a || false))
or_last true true = refl
or_last true false = refl
or_last false true = refl
or_last false false = refl

has-append : (xs ys : List Variable) (y : Variable) → has_variable (xs ++ ys) y ≡ (has_variable xs y || has_variable ys y)
has-append [] ys y = refl
has-append (x ∷ xs) ys y =
    let t = same_sort x.sort y.sort && (x.number == y.number) in
    ap (λ b. t || b) (has-append xs ys y) ∙ sym (or_assoc t (has_variable xs y) (has_variable ys y))

-- at the front or at the end
has-turned : (seen : List Variable) (x y : Variable) → has_variable (x ∷ seen) y ≡ has_variable (seen ++ x ∷ []) y
has-turned seen x y = or_last (same_sort x.sort y.sort && (x.number == y.number)) (has_variable seen y) ∙ sym (has-append seen (x ∷ []) y)

-- only which variables have been seen matters
locals-same : (ls : List Variable) (xs s t : List Variable) → ((y : Variable) → has_variable s y ≡ has_variable t y) → locals_in_order ls s xs ≡ locals_in_order ls t xs
locals-same ls [] s t h = refl
locals-same ls (x ∷ xs) s t h =
    let more : locals_in_order ls (x ∷ s) xs ≡ locals_in_order ls (x ∷ t) xs = locals-same ls xs (x ∷ s) (x ∷ t) (λ y. ap (λ b. (same_sort x.sort y.sort && (x.number == y.number)) || b) (h y)) in
    let kept : without s x (locals_in_order ls (x ∷ s) xs) ≡ without t x (locals_in_order ls (x ∷ t) xs)
    = branch (has_variable s x) (has_variable t x) (locals_in_order ls (x ∷ s) xs) (x ∷ locals_in_order ls (x ∷ s) xs) (locals_in_order ls (x ∷ t) xs) (x ∷ locals_in_order ls (x ∷ t) xs) (h x) more (ap (λ zs. x ∷ zs) more) in
    branch (has_variable ls x) (has_variable ls x) (without s x (locals_in_order ls (x ∷ s) xs)) (locals_in_order ls s xs) (without t x (locals_in_order ls (x ∷ t) xs)) (locals_in_order ls t xs) refl kept (locals-same ls xs s t h)

module _ (ls found : List Variable) (x : Variable) (xs : List Variable) where
  take_branch : (b c : Bool) → has_variable ls x ≡ b → has_variable found x ≡ c
      → locals_in_order ls found (x ∷ xs) ≡ (if b then (if c then locals_in_order ls (x ∷ found) xs else x ∷ locals_in_order ls (x ∷ found) xs) else locals_in_order ls found xs)
  take_branch b c e f =
      let inner : without found x (locals_in_order ls (x ∷ found) xs) ≡ (if c then locals_in_order ls (x ∷ found) xs else x ∷ locals_in_order ls (x ∷ found) xs)
      = ap (λ (d : Bool). if d then locals_in_order ls (x ∷ found) xs else x ∷ locals_in_order ls (x ∷ found) xs) f in
      branch (has_variable ls x) b (without found x (locals_in_order ls (x ∷ found) xs)) (locals_in_order ls found xs)
      (if c then locals_in_order ls (x ∷ found) xs else x ∷ locals_in_order ls (x ∷ found) xs) (locals_in_order ls found xs) e inner refl

  -- a local that was not found before
  pub local_found : has_variable ls x ≡ true → has_variable found x ≡ false → (found ++ x ∷ []) ++ locals_in_order ls (found ++ x ∷ []) xs ≡ found ++ locals_in_order ls found (x ∷ xs)
  local_found e f =
      append_assoc found (x ∷ []) (locals_in_order ls (found ++ x ∷ []) xs)
      ∙ ap (λ zs. found ++ x ∷ zs) (locals-same ls xs (found ++ x ∷ []) (x ∷ found) (λ y. sym (has-turned found x y)))
      ∙ ap (λ zs. found ++ zs) (sym (take_branch true false e f))

  -- a local that was found before
  pub local_again : has_variable ls x ≡ true → has_variable found x ≡ true → found ++ locals_in_order ls found xs ≡ found ++ locals_in_order ls found (x ∷ xs)
  local_again e f =
      ap (λ zs. found ++ zs) (locals-same ls xs found (x ∷ found) (λ y. sym (has-again found x y f)) ∙ sym (take_branch true true e f))

  -- no local
  pub local_not : has_variable ls x ≡ false → found ++ locals_in_order ls found xs ≡ found ++ locals_in_order ls found (x ∷ xs)
  local_not e = ap (λ zs. found ++ zs) (sym (take_branch false (has_variable found x) e refl))
