-- Variables among others.
use Rattle.std.proofs.Common.{◌≡◌, ◌↔◌, ◌⊎◌, inl, inr, ⊎_elim, List, [], ◌∷◌, ◌++◌, Bool, true, false, ◌&&◌, ◌||◌, refl, sym, ap, ◌∙◌}
use Rattle.std.proofs.lemmas.Bool.{and_parts, and_from, or_cases, or_left, or_right}
use Rattle.std.proofs.Math.Bool.{and-true, and-false}
use Rattle.cp_lists.specs.Lists.{IsIn, here, there}
use Rattle.cp_lists.proofs.Members.{not_in_none, of_each}
use Rattle.cp_model.specs.Term.{KeyTerm, Term, pair_term, enc_term, variables_of, variables_of_key}
use Rattle.cp_model.specs.declared.variable.Variable.{Variable}
use Rattle.cp_model.specs.Same.{has_variable}
use Rattle.cp_model.proofs.SameTests.{variable_in, in_has_variable}
use Rattle.cp_term.specs.Keys.{key_as_term}
use Rattle.cp_pattern.specs.Within.{has_all_but}

and_assoc : (a b c : Bool) → (a && (b && c)) ≡ ((a && b) && c)
and_assoc true b c = refl
and_assoc false b c = refl

module _ (locals xs : List Variable) where
  abbrev has_all : List Variable → Bool
  has_all = has_all_but locals xs

  has_all-append : (ys zs : List Variable) → has_all (ys ++ zs) ≡ (has_all ys && has_all zs)
  has_all-append [] zs = refl
  has_all-append (y ∷ ys) zs = ap (λ b. (has_variable locals y || has_variable xs y) && b) (has_all-append ys zs) ∙ and_assoc (has_variable locals y || has_variable xs y) (has_all ys) (has_all zs)

  pub are_within : (ys : List Variable) → has_all ys ≡ true → (y : Variable) → IsIn y ys → IsIn y locals ⊎ IsIn y xs
  are_within [] e y i = absurd (not_in_none i)
  are_within (z ∷ zs) e y i =
      let p = and_parts (has_variable locals z || has_variable xs z) (has_all zs) e in
      of_each (λ (x : Variable). IsIn x locals ⊎ IsIn x xs)
      (⊎_elim (λ h. inl (variable_in locals z h)) (λ h. inr (variable_in xs z h)) (or_cases (has_variable locals z) (has_variable xs z) p.0))
      (are_within zs p.1 y) i

  pub within_all : (ys : List Variable) → ((y : Variable) → IsIn y ys → IsIn y locals ⊎ IsIn y xs) → has_all ys ≡ true
  within_all [] h = refl
  within_all (z ∷ zs) h =
      and_from (has_variable locals z || has_variable xs z) (has_all zs)
      (⊎_elim (λ i. or_left (has_variable locals z) (has_variable xs z) (in_has_variable locals z i)) (λ i. or_right (has_variable locals z) (has_variable xs z) (in_has_variable xs z i)) (h z here))
      (within_all zs (λ y i. h y (there i)))

  module _ (whole term : Term) (h : has_all (variables_of term) ≡ has_all (variables_of whole)) where
    pub not_left : (l r : Term) → term ≡ pair_term l r → false ≡ has_all (variables_of l) → false ≡ has_all (variables_of whole)
    not_left l r e f =
        ap (λ b. b && has_all (variables_of r)) f ∙ sym (has_all-append (variables_of l) (variables_of r)) ∙ sym (ap (λ t. has_all (variables_of t)) e) ∙ h

    pub left_too : (l r : Term) → term ≡ pair_term l r → true ≡ has_all (variables_of l) → has_all (variables_of r) ≡ has_all (variables_of whole)
    left_too l r e f =
        ap (λ b. b && has_all (variables_of r)) f ∙ sym (has_all-append (variables_of l) (variables_of r)) ∙ sym (ap (λ t. has_all (variables_of t)) e) ∙ h

    encrypted : (body key : Term) → ((k : KeyTerm) × (key ≡ key_as_term k) × (term ≡ enc_term body k)) → (has_all (variables_of body) && has_all (variables_of key)) ≡ has_all (variables_of whole)
    encrypted body key (k, e, f) =
        ap (λ t. has_all (variables_of body) && has_all (variables_of t)) e ∙ sym (has_all-append (variables_of body) (variables_of_key k))
        ∙ sym (ap (λ t. has_all (variables_of t)) f) ∙ h

    pub not_key : (body key : Term) → ((k : KeyTerm) × (key ≡ key_as_term k) × (term ≡ enc_term body k)) → false ≡ has_all (variables_of key) → false ≡ has_all (variables_of whole)
    not_key body key w f = sym (and-false (has_all (variables_of body))) ∙ ap (λ b. has_all (variables_of body) && b) f ∙ encrypted body key w

    pub key_too : (body key : Term) → ((k : KeyTerm) × (key ≡ key_as_term k) × (term ≡ enc_term body k)) → true ≡ has_all (variables_of key) → has_all (variables_of body) ≡ has_all (variables_of whole)
    key_too body key w f = sym (and-true (has_all (variables_of body))) ∙ ap (λ b. has_all (variables_of body) && b) f ∙ encrypted body key w

among_others : (xs : List Variable) (x : Variable) → IsIn x [] ⊎ IsIn x xs → IsIn x xs
among_others xs x (inl i) = absurd (not_in_none i)
among_others xs x (inr i) = i

-- Whether all variables of a term are among others, where none is local.
pub within_tested : (xs used : List Variable) (t u : Term) (b : Bool) → b ≡ has_all_but [] xs (variables_of t) → xs ≡ used → t ≡ u → (b ≡ true) ↔ ((x : Variable) → IsIn x (variables_of u) → IsIn x used)
within_tested xs used t u b tests same is =
    let all : b ≡ has_all_but [] used (variables_of u) = tests ∙ ap (λ (ys : List Variable). has_all_but [] ys (variables_of t)) same ∙ ap (λ (v : Term). has_all_but [] used (variables_of v)) is in (
      λ h x i. among_others used x (are_within [] used (variables_of u) (sym all ∙ h) x i),
      λ h. all ∙ within_all [] used (variables_of u) (λ x i. inr (h x i)),
    )
