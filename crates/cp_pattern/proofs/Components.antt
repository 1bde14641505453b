-- Components of pairs and of other terms.
use Rattle.std.proofs.Common.{Bor, ◌≡◌, ◌↔◌, ◌⊎◌, inl, inr, ⊎_elim, ℕ, refl, sym, subst, ◌∙◌}
use Rattle.cp_model.specs.Term.{Term, pair_term}
use Rattle.cp_theory.specs.Critical.{IsPartOfPairs, whole_part, part_of_left, part_of_right, IsComponent}
use Rattle.cp_term.specs.Shapes.{HasShape}
use Rattle.cp_term.specs.declared.shape.Shape.{Shape}
use Rattle.cp_term.specs.declared.shape.Shape.TheVariants.{Tag, Variable, Inverse, Ltk, Pubk, Pair, Encryption}
use Rattle.cp_term.specs.Variables.{variable_of_sort}
use Rattle.cp_model.specs.declared.sort.Sort.{Sort}
use Rattle.cp_term.specs.declared.term.Term as program

module _ (c : Term) where
  part_of_pair : {t : Term} → IsPartOfPairs c t → (a b : Term) → t ≡ pair_term a b → (c ≡ pair_term a b) ⊎ (IsPartOfPairs c a ⊎ IsPartOfPairs c b)
  part_of_pair whole_part a b e = inl e
  part_of_pair (part_of_left {a = x} p) a b e = let same : x ≡ a = cc in inr (inl (subst (IsPartOfPairs c) same p))
  part_of_pair (part_of_right {b = y} p) a b e = let same : y ≡ b = cc in inr (inr (subst (IsPartOfPairs c) same p))

  part_of_other : {t : Term} → IsPartOfPairs c t → ((a b : Term) → t ≡ pair_term a b → ⊥) → t ≡ c
  part_of_other whole_part n = refl
  part_of_other (part_of_left {a} {b} p) n = absurd (n a b refl)
  part_of_other (part_of_right {a} {b} p) n = absurd (n a b refl)

  -- Of what is no pair, it is a component exactly where it is that.
  pub itself_alone : (t : Term) → ((a b : Term) → t ≡ pair_term a b → ⊥) → IsComponent c t ↔ (t ≡ c)
  itself_alone t n = (
    λ h. part_of_other h.part n,
    λ e. record { part = subst (IsPartOfPairs c) (sym e) whole_part; no_pair = λ a b f. n a b (e ∙ f) },
  )

  module _ (t l r : Term) (is : t ≡ pair_term l r) where
    pub left_component : IsComponent c l → IsComponent c t
    left_component h = subst (IsComponent c) (sym is) (record { part = part_of_left h.part; no_pair = h.no_pair })

    pub right_component : IsComponent c r → IsComponent c t
    right_component h = subst (IsComponent c) (sym is) (record { part = part_of_right h.part; no_pair = h.no_pair })

    pub other_component : (IsComponent c l → ⊥) → IsComponent c t → IsComponent c r
    other_component not h =
        ⊎_elim (λ e. absurd (h.no_pair l r e))
        (⊎_elim (λ p. absurd (not (record { part = p; no_pair = h.no_pair }))) (λ p. record { part = p; no_pair = h.no_pair }))
        (part_of_pair h.part l r is)

variable_no_pair : (sort : Sort) (n : ℕ) (a b : Term) → variable_of_sort sort n ≡ pair_term a b → ⊥
variable_no_pair sort n a b e = cc

-- A term of another shape than a pair is none.
pub no_pair_by_shape : (s : Shape) (t : Term) → HasShape s t → ((l r : Bor program.Term) → s ≡ Pair l r → ⊥) → (a b : Term) → t ≡ pair_term a b → ⊥
no_pair_by_shape (Pair l r) t is not a b e = not l r refl
no_pair_by_shape (Tag x) t is not a b e = let f = is in absurd (cc)
no_pair_by_shape (Inverse n) t is not a b e = let f = is in absurd (cc)
no_pair_by_shape (Ltk n m) t is not a b e = let f = is in absurd (cc)
no_pair_by_shape (Pubk f p n) t is not a b e = let g = is in absurd (cc)
no_pair_by_shape (Encryption x k) t is not a b e = let f = is.2 in absurd (cc)
no_pair_by_shape (Variable n sort) t is not a b e = variable_no_pair sort n a b (sym is ∙ e)
