-- The strings of what a term is made of: components of messages, and encryptions that enclose positions.
use Rattle.std.proofs.Common.{◌≡◌, ℕ, List, [], ◌∷◌, sym, subst, ⊎_elim}
use Rattle.cp_lists.specs.Lists.{IsIn, here}
use Rattle.cp_lists.proofs.Members.{not_in_none, only_item, head_or_behind, in_append, in_append_left, in_append_right, from_map}
use Rattle.cp_model.specs.Term.{KeyTerm, Term, tag_term, atom_term, pair_term, enc_term}
use Rattle.cp_model.specs.declared.step.Step.{Step}
use Rattle.cp_model.specs.declared.step.Step.TheVariants.{Left, Right, Plaintext}
use Rattle.cp_derive.specs.Components.{Component, components_below, components_of, IsFirstUnderivable}
use Rattle.cp_theory.specs.Above.{encryptions_above}
use Rattle.cp_escape.specs.Escape.{IsFirstWith}
use Rattle.cp_escape.proofs.EscapeGuards.{first_is_in}
use Rattle.cp_printable.specs.Strings.{strings_of, strings_of_key}
use Rattle.cp_printable.specs.Spelled.{IsSpelledTerm}

module _ (S : List ℕ → Type 0) where
  -- ---- parts

  left_spelled : (a b : Term) → IsSpelledTerm S (pair_term a b) → IsSpelledTerm S a
  left_spelled a b is s i = is s (in_append_left (strings_of b) i)

  right_spelled : (a b : Term) → IsSpelledTerm S (pair_term a b) → IsSpelledTerm S b
  right_spelled a b is s i = is s (in_append_right (strings_of a) i)

  body_spelled : (a : Term) (k : KeyTerm) → IsSpelledTerm S (enc_term a k) → IsSpelledTerm S a
  body_spelled a k is s i = is s (in_append_left (strings_of_key k) i)

  -- ---- encryptions that enclose a position

  pub above_spelled : (t : Term) (path : List Step) (e : Term) → IsSpelledTerm S t → IsIn e (encryptions_above t path) → IsSpelledTerm S e
  above_spelled (pair_term a b) (Left ∷ path) e is i = above_spelled a path e (left_spelled a b is) i
  above_spelled (pair_term a b) (Right ∷ path) e is i = above_spelled b path e (right_spelled a b is) i
  above_spelled (enc_term a k) (Plaintext ∷ path) e is i =
      ⊎_elim (λ (same : e ≡ enc_term a k). subst (IsSpelledTerm S) (sym same) is) (λ j. above_spelled a path e (body_spelled a k is) j) (head_or_behind i)
  above_spelled (pair_term a b) (Plaintext ∷ path) e is i = absurd (not_in_none i)
  above_spelled (enc_term a k) (Left ∷ path) e is i = absurd (not_in_none i)
  above_spelled (enc_term a k) (Right ∷ path) e is i = absurd (not_in_none i)
  above_spelled (tag_term bytes) (s ∷ path) e is i = absurd (not_in_none i)
  above_spelled (atom_term v) (s ∷ path) e is i = absurd (not_in_none i)
  above_spelled (tag_term bytes) [] e is i = absurd (not_in_none i)
  above_spelled (atom_term v) [] e is i = absurd (not_in_none i)
  above_spelled (pair_term a b) [] e is i = absurd (not_in_none i)
  above_spelled (enc_term a k) [] e is i = absurd (not_in_none i)

  pub first_above_spelled : {has : Term → Type 0} (t : Term) (path : List Step) (e : Term) → IsSpelledTerm S t → IsFirstWith has (encryptions_above t path) e → IsSpelledTerm S e
  first_above_spelled t path e is first = above_spelled t path e is (first_is_in first)

  -- ---- components

  -- The one component of what is no pair is the whole.
  alone_spelled : (d : Component) (t : Term) → IsSpelledTerm S t → IsIn d (record { path = []; term = t } ∷ []) → IsSpelledTerm S d.term
  alone_spelled d t is i = subst (λ (c : Component). IsSpelledTerm S c.term) (sym (only_item i)) is

  -- What holds of the components of a part holds of them behind a step.
  below_spelled : (step : Step) (cs : List Component) → ((c : Component) → IsIn c cs → IsSpelledTerm S c.term) → (d : Component) → IsIn d (components_below step cs) → IsSpelledTerm S d.term
  below_spelled step cs all d i =
      let m = from_map (λ (c : Component). record { path = step ∷ c.path; term = c.term }) cs i in
      subst (λ (c : Component). IsSpelledTerm S c.term) m.2 (all m.0 m.1)

  component_spelled : (t : Term) → IsSpelledTerm S t → (d : Component) → IsIn d (components_of t) → IsSpelledTerm S d.term
  component_spelled (tag_term bytes) is d i = alone_spelled d (tag_term bytes) is i
  component_spelled (atom_term v) is d i = alone_spelled d (atom_term v) is i
  component_spelled (enc_term body key) is d i = alone_spelled d (enc_term body key) is i
  component_spelled (pair_term a b) is d i =
      ⊎_elim (below_spelled Left (components_of a) (component_spelled a (left_spelled a b is)) d) (below_spelled Right (components_of b) (component_spelled b (right_spelled a b is)) d)
      (in_append (components_below Left (components_of a)) (components_below Right (components_of b)) i)

  pub underivable_spelled : {derives : Term → Type 0} (t : Term) (path : List Step) (c : Term) → IsSpelledTerm S t → IsFirstUnderivable derives t path c → IsSpelledTerm S c
  underivable_spelled t path c is first =
      let found : Component = record { path = path; term = c } in
      component_spelled t is found (subst (IsIn found) (sym first.among) (in_append_right first.before here))
