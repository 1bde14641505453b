-- Variables that occur in terms and events.
use Rattle.std.proofs.Common.{◌≡◌, ℕ, ◌+◌, ◌<◌, List, [], ◌∷◌, ◌++◌, ◌||◌, ◌&&◌, ◌==◌, length, get_or, drop, Bool, true, false, refl, sym, ap, ◌∙◌}
use Rattle.std.proofs.Math.Bool.{or_assoc}
use Rattle.cp_lists.proofs.Members.{drop_read}
use Rattle.cp_lists.specs.Lists.{IsIn}
use Rattle.cp_model.proofs.CarriedParts.{not_both}
use Rattle.cp_model.proofs.SameTests.{variable_in}
use Rattle.cp_model.specs.Term.{KeyTerm, Term, pair_term, enc_term, variables_of, variables_of_key}
use Rattle.cp_model.specs.declared.strand.Event.{Event}
use Rattle.cp_model.specs.declared.variable.Variable.{Variable}
use Rattle.cp_model.specs.Strand.{payload, variables_of_trace}
use Rattle.cp_model.specs.Same.{same_sort, has_variable}
use Rattle.cp_term.specs.Keys.{key_as_term}

pub has_variable-append : (xs ys : List Variable) (z : Variable) → has_variable (xs ++ ys) z ≡ (has_variable xs z || has_variable ys z)
has_variable-append [] ys z = refl
has_variable-append (x ∷ xs) ys z =
    ap (λ b. (same_sort x.sort z.sort && (x.number == z.number)) || b) (has_variable-append xs ys z) ∙ sym (or_assoc (same_sort x.sort z.sort && (x.number == z.number)) (has_variable xs z) (has_variable ys z))

or_true : (a b : Bool) → true ≡ b → true ≡ (a || b)
or_true true b e = refl
or_true false b e = e

or_false : (a b : Bool) → false ≡ b → a ≡ (a || b)
or_false true b e = refl
or_false false b e = e

module _ (x : Variable) (whole term : Term) (h : has_variable (variables_of term) x ≡ has_variable (variables_of whole) x) where
  pub in_left : (l r : Term) → term ≡ pair_term l r → true ≡ has_variable (variables_of l) x → true ≡ has_variable (variables_of whole) x
  in_left l r e f =
      ap (λ b. b || has_variable (variables_of r) x) f ∙ sym (has_variable-append (variables_of l) (variables_of r) x) ∙ sym (ap (λ t. has_variable (variables_of t) x) e) ∙ h

  pub not_in_left : (l r : Term) → term ≡ pair_term l r → false ≡ has_variable (variables_of l) x → has_variable (variables_of r) x ≡ has_variable (variables_of whole) x
  not_in_left l r e f =
      ap (λ b. b || has_variable (variables_of r) x) f ∙ sym (has_variable-append (variables_of l) (variables_of r) x) ∙ sym (ap (λ t. has_variable (variables_of t) x) e) ∙ h

  encrypted : (body key : Term) → ((k : KeyTerm) × (key ≡ key_as_term k) × (term ≡ enc_term body k)) → (has_variable (variables_of body) x || has_variable (variables_of key) x) ≡ has_variable (variables_of whole) x
  encrypted body key (k, e, f) =
      ap (λ t. has_variable (variables_of body) x || has_variable (variables_of t) x) e ∙ sym (has_variable-append (variables_of body) (variables_of_key k) x)
      ∙ sym (ap (λ t. has_variable (variables_of t) x) f) ∙ h

  pub in_key : (body key : Term) → ((k : KeyTerm) × (key ≡ key_as_term k) × (term ≡ enc_term body k)) → true ≡ has_variable (variables_of key) x → true ≡ has_variable (variables_of whole) x
  in_key body key w f = or_true (has_variable (variables_of body) x) (has_variable (variables_of key) x) f ∙ encrypted body key w

  pub not_in_key : (body key : Term) → ((k : KeyTerm) × (key ≡ key_as_term k) × (term ≡ enc_term body k)) → false ≡ has_variable (variables_of key) x → has_variable (variables_of body) x ≡ has_variable (variables_of whole) x
  not_in_key body key w f = or_false (has_variable (variables_of body) x) (has_variable (variables_of key) x) f ∙ encrypted body key w

  pub absent : (b : Bool) → ((y : Variable) → y.number ≡ x.number → IsIn y (variables_of term) → b ≡ true) → b ≡ false → false ≡ has_variable (variables_of whole) x
  absent b may out = sym (not_listed (has_variable (variables_of term) x) refl) ∙ h where
    not_listed : (c : Bool) → has_variable (variables_of term) x ≡ c → has_variable (variables_of term) x ≡ false
    not_listed false e = e
    not_listed true e = absurd (not_both out (may x refl (variable_in (variables_of term) x e)))

module _ (x : Variable) (es : List (Event Term)) (k : ℕ) (e : Event Term) (lt : k < length es) (is : e ≡ get_or es k e) (all : Bool)
    (h : has_variable (variables_of_trace (drop k es)) x ≡ all) where
  next : (has_variable (variables_of (payload e)) x || has_variable (variables_of_trace (drop (k + 1) es)) x) ≡ all
  next = sym (ap (λ us. has_variable (variables_of_trace us) x) (drop_read es k e lt is) ∙ has_variable-append (variables_of (payload e)) (variables_of_trace (drop (k + 1) es)) x) ∙ h

  pub in_event : true ≡ has_variable (variables_of (payload e)) x → true ≡ all
  in_event f = ap (λ b. b || has_variable (variables_of_trace (drop (k + 1) es)) x) f ∙ next

  pub not_in_event : false ≡ has_variable (variables_of (payload e)) x → has_variable (variables_of_trace (drop (k + 1) es)) x ≡ all
  not_in_event f = ap (λ b. b || has_variable (variables_of_trace (drop (k + 1) es)) x) f ∙ next
