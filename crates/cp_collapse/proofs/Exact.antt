-- Bindings that are met by exactly the assignments of which a fact is true, and how unification adds to them.
use Rattle.std.proofs.Common.{◌≡◌, ◌⊎◌, inl, inr, ℕ, ◌≤◌, List, [], ◌∷◌, ◌++◌, sym, ap, ◌∙◌, subst}
use Rattle.cp_lists.specs.Lists.{IsIn, here}
use Rattle.cp_model.specs.Term.{Term, Assignment, value_of, after, Substitution, AgreeOn, variable_term, apply_to}
use Rattle.cp_model.specs.declared.variable.Variable.{Variable}
use Rattle.cp_model.specs.Strand.{Role, variables_of_prefix}
use Rattle.cp_model.specs.Skeleton.{Skeleton}
use Rattle.cp_lists.proofs.Members.{in_append_left, in_append_right, in_append, only_item}
use Rattle.cp_model.proofs.LawPrefixes.{variables_of_higher}
use Rattle.cp_model.proofs.LawTerms.{value_after, term_composed}
use Rattle.cp_unify.specs.Bindings.{Binding, Meets, as_substitution}
use Rattle.cp_unify.specs.Unifiers.{Solves, IsMostGeneralUnifier, HasNoUnifier}
use Rattle.cp_unify.proofs.Free.{free}
use Rattle.cp_unify.proofs.SolvedBindings.{unified}
use Rattle.cp_unify.proofs.Substituted.{after_met}
use Rattle.cp_collapse.specs.Partitions.{Identifies, HaveEqualValues, IdentifiesValues}
use Rattle.cp_collapse.specs.Collapses.{IsMostGeneralOn}
use Rattle.cp_collapse.specs.FirstPartitions.{IsExactFor}
use Rattle.cp_collapse.proofs.AtomUnifiers.{directed}

-- No binding says nothing.
pub exact_none : IsExactFor (λ g. Unit {0}) []
exact_none = record { met = λ g. tt; sound = λ g m. tt; general = λ g f. tt; later_to_earlier = tt }

-- Of facts that are true of the same assignments.
pub exact_same : (e f : Assignment → Type 0) (r : List Binding) → ((g : Assignment) → e g → f g) → ((g : Assignment) → f g → e g) → IsExactFor e r → IsExactFor f r
exact_same e f r to from x = record { met = x.met; sound = λ g m. to g (x.sound g m); general = λ g h. x.general g (from g h); later_to_earlier = x.later_to_earlier }

-- ---- one unification more

meets_after : (g : Assignment) (s : Substitution) (r : List Binding) → Solves s r → Meets (after g s) r
meets_after g s [] h = tt
meets_after g s (b ∷ bs) h =
    (value_after g s (variable_term b.variable) ∙ ap (value_of g) h.0 ∙ sym (value_after g s b.term), meets_after g s bs h.1)

pub exact_unified : (e : Assignment → Type 0) (a b : Term) (r q : List Binding) → IsExactFor e r → IsMostGeneralUnifier a b r q → IsExactFor (λ g. e g × (value_of g a ≡ value_of g b)) q
exact_unified e a b r q x m = record {
  met = λ g. m.general (after g (as_substitution q)) (meets_after g (as_substitution q) r m.solves_given) (value_after g (as_substitution q) a ∙ ap (value_of g) m.unifies ∙ sym (value_after g (as_substitution q) b));
  sound = λ g h. let s = m.sound g h in (x.sound g s.0, s.1);
  general = λ g h. m.general g (x.general g h.0) h.1;
  later_to_earlier = m.later_to_earlier;
}

pub never_unified : (e : Assignment → Type 0) (a b : Term) (r : List Binding) → IsExactFor e r → HasNoUnifier a b r → (g : Assignment) → e g → value_of g a ≡ value_of g b → ⊥
never_unified e a b r x none g f same = none g (x.general g f) same

-- Some assignment meets exact bindings.
pub exact_has_one : (e : Assignment → Type 0) (r : List Binding) → IsExactFor e r → (g : Assignment) × e g
exact_has_one e r x = (after free (as_substitution r), x.sound (after free (as_substitution r)) (x.met free))

-- ---- the terms of one variable more

pub equal_terms : (g : Assignment) (s t : Substitution) (x : Variable) → value_of g (apply_to s (variable_term x)) ≡ value_of g (apply_to t (variable_term x)) → value_of (after g s) (variable_term x) ≡ value_of (after g t) (variable_term x)
equal_terms g s t x e = value_after g s (variable_term x) ∙ e ∙ sym (value_after g t (variable_term x))

pub terms_equal : (g : Assignment) (s t : Substitution) (x : Variable) → value_of (after g s) (variable_term x) ≡ value_of (after g t) (variable_term x) → value_of g (apply_to s (variable_term x)) ≡ value_of g (apply_to t (variable_term x))
terms_equal g s t x e = sym (value_after g s (variable_term x)) ∙ e ∙ value_after g t (variable_term x)

module _ (e : Assignment → Type 0) (s t : Substitution) where
  -- The fact is true, and two instances agree on these variables.
  abbrev pub AlsoAgree : List Variable → Assignment → Type 0
  AlsoAgree xs g = e g × AgreeOn xs (after g s) (after g t)

  pub agree_on_none : (r : List Binding) → IsExactFor e r → IsExactFor (AlsoAgree []) r
  agree_on_none r = exact_same e (AlsoAgree []) r (λ g f. (f, λ x i. elim i [ ])) (λ g f. f.0)

  one_more : (xs : List Variable) (y : Variable) (g : Assignment) → AgreeOn xs (after g s) (after g t) → value_of (after g s) (variable_term y) ≡ value_of (after g t) (variable_term y) →
      (x : Variable) → IsIn x xs ⊎ IsIn x (y ∷ []) → value_of (after g s) (variable_term x) ≡ value_of (after g t) (variable_term x)
  one_more xs y g a f x (inl i) = a x i
  one_more xs y g a f x (inr i) = subst (λ (z : Variable). value_of (after g s) (variable_term z) ≡ value_of (after g t) (variable_term z)) (sym (only_item i)) f

  pub agree_on_more : (xs : List Variable) (y : Variable) (r q : List Binding) → IsExactFor (AlsoAgree xs) r →
      IsMostGeneralUnifier (apply_to s (variable_term y)) (apply_to t (variable_term y)) r q → IsExactFor (AlsoAgree (xs ++ (y ∷ []))) q
  agree_on_more xs y r q x m =
      let a = apply_to s (variable_term y) in
      let b = apply_to t (variable_term y) in
      exact_same (λ g. AlsoAgree xs g × (value_of g a ≡ value_of g b)) (AlsoAgree (xs ++ (y ∷ []))) q
      (λ g f. (f.0.0, λ z i. one_more xs y g f.0.1 (equal_terms g s t y f.1) z (in_append xs (y ∷ []) i)))
      (λ g f. ((f.0, λ z i. f.1 z (in_append_left (y ∷ []) i)), terms_equal g s t y (f.1 y (in_append_right xs here))))
      (exact_unified (AlsoAgree xs) a b r q x m)

  -- Where the terms of a variable have no unifier, no assignment of which the fact is true agrees on it.
  pub never_agree : (xs : List Variable) (y : Variable) (r : List Binding) → IsExactFor (AlsoAgree xs) r →
      HasNoUnifier (apply_to s (variable_term y)) (apply_to t (variable_term y)) r →
      (g : Assignment) → e g → AgreeOn xs (after g s) (after g t) → value_of (after g s) (variable_term y) ≡ value_of (after g t) (variable_term y) → ⊥
  never_agree xs y r x none g f a same =
      never_unified (AlsoAgree xs) (apply_to s (variable_term y)) (apply_to t (variable_term y)) r x none g (f, a) (terms_equal g s t y same)

-- The variables that are in both prefixes are those of the shorter.
pub equal_on_shorter : (role : Role) (height : ℕ) (terms : List Binding) (height' : ℕ) (terms' : List Binding) (g : Assignment) → height ≤ height' →
    AgreeOn (variables_of_prefix role height) (after g (as_substitution terms)) (after g (as_substitution terms')) → HaveEqualValues role height terms height' terms' g
equal_on_shorter role height terms height' terms' g le a x i j = a x i

pub shorter_on_equal : (role : Role) (height : ℕ) (terms : List Binding) (height' : ℕ) (terms' : List Binding) (g : Assignment) → height ≤ height' →
    HaveEqualValues role height terms height' terms' g → AgreeOn (variables_of_prefix role height) (after g (as_substitution terms)) (after g (as_substitution terms'))
shorter_on_equal role height terms height' terms' g le a x i = a x i (variables_of_higher role height height' le x i)

pub equal_back : (role : Role) (height : ℕ) (terms : List Binding) (height' : ℕ) (terms' : List Binding) (g : Assignment) → HaveEqualValues role height terms height' terms' g → HaveEqualValues role height' terms' height terms g
equal_back role height terms height' terms' g a x i j = sym (a x j i)

-- ---- the substitution of exact bindings

pub exact_identifies : (k : Skeleton) (p : List ℕ) (r : List Binding) → IsExactFor (IdentifiesValues k p) r → Identifies k p (as_substitution r)
exact_identifies k p r x s t role height terms height' terms' at au together y i j =
    let a = apply_to (as_substitution terms) (variable_term y) in
    let b = apply_to (as_substitution terms') (variable_term y) in
    let e : apply_to (as_substitution r) a ≡ apply_to (as_substitution r) b =
    unified r a b x.met (λ g m. terms_equal g (as_substitution terms) (as_substitution terms') y (x.sound g m s t role height terms height' terms' at au together y i j)) in
    term_composed (as_substitution terms) (as_substitution r) (variable_term y) ∙ e ∙ sym (term_composed (as_substitution terms') (as_substitution r) (variable_term y))

pub exact_is_most_general : (k : Skeleton) (p : List ℕ) (r : List Binding) → IsExactFor (IdentifiesValues k p) r → IsMostGeneralOn k p (as_substitution r)
exact_is_most_general k p r x = record {
  identifies = exact_identifies k p r x;
  general = λ g f t. ap (λ (h : Assignment). value_of h t) (after_met g r (x.general g f));
  directed = directed r x.met x.later_to_earlier;
}
