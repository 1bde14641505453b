-- What patterns match, with locals and without.
use Rattle.std.proofs.Common.{◌≡◌, ⊎_elim, ℕ, ◌+◌, ◌<◌, ◌≤◌, Bool, true, false, List, [], ◌∷◌, Option, Some, None, IfSome, IfNone, length, get_or, drop, refl, sym, ap, ◌∙◌, subst}
use Rattle.std.specs.Prelude.{◌↔◌, ◌&&◌, ◌==◌, IsTrue, is_some, not}
use Rattle.std.proofs.lemmas.Bool.{eq-eqb, and_from}
use Rattle.cp_lists.specs.Lists.{IsIn}
use Rattle.cp_lists.proofs.Members.{none_in_empty, in_append_right, item_is_in, next_or_rest, none_left}
use Rattle.cp_model.proofs.CarriedParts.{not_both}
use Rattle.cp_model.proofs.LawAgreement.{agree_term}
use Rattle.cp_model.proofs.SameTests.{variable_is, same_sort_itself}
use Rattle.cp_model.specs.Same.{same_sort}
use Rattle.cp_model.specs.Term.{KeyTerm, key_as_term, Term, enc_term, variable_term, variables_of_key, variables_of, Substitution, apply_to_key, apply_to}
use Rattle.cp_model.specs.declared.variable.Variable.{Variable}
use Rattle.cp_model.specs.Tree.{Pattern}
use Rattle.cp_term.specs.Sorts.{is_of_sort}
use Rattle.cp_unify.specs.Beside.{Agrees, MatchesBeside, NeverMatchesBeside}
use Rattle.cp_unify.specs.Bindings.{Binding, HasItsSort, put_term, as_substitution}
use Rattle.cp_unify.proofs.VariablesUnder.{sort_matches, bound, other}
use Rattle.cp_theory.specs.Matches.{Matches}
use Rattle.cp_pattern.specs.Said.{AgreesOnFree, HasMatch}
use Rattle.cp_pattern.specs.Within.{has_some}
use Rattle.cp_pattern.proofs.Patterns.{none_of}

-- ---- bindings with which some substitution agrees agree with themselves

abbrev same_variable : Variable → Variable → Bool
same_variable x y = same_sort x.sort y.sort && (x.number == y.number)

same_itself : (x y : Variable) → x ≡ y → same_variable x y ≡ true
same_itself x y e = subst (λ (z : Variable). same_variable x z ≡ true) e (and_from (same_sort x.sort x.sort) (x.number == x.number) (same_sort_itself x.sort) (eq-eqb x.number x.number refl))

module _ (b : Binding) (s f : Substitution) (first : apply_to f (variable_term b.variable) ≡ b.term) where
  -- What a substitution gives the variable has its sort.
  first_sorted : HasItsSort b
  first_sorted = subst (λ (t : Term). is_of_sort b.variable.sort t ≡ true) first (sort_matches f b.variable.sort b.variable.number)

  behind_first : (c : Binding) (v : Bool) → same_variable c.variable b.variable ≡ v → apply_to f (variable_term c.variable) ≡ c.term →
      apply_to s (variable_term c.variable) ≡ c.term → apply_to (put_term b.variable b.term s) (variable_term c.variable) ≡ c.term
  behind_first c true e h k =
      let same : c.variable ≡ b.variable = variable_is c.variable b.variable e in
      ap (λ (x : Variable). apply_to (put_term b.variable b.term s) (variable_term x)) same ∙ bound b s first_sorted ∙ sym first
      ∙ ap (λ (x : Variable). apply_to f (variable_term x)) (sym same) ∙ h
  behind_first c false e h k = other b s c.variable (λ same. not_both e (same_itself c.variable b.variable same)) ∙ k

  all_behind_first : (cs : List Binding) → Agrees f cs → Agrees s cs → Agrees (put_term b.variable b.term s) cs
  all_behind_first [] h k = tt
  all_behind_first (c ∷ cs) h k = (behind_first c (same_variable c.variable b.variable) refl h.0 k.0, all_behind_first cs h.1 k.1)

agrees_itself : (f : Substitution) (r : List Binding) → Agrees f r → Agrees (as_substitution r) r
agrees_itself f [] h = tt
agrees_itself f (b ∷ bs) h =
    (bound b (as_substitution bs) (first_sorted b (as_substitution bs) f h.0), all_behind_first b (as_substitution bs) f h.0 bs h.1 (agrees_itself f bs h.1))

-- ---- one pattern

module _ (p : Pattern) (s : Substitution) (t : Term) (r : List Binding) (said : (f : Substitution) → Agrees f r ↔ AgreesOnFree p s f) where
  filled_by : (q : List Binding) → MatchesBeside p.term t r q → Matches p s t
  filled_by q m =
      let own : Agrees (as_substitution q) q = m.own (agrees_itself s r ((said s).1 (λ x free. refl))) in
      record { filled = as_substitution q; as_said = (said (as_substitution q)).0 (m.extends (as_substitution q) own); same = m.sound (as_substitution q) own }

  never_filled : NeverMatchesBeside p.term t r → Matches p s t → ⊥
  never_filled never m = never m.filled ((said m.filled).1 m.as_said) m.same

  tells_match : (found : Option (List Binding)) (answer : Bool) → answer ≡ is_some found → IfSome found (MatchesBeside p.term t r) → IfNone found (NeverMatchesBeside p.term t r) → IsTrue answer ↔ Matches p s t
  tells_match (Some q) answer e some none = (λ h. filled_by q some, λ m. e)
  tells_match None answer e some none = (λ h. absurd (not_both e h), λ m. absurd (never_filled none m))

  -- What matching answers tells whether the pattern matches.
  pub tells_filled : (term : Term) → term ≡ p.term → (found : Option (List Binding)) (answer : Bool) → answer ≡ is_some found → IfSome found (MatchesBeside term t r) → IfNone found (NeverMatchesBeside term t r) → IsTrue answer ↔ Matches p s t
  tells_filled term is found answer e some none =
      tells_match found answer e (subst (λ (u : Term). IfSome found (MatchesBeside u t r)) is some) (subst (λ (u : Term). IfNone found (NeverMatchesBeside u t r)) is none)

-- A pattern without locals matches its image alone.
pub tells_image : (p : Pattern) (s : Substitution) (t : Term) → p.locals ≡ [] → (answer : Bool) → IsTrue answer ↔ (apply_to s p.term ≡ t) → IsTrue answer ↔ Matches p s t
tells_image p s t none answer image = (
  λ e. record { filled = s; as_said = λ x free. refl; same = image.0 e },
  λ m. image.1 (agree_term s m.filled p.term (λ x i. sym (m.as_said x (record { occurs = i; no_local = none_in_empty none }))) ∙ m.same),
)

-- ---- keys

is_off : (same differ : Bool) → differ ≡ not same → differ ≡ true → same ≡ false
is_off false differ e h = refl
is_off true differ e h = absurd (not_both e h)

module _ (p : Pattern) (s : Substitution) (t a b : Term) (k j : KeyTerm) (is : p.term ≡ enc_term a k) (other : t ≡ enc_term b j) where
  same_keys : ((x : Variable) → IsIn x (variables_of_key k) → IsIn x p.locals → ⊥) → Matches p s t → apply_to s (key_as_term k) ≡ key_as_term j
  same_keys none m =
      let made : enc_term (apply_to m.filled a) (apply_to_key m.filled k) ≡ enc_term b j = ap (apply_to m.filled) (sym is) ∙ m.same ∙ other in
      let of_key : apply_to_key m.filled k ≡ j = cc in
      agree_term s m.filled (key_as_term k)
      (λ x i. sym (m.as_said x (record { occurs = subst (λ (u : Term). IsIn x (variables_of u)) (sym is) (in_append_right (variables_of a) i); no_local = none x i })))
      ∙ ap key_as_term of_key

  -- What the comparison of a key with another tells, where no variable of the key is a local.
  pub keys_tell : (key under : Term) → key ≡ key_as_term k → under ≡ key_as_term j → (locals : List Variable) → locals ≡ p.locals → has_some locals (variables_of_key k) ≡ false
      → (same differ : Bool) → differ ≡ not same → IsTrue same ↔ (apply_to s key ≡ under) → IsTrue differ → Matches p s t → ⊥
  keys_tell key under of_key of_under locals of_locals none same differ told compared h m =
      let none_local = none_of p.locals (variables_of_key k) (ap (λ xs. has_some xs (variables_of_key k)) (sym of_locals) ∙ none) in
      not_both (is_off same differ told h) (compared.1 (ap (apply_to s) of_key ∙ same_keys none_local m ∙ sym of_under))

-- ---- several

-- If one matches, it is one of those that are left.
abbrev pub IsStillThere : Substitution → Term → List Pattern → List Pattern → Type 0
IsStillThere s t all rest = HasMatch all s t → HasMatch rest s t

module _ (s : Substitution) (t : Term) (all : List Pattern) (i : ℕ) where
  module _ (p : Pattern) (below : i < length all) (read : p ≡ get_or all i p) (answer : Bool) (tells : IsTrue answer ↔ Matches p s t) where
    pub one_matches : answer ≡ true → HasMatch all s t
    one_matches e = record { pattern = p; listed = item_is_in all i p below read; matches = tells.0 e }

    pub next_is_there : answer ≡ false → IsStillThere s t all (drop i all) → IsStillThere s t all (drop (i + 1) all)
    next_is_there e so_far h =
        let m = so_far h in
        ⊎_elim (λ (same : p ≡ m.pattern). absurd (not_both e (tells.1 (subst (λ (o : Pattern). Matches o s t) (sym same) m.matches))))
        (λ j. record { pattern = m.pattern; listed = j; matches = m.matches })
        (next_or_rest all i m.pattern p below read m.listed)

  pub none_matches : length all ≤ i → IsStillThere s t all (drop i all) → HasMatch all s t → ⊥
  none_matches end so_far h = let m = so_far h in none_left all i m.pattern end m.listed
