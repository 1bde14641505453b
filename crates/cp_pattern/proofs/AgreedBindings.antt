-- Bindings of a pattern's variables, and the substitutions that agree with them.
use Rattle.std.proofs.Common.{◌≡◌, ◌⊎◌, inl, inr, ℕ, ◌+◌, ◌<◌, ◌≤◌, Bool, true, false, if◌then◌else◌, List, [], ◌∷◌, length, get_or, drop, refl, sym, ap, ap₂, ◌∙◌, subst}
use Rattle.std.specs.Prelude.{◌↔◌}
use Rattle.std.proofs.lemmas.Bool.{false_from_ne_true}
use Rattle.std.proofs.lemmas.List.{drop_all}
use Rattle.cp_lists.specs.Lists.{IsIn}
use Rattle.cp_lists.proofs.Members.{in_cases, not_in_none, only_item, in_append, drop_read}
use Rattle.cp_model.specs.Term.{skey_variable, ltk_term, PairTerm, akey_variable, pubk_term, symmetric_term, asymmetric_term, AtomTerm, text_variable, datum_variable, name_variable, key_term, Term, tag_term, atom_term, pair_term, enc_term, variable_term, variables_of_key, variables_of_atom, variables_of, flag_of, Substitution, apply_to_key, apply_to_atom, apply_to}
use Rattle.cp_model.specs.declared.sort.Sort.{Sort}
use Rattle.cp_model.specs.declared.sort.Sort.TheVariants.{Text as text_sort, Datum as datum_sort, Name as name_sort, Skey as skey_sort, Akey as akey_sort}
use Rattle.cp_model.specs.declared.variable.Variable.{Variable}
use Rattle.cp_model.specs.Tree.{Pattern}
use Rattle.cp_model.proofs.LawAgreement.{agree_term}
use Rattle.cp_model.proofs.CarriedParts.{not_both}
use Rattle.cp_model.specs.Same.{has_variable}
use Rattle.cp_model.proofs.SameTests.{variable_in, in_has_variable}
use Rattle.cp_model.proofs.LawTerms.{flag_same}
use Rattle.cp_unify.specs.Beside.{Agrees, MatchesBeside}
use Rattle.cp_unify.specs.Bindings.{Binding}
use Rattle.cp_pattern.specs.Said.{AgreesBut, AgreesOnFree}

-- ---- what two substitutions make the same of a term, they make the same of its variables

abbrev pub SameFor : Substitution → Substitution → Variable → Type 0
SameFor s t x = apply_to s (variable_term x) ≡ apply_to t (variable_term x)

module _ (s t : Substitution) where
  one_same : (x y : Variable) → SameFor s t y → IsIn x (y ∷ []) → SameFor s t x
  one_same x y h i = subst (SameFor s t) (sym (only_item i)) h

  two_same : (x y z : Variable) → SameFor s t y → SameFor s t z → (y ≡ x) ⊎ IsIn x (z ∷ []) → SameFor s t x
  two_same x y z h k (inl e) = subst (SameFor s t) e h
  two_same x y z h k (inr i) = one_same x z k i

  akey_same : (flag : Bool) (n : ℕ) → apply_to_atom s (key_term (asymmetric_term flag (akey_variable n))) ≡ apply_to_atom t (key_term (asymmetric_term flag (akey_variable n))) → SameFor s t (record { sort = akey_sort; number = n })
  akey_same flag n e =
      let e0 : flag_of flag (s.akeys n).0 ≡ flag_of flag (t.akeys n).0 = cc in
      let e1 : (s.akeys n).1 ≡ (t.akeys n).1 = cc in
      ap₂ (λ (f : Bool) (k : PairTerm). atom_term (key_term (asymmetric_term f k))) (flag_same flag (s.akeys n).0 (t.akeys n).0 e0) e1

  atom_same : (u : AtomTerm) → apply_to_atom s u ≡ apply_to_atom t u → (x : Variable) → IsIn x (variables_of_atom u) → SameFor s t x
  atom_same (text_variable n) e x i = one_same x (record { sort = text_sort; number = n }) (ap atom_term e) i
  atom_same (datum_variable n) e x i = one_same x (record { sort = datum_sort; number = n }) (ap atom_term e) i
  atom_same (name_variable n) e x i = one_same x (record { sort = name_sort; number = n }) (ap atom_term e) i
  atom_same (key_term (symmetric_term (skey_variable n))) e x i = one_same x (record { sort = skey_sort; number = n }) (ap atom_term e) i
  atom_same (key_term (symmetric_term (ltk_term a b))) e x i =
      let e0 : s.names a ≡ t.names a = cc in let e1 : s.names b ≡ t.names b = cc in
      two_same x (record { sort = name_sort; number = a }) (record { sort = name_sort; number = b }) (ap (λ (m : ℕ). atom_term (name_variable m)) e0) (ap (λ (m : ℕ). atom_term (name_variable m)) e1) (in_cases i)
  atom_same (key_term (asymmetric_term flag (akey_variable n))) e x i = one_same x _ (akey_same flag n e) i
  atom_same (key_term (asymmetric_term flag (pubk_term p a))) e x i =
      let e0 : s.names a ≡ t.names a = cc in one_same x (record { sort = name_sort; number = a }) (ap (λ (m : ℕ). atom_term (name_variable m)) e0) i

  either_same : (xs ys : List Variable) (x : Variable) → (IsIn x xs → SameFor s t x) → (IsIn x ys → SameFor s t x) → IsIn x xs ⊎ IsIn x ys → SameFor s t x
  either_same xs ys x p q (inl i) = p i
  either_same xs ys x p q (inr i) = q i

  pub same_variables : (u : Term) → apply_to s u ≡ apply_to t u → (x : Variable) → IsIn x (variables_of u) → SameFor s t x
  same_variables (tag_term bytes) e x i = absurd (not_in_none i)
  same_variables (atom_term u) e x i = let e' : apply_to_atom s u ≡ apply_to_atom t u = cc in atom_same u e' x i
  same_variables (pair_term a b) e x i =
      let e0 : apply_to s a ≡ apply_to t a = cc in let e1 : apply_to s b ≡ apply_to t b = cc in
      either_same (variables_of a) (variables_of b) x (same_variables a e0 x) (same_variables b e1 x) (in_append (variables_of a) (variables_of b) i)
  same_variables (enc_term a k) e x i =
      let e0 : apply_to s a ≡ apply_to t a = cc in let e1 : apply_to_key s k ≡ apply_to_key t k = cc in
      either_same (variables_of a) (variables_of_key k) x (same_variables a e0 x) (atom_same (key_term k) (ap key_term e1) x) (in_append (variables_of a) (variables_of_key k) i)

-- ---- two substitutions in one: for variables that pass the test the second, for others the first

abbrev mixed : (Variable → Bool) → Substitution → Substitution → Substitution
mixed test f s = record {
  texts = λ n. if test (record { sort = text_sort; number = n }) then s.texts n else f.texts n;
  datums = λ n. if test (record { sort = datum_sort; number = n }) then s.datums n else f.datums n;
  names = λ n. if test (record { sort = name_sort; number = n }) then s.names n else f.names n;
  skeys = λ n. if test (record { sort = skey_sort; number = n }) then s.skeys n else f.skeys n;
  akeys = λ n. if test (record { sort = akey_sort; number = n }) then s.akeys n else f.akeys n;
}

module _ (test : Variable → Bool) (f s : Substitution) where
  -- what is given to a variable depends on its test alone
  by_test : (k : Sort) (n : ℕ) (b : Bool) → test (record { sort = k; number = n }) ≡ b → SameFor (mixed test f s) (mixed (λ y. b) f s) (record { sort = k; number = n })
  by_test text_sort n b e = rw e refl
  by_test datum_sort n b e = rw e refl
  by_test name_sort n b e = rw e refl
  by_test skey_sort n b e = rw e refl
  by_test akey_sort n b e = rw e refl

  second_at : (k : Sort) (n : ℕ) → test (record { sort = k; number = n }) ≡ true → SameFor (mixed test f s) s (record { sort = k; number = n })
  second_at k n e = by_test k n true e

  first_at : (k : Sort) (n : ℕ) → test (record { sort = k; number = n }) ≡ false → SameFor (mixed test f s) f (record { sort = k; number = n })
  first_at k n e = by_test k n false e

-- ---- what agrees with the bindings that are kept

pub not_among : (xs : List Variable) (x : Variable) → has_variable xs x ≡ false → IsIn x xs → ⊥
not_among xs x e i = not_both e (in_has_variable xs x i)

has_not : (xs : List Variable) (x : Variable) → (IsIn x xs → ⊥) → has_variable xs x ≡ false
has_not xs x none = false_from_ne_true (has_variable xs x) (λ e. none (variable_in xs x e))

module _ (locals : List Variable) (f s : Substitution) where
  mixed_agrees_with : (b : Binding) (v : Bool) → has_variable locals b.variable ≡ v → ((IsIn b.variable locals → ⊥) → apply_to f (variable_term b.variable) ≡ b.term) →
      apply_to s (variable_term b.variable) ≡ b.term → apply_to (mixed (has_variable locals) f s) (variable_term b.variable) ≡ b.term
  mixed_agrees_with b true e p q = second_at (has_variable locals) f s b.variable.sort b.variable.number e ∙ q
  mixed_agrees_with b false e p q = first_at (has_variable locals) f s b.variable.sort b.variable.number e ∙ p (not_among locals b.variable e)

  mixed_agrees : (bs : List Binding) → AgreesBut locals f bs → Agrees s bs → Agrees (mixed (has_variable locals) f s) bs
  mixed_agrees [] h k = tt
  mixed_agrees (b ∷ bs) h k = (mixed_agrees_with b (has_variable locals b.variable) refl h.0 k.0, mixed_agrees bs h.1 k.1)

  first_agrees : (bs : List Binding) → Agrees (mixed (has_variable locals) f s) bs → AgreesBut locals f bs
  first_agrees [] h = tt
  first_agrees (b ∷ bs) h = (λ none. sym (first_at (has_variable locals) f s b.variable.sort b.variable.number (has_not locals b.variable none)) ∙ h.0, first_agrees bs h.1)

-- The bindings that make the pattern what s makes of it, without those of locals, are met by what says the same as s.
module _ (p : Pattern) (s : Substitution) (q : List Binding) (m : MatchesBeside p.term (apply_to s p.term) [] q) (f : Substitution) where
  abbrev both : Substitution
  both = mixed (has_variable p.locals) f s

  said_by_bindings : AgreesBut p.locals f q → AgreesOnFree p s f
  said_by_bindings h x free =
      let agrees = mixed_agrees p.locals f s q h (m.general s tt refl) in
      sym (first_at (has_variable p.locals) f s x.sort x.number (has_not p.locals x free.no_local))
      ∙ same_variables both s p.term (m.sound both agrees) x free.occurs

  each_same : AgreesOnFree p s f → (x : Variable) (v : Bool) → has_variable p.locals x ≡ v → IsIn x (variables_of p.term) → SameFor both s x
  each_same h x true e i = second_at (has_variable p.locals) f s x.sort x.number e
  each_same h x false e i = first_at (has_variable p.locals) f s x.sort x.number e ∙ h x (record { occurs = i; no_local = not_among p.locals x e })

  bindings_by_said : AgreesOnFree p s f → AgreesBut p.locals f q
  bindings_by_said h =
      first_agrees p.locals f s q (m.general both tt (agree_term both s p.term (λ x i. each_same h x (has_variable p.locals x) refl i)))

-- As the code has them.
pub said_exactly : (p : Pattern) (s : Substitution) (locals : List Variable) → locals ≡ p.locals → (term image : Term) (given q all : List Binding) → term ≡ p.term → image ≡ apply_to s term →
    given ≡ [] → MatchesBeside term image given q → all ≡ q → (r : List Binding) → ((f : Substitution) → Agrees f r ↔ AgreesBut locals f all) → (f : Substitution) → Agrees f r ↔ AgreesOnFree p s f
said_exactly p s locals of_locals term image given q all is_term is_image nothing m same r kept f =
    let m1 : MatchesBeside p.term (apply_to s p.term) [] q =
    subst (λ (t : Term). MatchesBeside t (apply_to s p.term) [] q) is_term
    (subst (λ (t : Term). MatchesBeside term t [] q) (is_image ∙ ap (apply_to s) is_term)
    (subst (λ (g : List Binding). MatchesBeside term image g q) nothing m)) in
    let k = kept f in (
      λ a. said_by_bindings p s q m1 f (subst (λ (xs : List Variable). AgreesBut xs f q) of_locals (subst (AgreesBut locals f) same (k.0 a))),
      λ h. k.1 (subst (AgreesBut locals f) (sym same) (subst (λ (xs : List Variable). AgreesBut xs f q) (sym of_locals) (bindings_by_said p s q m1 f h))),
    )

-- ---- the loop that keeps bindings

-- What is kept, with what is left, says what all say.
abbrev pub IsKept : List Variable → List Binding → List Binding → List Binding → Type 0
IsKept locals all kept rest = (f : Substitution) → (Agrees f kept × AgreesBut locals f rest) ↔ AgreesBut locals f all

pub none_kept : (locals : List Variable) (all : List Binding) → IsKept locals all [] all
none_kept locals all f = (λ h. h.1, λ h. (tt, h))

module _ (locals : List Variable) (all kept : List Binding) (i : ℕ) (b : Binding) (so_far : IsKept locals all kept (drop i all)) (below : i < length all) (read : b ≡ get_or all i b) where
  one_left : IsKept locals all kept (b ∷ drop (i + 1) all)
  one_left = subst (IsKept locals all kept) (drop_read all i b below read) so_far

  pub left_out : has_variable locals b.variable ≡ true → IsKept locals all kept (drop (i + 1) all)
  left_out e f = let h = one_left f in (
    λ k. h.0 (k.0, ((λ none. absurd (none (variable_in locals b.variable e))), k.1)),
    λ k. let r = h.1 k in (r.0, r.1.1),
  )

  pub kept_too : has_variable locals b.variable ≡ false → (next : List Binding) → next ≡ b ∷ kept → IsKept locals all next (drop (i + 1) all)
  kept_too e next is f = subst (λ (bs : List Binding). (Agrees f bs × AgreesBut locals f (drop (i + 1) all)) ↔ AgreesBut locals f all) (sym is)
      (let h = one_left f in (
        λ k. h.0 (k.0.1, ((λ none. k.0.0), k.1)),
        λ k. let r = h.1 k in ((r.1.0 (not_among locals b.variable e), r.0), r.1.1),
      ))

pub all_kept : (locals : List Variable) (all kept : List Binding) (i : ℕ) → length all ≤ i → IsKept locals all kept (drop i all) → (f : Substitution) → Agrees f kept ↔ AgreesBut locals f all
all_kept locals all kept i end so_far f =
    let h = subst (IsKept locals all kept) (drop_all i all end) so_far f in (λ a. h.0 (a, tt), λ a. (h.1 a).0)
