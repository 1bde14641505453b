-- Where a form fits as a pattern, what it stands for is one.
use Rattle.std.proofs.Common.{◌≡◌, ◌⊎◌, inl, inr, ℕ, ◌+◌, List, [], ◌∷◌, ◌++◌, length, Bool, true, false, ◌&&◌, ◌||◌, if◌then◌else◌, refl, sym, ap, ap₂, ◌∙◌, subst}
use Rattle.std.specs.Prelude.{Option, Some, None, codes}
use Rattle.std.proofs.lemmas.List.{append_assoc, append-nil}
use Rattle.cp_lists.specs.Lists.{IsIn, here}
use Rattle.cp_lists.proofs.Members.{in_append, in_append_left, in_append_right, only_item}
use Rattle.cp_lists.proofs.Appended.{none_in_both, some_behind}
use Rattle.cp_base.specs.declared.place.Place.{Place}
use Rattle.cp_model.specs.Term.{symmetric_term, skey_variable, ltk_term, asymmetric_term, akey_variable, pubk_term, KeyTerm, Term, tag_term, enc_term, inverse_term, variables_of, variables_of_key}
use Rattle.cp_model.specs.declared.sort.Sort.{Sort}
use Rattle.cp_model.specs.declared.sort.Sort.TheVariants.{Text as text_sort, Datum as datum_sort, Name as name_sort, Skey as skey_sort, Akey as akey_sort}
use Rattle.cp_model.specs.declared.variable.Variable.{Variable}
use Rattle.cp_model.specs.declared.variable.Declaration.{Declaration}
use Rattle.cp_model.specs.Same.{same_text, same_sort}
use Rattle.cp_model.proofs.SameTests.{sort_is}
use Rattle.cp_sexpr.specs.Syntax.{Form, symbol, string, number, list, Forms, none, more}
use Rattle.cp_language.specs.declared.words.TermHead.{TermHead}
use Rattle.cp_language.specs.declared.words.TermHead.TheVariants.{Cat as cat, Enc as encrypt, Ltk as long_term_key, Pubk as public_key, Privk as private_key, Invk as inverse_key, OutOfProfile as operation_out_of_profile, Unknown as no_operation}
use Rattle.cp_language.specs.Words.{sort_word, term_head}
use Rattle.cp_language.specs.Faults.{place_of, items_of}
use Rattle.cp_language.specs.Roles.{front_of, last_form}
use Rattle.cp_language.specs.Problems.{is_known}
use Rattle.cp_language.specs.declared.sorts.TermSort.{TermSort}
use Rattle.cp_language.specs.Terms.{variable_named, sort_of_variable, is_sort, term_of_variable, paired, all_but_last, last_of, as_key, as_name, key_as_term, applied, key_of_name}
use Rattle.cp_report.specs.declared.locals.LocalAt.{LocalAt}
use Rattle.cp_report.specs.Misfits.{misfit, misfit_unless, unless_misfit, lacking, all_misfits, symbol_misfits, any_number_misfits}
use Rattle.cp_report.specs.Spelled as report
use Rattle.cp_report.specs.Spelled.{Scope, sort_or_none, names_sort, local_with, local_by, local_at, variable_of_local, place_of_local, sort_of_head, known_or, key_misfits, local_misfits, is_found_of_sort, variable_misfits, variables_misfits, name_misfits, last_key_misfits, applied_misfits, term_misfits, each_term_misfits, term_in, terms_in, locals_in, locals_in_each}
use Rattle.cp_spelled.proofs.Gathered.{holds}

-- The variables of a label, and the locals of a pattern.
module _ (ds : List Declaration) (ls : List Variable) where
  abbrev scope : Scope
  scope = record { variables = ds; in_pattern = true; locals = ls }

  abbrev pub variable_at : Variable → Variable
  variable_at l = record { sort = l.sort; number = length ds + place_of_local ls l.number }

  -- A variable is declared, or that of a local that stands there.
  pub data IsOf (locals : List LocalAt) (x : Variable) : Type 0 where
    named : (t : List ℕ) → variable_named ds t ≡ Some x → IsOf locals x
    stated : (l : LocalAt) → IsIn l locals → x ≡ variable_at l.local → IsOf locals x

  -- The variables are declared or those of locals that stand there, and all of these occur.
  pub record Agree (locals : List LocalAt) (xs : List Variable) : Type 0 where
    pub origin : (x : Variable) → IsIn x xs → IsOf locals x
    pub occurs : (l : LocalAt) → IsIn l locals → IsIn (variable_at l.local) xs

  agree-none : Agree [] []
  agree-none = record { origin = λ x m. elim m [ ]; occurs = λ l m. elim m [ ] }

  agree-both : (a b : List LocalAt) (u v : List Variable) → Agree a u → Agree b v → Agree (a ++ b) (u ++ v)
  agree-both a b u v g h = record { origin = λ x m. either x (in_append u v m); occurs = λ l m. each l (in_append a b m) }
    where
      left : (x : Variable) → IsOf a x → IsOf (a ++ b) x
      left x (named t e) = named t e
      left x (stated l i e) = stated l (in_append_left b i) e

      right : (x : Variable) → IsOf b x → IsOf (a ++ b) x
      right x (named t e) = named t e
      right x (stated l i e) = stated l (in_append_right a i) e

      either : (x : Variable) → IsIn x u ⊎ IsIn x v → IsOf (a ++ b) x
      either x (inl i) = left x (g.origin x i)
      either x (inr i) = right x (h.origin x i)

      each : (l : LocalAt) → IsIn l a ⊎ IsIn l b → IsIn (variable_at l.local) (u ++ v)
      each l (inl i) = in_append_left v (g.occurs l i)
      each l (inr i) = in_append_right u (h.occurs l i)

  agree-named : (t : List ℕ) (x : Variable) → variable_named ds t ≡ Some x → Agree [] (x ∷ [])
  agree-named t x e = record { origin = λ y m. named t (e ∙ ap Some (sym (only_item m))); occurs = λ l m. elim m [ ] }

  agree-stated : (l : LocalAt) → Agree (l ∷ []) (variable_at l.local ∷ [])
  agree-stated l = record { origin = λ y m. stated l here (only_item m); occurs = λ k m. subst (λ (j : LocalAt). IsIn (variable_at j.local) (variable_at l.local ∷ [])) (sym (only_item m)) here }

  variable-alone : (x : Variable) → variables_of (term_of_variable (Some x)) ≡ x ∷ []
  variable-alone x = by_sort x.sort x.number
    where
      by_sort : (r : Sort) (n : ℕ) → variables_of (term_of_variable (Some (record { sort = r; number = n }))) ≡ record { sort = r; number = n } ∷ []
      by_sort text_sort n = refl
      by_sort datum_sort n = refl
      by_sort name_sort n = refl
      by_sort skey_sort n = refl
      by_sort akey_sort n = refl

  -- ---- locals

  record IsStated (fs : Forms) : Type 0 where
    pub local : Variable
    pub is : local_by (items_of fs) ≡ Some local
    pub inside : locals_in_each fs ≡ []

  known_sort : (o : Option Sort) (q : Place) (p : Place) (n : ℕ) → misfit_unless (is_known o) p ≡ [] → (l : Variable) × (local_with o (number q n) ≡ Some l)
  known_sort None q p n e = absurd (cc)
  known_sort (Some r) q p n e = (record { sort = r; number = n }, refl)

  local-stated : (at : Place) (fs : Forms) → local_misfits at (items_of fs) ≡ [] → IsStated fs
  local-stated at none e = absurd (cc)
  local-stated at (more f none) e = absurd (some_behind (symbol_misfits names_sort f) at e)
  local-stated at (more (symbol p w) (more (number q n) none)) e =
      let one = known_sort (sort_or_none (sort_word w)) q p n (none_in_both (misfit_unless (names_sort w) p) [] e).0 in record { local = one.0; is = one.1; inside = refl }
  local-stated at (more (symbol p w) (more (symbol q n) none)) e = absurd (some_behind (misfit_unless (names_sort w) p) q e)
  local-stated at (more (symbol p w) (more (string q n) none)) e = absurd (some_behind (misfit_unless (names_sort w) p) q e)
  local-stated at (more (symbol p w) (more (list q n) none)) e = absurd (some_behind (misfit_unless (names_sort w) p) q e)
  local-stated at (more (string p w) (more g none)) e = absurd (cc)
  local-stated at (more (number p w) (more g none)) e = absurd (cc)
  local-stated at (more (list p w) (more g none)) e = absurd (cc)
  local-stated at (more f (more g (more h hs))) e =
      absurd (some_behind (any_number_misfits g) (place_of h) (none_in_both (symbol_misfits names_sort f) (any_number_misfits g ++ misfit (place_of h)) e).1)

  -- ---- variables

  record IsVariable (r : Sort) (f : Form) : Type 0 where
    pub variable : Variable
    pub sort : variable.sort ≡ r
    pub term : term_in scope f ≡ term_of_variable (Some variable)
    pub agree : Agree (locals_in f) (variable ∷ [])

  unless-both : (xs ys : List Place) → unless_misfit xs ys ≡ [] → (xs ≡ []) × (ys ≡ [])
  unless-both [] ys e = (refl, e)
  unless-both (x ∷ xs) ys e = absurd (cc)

  sort-named : (r : Sort) (o : Option Variable) → is_found_of_sort r o ≡ true → (x : Variable) × (o ≡ Some x) × (x.sort ≡ r)
  sort-named r None e = absurd (cc)
  sort-named r (Some x) e = (x, refl, sym (sort_is r x.sort e))

  -- the locals of a list that states one
  one-local : (at p : Place) (t : List ℕ) (fs : Forms) (l : Variable) → same_text t (codes "any") ≡ true → local_by (items_of fs) ≡ Some l → locals_in_each fs ≡ []
      → locals_in (list at (more (symbol p t) fs)) ≡ record { place = at; local = l } ∷ []
  one-local at p t fs l q is inside =
      ap (λ (b : Bool). local_at at (if (b || false) then local_by (items_of fs) else None) ++ locals_in_each fs) q
      ∙ ap (λ (o : Option Variable). local_at at o ++ locals_in_each fs) is
      ∙ ap (λ (ms : List LocalAt). record { place = at; local = l } ∷ ms) inside

  local-term : (at p : Place) (t : List ℕ) (fs : Forms) (l : Variable) → same_text t (codes "any") ≡ true → local_by (items_of fs) ≡ Some l
      → term_in scope (list at (more (symbol p t) fs)) ≡ term_of_variable (Some (variable_at l))
  local-term at p t fs l q is =
      ap (λ (b : Bool). if (b && true) then term_of_variable (variable_of_local scope (local_by (items_of fs))) else applied (term_head t) (items_of fs) (terms_in scope fs)) q
      ∙ ap (λ (o : Option Variable). term_of_variable (variable_of_local scope o)) is

  local-agrees : (at p : Place) (t : List ℕ) (fs : Forms) (l : Variable) → same_text t (codes "any") ≡ true → local_by (items_of fs) ≡ Some l → locals_in_each fs ≡ []
      → Agree (locals_in (list at (more (symbol p t) fs))) (variable_at l ∷ [])
  local-agrees at p t fs l q is inside =
      subst (λ (ms : List LocalAt). Agree ms (variable_at l ∷ [])) (sym (one-local at p t fs l q is inside)) (agree-stated (record { place = at; local = l }))

  variable-is : (r : Sort) (f : Form) → variable_misfits scope r f ≡ [] → IsVariable r f
  variable-is r (symbol at t) e =
      let x = sort-named r (variable_named ds t) (holds (is_found_of_sort r (variable_named ds t)) at e) in
      record { variable = x.0; sort = x.2; term = ap term_of_variable x.1; agree = agree-named t x.0 x.1 }
  variable-is r (string at t) e = absurd (cc)
  variable-is r (number at n) e = absurd (cc)
  variable-is r (list at none) e = absurd (cc)
  variable-is r (list at (more (string p t) fs)) e = absurd (cc)
  variable-is r (list at (more (number p n) fs)) e = absurd (cc)
  variable-is r (list at (more (list p gs) fs)) e = absurd (cc)
  variable-is r (list at (more (symbol p t) fs)) e = by_any (same_text t (codes "any")) refl e
    where
      by_any : (b : Bool) → same_text t (codes "any") ≡ b
          → unless_misfit (if (b || false) && true then local_misfits at (items_of fs) else []) (misfit_unless (is_found_of_sort r (if (b || false) && true then variable_of_local scope (local_by (items_of fs)) else None)) at) ≡ []
          → IsVariable r (list at (more (symbol p t) fs))
      by_any true q g =
          let parts = unless-both (local_misfits at (items_of fs)) (misfit_unless (is_found_of_sort r (variable_of_local scope (local_by (items_of fs)))) at) g in
          let st = local-stated at fs parts.0 in
          let x = sort-named r (variable_of_local scope (local_by (items_of fs))) (holds (is_found_of_sort r (variable_of_local scope (local_by (items_of fs)))) at parts.1) in
          let same : Some (variable_at st.local) ≡ Some x.0 = sym (ap (variable_of_local scope) st.is) ∙ x.1 in
          let variables : variable_at st.local ≡ x.0 = cc in
          record {
            variable = variable_at st.local;
            sort = ap (λ (y : Variable). y.sort) variables ∙ x.2;
            term = local-term at p t fs st.local q st.is;
            agree = local-agrees at p t fs st.local q st.is st.inside;
          }
      by_any false q g = absurd (cc)

  -- ---- as many variables as there are sorts

  record IsOne (r : Sort) (fs : Forms) : Type 0 where
    pub form : Form
    pub is : fs ≡ more form none
    pub fits : variable_misfits scope r form ≡ []

  variables-one : (r : Sort) (at : Place) (fs : Forms) → variables_misfits scope (r ∷ []) at (items_of fs) ≡ [] → IsOne r fs
  variables-one r at none e = absurd (cc)
  variables-one r at (more f none) e = record { form = f; is = refl; fits = (none_in_both (variable_misfits scope r f) [] e).0 }
  variables-one r at (more f (more g gs)) e = absurd (some_behind (variable_misfits scope r f) (place_of g) e)

  record AreTwo (r q : Sort) (fs : Forms) : Type 0 where
    pub first : Form
    pub second : Form
    pub is : fs ≡ more first (more second none)
    pub first_fits : variable_misfits scope r first ≡ []
    pub second_fits : variable_misfits scope q second ≡ []

  variables-two : (r q : Sort) (at : Place) (fs : Forms) → variables_misfits scope (r ∷ q ∷ []) at (items_of fs) ≡ [] → AreTwo r q fs
  variables-two r q at none e = absurd (cc)
  variables-two r q at (more f fs) e =
      let parts = none_in_both (variable_misfits scope r f) (variables_misfits scope (q ∷ []) at (items_of fs)) e in
      let rest = variables-one q at fs parts.1 in
      record { first = f; second = rest.form; is = ap (more f) rest.is; first_fits = parts.0; second_fits = rest.fits }

  -- The name of a public or private key, behind its purpose if it has one.
  record IsNamed (fs : Forms) : Type 0 where
    pub purpose : Option (List ℕ)
    pub form : Form
    pub fits : variable_misfits scope name_sort form ≡ []
    pub key : (private : Bool) → key_of_name private (items_of fs) (terms_in scope fs) ≡ key_as_term (asymmetric_term private (pubk_term purpose (as_name (term_in scope form))))
    pub inside : locals_in_each fs ≡ locals_in form ++ []

  name-one : (at : Place) (fs : Forms) → name_misfits scope at (items_of fs) ≡ [] → IsNamed fs
  name-one at none e = absurd (cc)
  name-one at (more (string p t) fs) e =
      let one = variables-one name_sort at fs e in
      record {
        purpose = Some t;
        form = one.form;
        fits = one.fits;
        key = λ private. ap (λ (gs : Forms). key_of_name private (string p t ∷ items_of gs) (tag_term t ∷ terms_in scope gs)) one.is;
        inside = ap locals_in_each one.is;
      }
  name-one at (more (symbol p t) none) e = record { purpose = None; form = symbol p t; fits = (none_in_both (variable_misfits scope name_sort (symbol p t)) [] e).0; key = λ private. refl; inside = refl }
  name-one at (more (symbol p t) (more g gs)) e = absurd (some_behind (variable_misfits scope name_sort (symbol p t)) (place_of g) e)
  name-one at (more (number p n) none) e = record { purpose = None; form = number p n; fits = (none_in_both (variable_misfits scope name_sort (number p n)) [] e).0; key = λ private. refl; inside = refl }
  name-one at (more (number p n) (more g gs)) e = absurd (some_behind (variable_misfits scope name_sort (number p n)) (place_of g) e)
  name-one at (more (list p hs) none) e = record { purpose = None; form = list p hs; fits = (none_in_both (variable_misfits scope name_sort (list p hs)) [] e).0; key = λ private. refl; inside = refl }
  name-one at (more (list p hs) (more g gs)) e = absurd (some_behind (variable_misfits scope name_sort (list p hs)) (place_of g) e)

  -- ---- keys

  key-sort : (x : Variable) → (same_sort skey_sort x.sort || same_sort akey_sort x.sort) ≡ true → (k : KeyTerm) × (term_of_variable (Some x) ≡ key_as_term k)
  key-sort x e = by_sort x.sort x.number e
    where
      by_sort : (r : Sort) (n : ℕ) → (same_sort skey_sort r || same_sort akey_sort r) ≡ true → (k : KeyTerm) × (term_of_variable (Some (record { sort = r; number = n })) ≡ key_as_term k)
      by_sort text_sort n h = absurd (cc)
      by_sort datum_sort n h = absurd (cc)
      by_sort name_sort n h = absurd (cc)
      by_sort skey_sort n h = (symmetric_term (skey_variable n), refl)
      by_sort akey_sort n h = (asymmetric_term false (akey_variable n), refl)

  -- the sort is that of keys, where it is known
  abbrev has_key_sort : Option Variable → Option TermSort → Bool
  has_key_sort o other = is_sort skey_sort (known_or (sort_of_variable o) other) || is_sort akey_sort (known_or (sort_of_variable o) other)

  known-key : (o : Option Variable) (other : Option TermSort) (at p : Place) → misfit_unless (is_known o) at ≡ [] → misfit_unless (has_key_sort o other) p ≡ [] → (k : KeyTerm) × (term_of_variable o ≡ key_as_term k)
  known-key None other at p e g = absurd (cc)
  known-key (Some x) other at p e g = key-sort x (holds (same_sort skey_sort x.sort || same_sort akey_sort x.sort) p g)

  applied-key : (at : Place) (h : TermHead) (fs : Forms) → applied_misfits scope at h (items_of fs) (each_term_misfits scope fs) ≡ [] → misfit_unless (has_key_sort None (sort_of_head h)) at ≡ []
      → (k : KeyTerm) × (applied h (items_of fs) (terms_in scope fs) ≡ key_as_term k)
  applied-key at cat fs e g = absurd (cc)
  applied-key at encrypt fs e g = absurd (cc)
  applied-key at long_term_key fs e g =
      let two = variables-two name_sort name_sort at fs e in
      (symmetric_term (ltk_term (as_name (term_in scope two.first)) (as_name (term_in scope two.second))), ap (λ (gs : Forms). applied long_term_key (items_of gs) (terms_in scope gs)) two.is)
  applied-key at public_key fs e g = let one = name-one at fs e in (asymmetric_term false (pubk_term one.purpose (as_name (term_in scope one.form))), one.key false)
  applied-key at private_key fs e g = let one = name-one at fs e in (asymmetric_term true (pubk_term one.purpose (as_name (term_in scope one.form))), one.key true)
  applied-key at inverse_key fs e g =
      let one = variables-one akey_sort at fs e in
      (inverse_term (as_key (term_in scope one.form)), ap (λ (gs : Forms). applied inverse_key (items_of gs) (terms_in scope gs)) one.is)
  applied-key at operation_out_of_profile fs e g = absurd (cc)
  applied-key at no_operation fs e g = absurd (cc)

  term-key : (f : Form) → term_misfits scope f ≡ [] → key_misfits scope f ≡ [] → (k : KeyTerm) × (term_in scope f ≡ key_as_term k)
  term-key (symbol at t) e g = known-key (variable_named ds t) None at at e g
  term-key (string at t) e g = absurd (cc)
  term-key (number at n) e g = absurd (cc)
  term-key (list at none) e g = absurd (cc)
  term-key (list at (more (string p t) fs)) e g = absurd (cc)
  term-key (list at (more (number p n) fs)) e g = absurd (cc)
  term-key (list at (more (list p gs) fs)) e g = absurd (cc)
  term-key (list at (more (symbol p t) fs)) e g = by_any (same_text t (codes "any")) refl e g
    where
      by_any : (b : Bool) → same_text t (codes "any") ≡ b
          → (if b && true then local_misfits at (items_of fs) else applied_misfits scope at (term_head t) (items_of fs) (each_term_misfits scope fs)) ≡ []
          → misfit_unless (has_key_sort (if (b || false) && true then variable_of_local scope (local_by (items_of fs)) else None) (sort_of_head (term_head t))) at ≡ []
          → (k : KeyTerm) × ((if b && true then term_of_variable (variable_of_local scope (local_by (items_of fs))) else applied (term_head t) (items_of fs) (terms_in scope fs)) ≡ key_as_term k)
      by_any true q h i =
          let st = local-stated at fs h in
          let known : misfit_unless (is_known (variable_of_local scope (local_by (items_of fs)))) at ≡ [] = ap (λ (o : Option Variable). misfit_unless (is_known (variable_of_local scope o)) at) st.is in
          known-key (variable_of_local scope (local_by (items_of fs))) (sort_of_head (term_head t)) at at known i
      by_any false q h i = applied-key at (term_head t) fs h i

  last-key : (f : Form) (fs : Forms) → all_misfits (each_term_misfits scope (more f fs)) ≡ [] → last_key_misfits scope (last_form (items_of (more f fs))) ≡ []
      → (k : KeyTerm) × (last_of (terms_in scope (more f fs)) ≡ key_as_term k)
  last-key f none e g = term-key f (none_in_both (term_misfits scope f) [] e).0 g
  last-key f (more h hs) e g = last-key h hs (none_in_both (term_misfits scope f) (all_misfits (each_term_misfits scope (more h hs))) e).1 g

  -- ---- variables of terms that are put together

  abbrev variables_all : List Term → List Variable
  variables_all [] = []
  variables_all (t ∷ ts) = variables_of t ++ variables_all ts

  paired-variables : (ts : List Term) → variables_of (paired ts) ≡ variables_all ts
  paired-variables [] = refl
  paired-variables (t ∷ []) = sym (append-nil (variables_of t))
  paired-variables (t ∷ u ∷ us) = ap (λ vs. variables_of t ++ vs) (paired-variables (u ∷ us))

  under-key : (ts : List Term) (k : KeyTerm) → last_of ts ≡ key_as_term k → variables_all (all_but_last ts) ++ variables_of_key (as_key (last_of ts)) ≡ variables_all ts
  under-key [] k e = absurd (cc)
  under-key (t ∷ []) k e = ap (λ (u : Term). variables_of_key (as_key u)) e ∙ sym (ap variables_of e) ∙ sym (append-nil (variables_of t))
  under-key (t ∷ u ∷ us) k e =
      append_assoc (variables_of t) (variables_all (all_but_last (u ∷ us))) (variables_of_key (as_key (last_of (u ∷ us)))) ∙ ap (λ vs. variables_of t ++ vs) (under-key (u ∷ us) k e)

  encrypted-variables : (ts : List Term) (k : KeyTerm) → last_of ts ≡ key_as_term k → variables_of (enc_term (paired (all_but_last ts)) (as_key (last_of ts))) ≡ variables_all ts
  encrypted-variables ts k e = ap (λ vs. vs ++ variables_of_key (as_key (last_of ts))) (paired-variables (all_but_last ts)) ∙ under-key ts k e

  abbrev number_is : Term → Variable
  number_is u = record { sort = name_sort; number = as_name u }

  name-number : (x : Variable) (t : Term) → x.sort ≡ name_sort → t ≡ term_of_variable (Some x) → ◌≡◌ {A = Variable} (record { sort = name_sort; number = as_name t }) x
  name-number x t e g = ap number_is g ∙ by_sort x.sort x.number e
    where
      by_sort : (r : Sort) (n : ℕ) → r ≡ name_sort → ◌≡◌ {A = Variable} (record { sort = name_sort; number = as_name (term_of_variable (Some (record { sort = r; number = n }))) }) (record { sort = r; number = n })
      by_sort text_sort n h = absurd (cc)
      by_sort datum_sort n h = absurd (cc)
      by_sort name_sort n h = refl
      by_sort skey_sort n h = absurd (cc)
      by_sort akey_sort n h = absurd (cc)

  inverse-variable : (x : Variable) (t : Term) → x.sort ≡ akey_sort → t ≡ term_of_variable (Some x) → variables_of_key (inverse_term (as_key t)) ≡ x ∷ []
  inverse-variable x t e g = ap (λ (u : Term). variables_of_key (inverse_term (as_key u))) g ∙ by_sort x.sort x.number e
    where
      by_sort : (r : Sort) (n : ℕ) → r ≡ akey_sort → variables_of_key (inverse_term (as_key (term_of_variable (Some (record { sort = r; number = n }))))) ≡ record { sort = r; number = n } ∷ []
      by_sort text_sort n h = absurd (cc)
      by_sort datum_sort n h = absurd (cc)
      by_sort name_sort n h = absurd (cc)
      by_sort skey_sort n h = absurd (cc)
      by_sort akey_sort n h = refl

  -- ---- terms

  named-agrees : (f : Form) (fs : Forms) (t : Term) → variable_misfits scope name_sort f ≡ [] → locals_in_each fs ≡ locals_in f ++ [] → variables_of t ≡ record { sort = name_sort; number = as_name (term_in scope f) } ∷ []
      → Agree (locals_in_each fs) (variables_of t)
  named-agrees f fs t fits inside vs =
      let x = variable-is name_sort f fits in
      let variables : variables_of t ≡ x.variable ∷ [] = vs ∙ ap (λ (y : Variable). y ∷ []) (name-number x.variable (term_in scope f) x.sort x.term) in
      subst (λ (ls : List LocalAt). Agree ls (variables_of t)) (sym (inside ∙ append-nil (locals_in f))) (subst (Agree (locals_in f)) (sym variables) x.agree)

  applied-agrees : (at : Place) (h : TermHead) (fs : Forms) → applied_misfits scope at h (items_of fs) (each_term_misfits scope fs) ≡ []
      → (all_misfits (each_term_misfits scope fs) ≡ [] → Agree (locals_in_each fs) (variables_all (terms_in scope fs))) → Agree (locals_in_each fs) (variables_of (applied h (items_of fs) (terms_in scope fs)))
  applied-agrees at cat fs e each =
      let parts = none_in_both (lacking 2 at (items_of fs) ++ all_misfits (each_term_misfits scope fs)) (report.spread_misfits (last_form (items_of fs))) e in
      subst (Agree (locals_in_each fs)) (sym (paired-variables (terms_in scope fs))) (each (none_in_both (lacking 2 at (items_of fs)) (all_misfits (each_term_misfits scope fs)) parts.0).1)
  applied-agrees at encrypt none e each = absurd (cc)
  applied-agrees at encrypt (more f fs) e each =
      let spread = report.spread_misfits (last_form (front_of (items_of (more f fs)))) in
      let items = all_misfits (each_term_misfits scope (more f fs)) in
      let lack = lacking 2 at (items_of (more f fs)) in
      let parts = none_in_both (lack ++ items ++ spread) (last_key_misfits scope (last_form (items_of (more f fs)))) e in
      let inner = none_in_both (lack ++ items) spread parts.0 in
      let fit = (none_in_both lack items inner.0).1 in
      let key = last-key f fs fit parts.1 in
      subst (Agree (locals_in_each (more f fs))) (sym (encrypted-variables (terms_in scope (more f fs)) key.0 key.1)) (each fit)
  applied-agrees at long_term_key fs e each =
      let two = variables-two name_sort name_sort at fs e in
      let x = variable-is name_sort two.first two.first_fits in
      let y = variable-is name_sort two.second two.second_fits in
      let both = agree-both (locals_in two.first) (locals_in two.second ++ []) (x.variable ∷ []) (y.variable ∷ []) x.agree (agree-both (locals_in two.second) [] (y.variable ∷ []) [] y.agree agree-none) in
      let first = name-number x.variable (term_in scope two.first) x.sort x.term in
      let second = name-number y.variable (term_in scope two.second) y.sort y.term in
      let P : Forms → Type 0 = λ gs. Agree (locals_in_each gs) (variables_of (applied long_term_key (items_of gs) (terms_in scope gs))) in
      subst P (sym two.is) (subst (Agree (locals_in two.first ++ (locals_in two.second ++ []))) (ap₂ (λ (a b : Variable). a ∷ b ∷ []) (sym first) (sym second)) both)
  applied-agrees at public_key fs e each =
      let one = name-one at fs e in named-agrees one.form fs (key_of_name false (items_of fs) (terms_in scope fs)) one.fits one.inside (ap variables_of (one.key false))
  applied-agrees at private_key fs e each =
      let one = name-one at fs e in named-agrees one.form fs (key_of_name true (items_of fs) (terms_in scope fs)) one.fits one.inside (ap variables_of (one.key true))
  applied-agrees at inverse_key fs e each =
      let one = variables-one akey_sort at fs e in
      let x = variable-is akey_sort one.form one.fits in
      let P : Forms → Type 0 = λ gs. Agree (locals_in_each gs) (variables_of (applied inverse_key (items_of gs) (terms_in scope gs))) in
      let variables = inverse-variable x.variable (term_in scope one.form) x.sort x.term in
      subst P (sym one.is) (subst (λ (ls : List LocalAt). Agree ls (variables_of_key (inverse_term (as_key (term_in scope one.form))))) (sym (append-nil (locals_in one.form))) (subst (Agree (locals_in one.form)) (sym variables) x.agree))
  applied-agrees at operation_out_of_profile fs e each = absurd (cc)
  applied-agrees at no_operation fs e each = absurd (cc)

  known-one : (o : Option Variable) (at : Place) → misfit_unless (is_known o) at ≡ [] → (x : Variable) × (o ≡ Some x)
  known-one None at e = absurd (cc)
  known-one (Some x) at e = (x, refl)

  -- a list with a head
  headed-agrees : (at p : Place) (t : List ℕ) (fs : Forms) (b : Bool) → same_text t (codes "any") ≡ b
      → (if b && true then local_misfits at (items_of fs) else applied_misfits scope at (term_head t) (items_of fs) (each_term_misfits scope fs)) ≡ []
      → (all_misfits (each_term_misfits scope fs) ≡ [] → Agree (locals_in_each fs) (variables_all (terms_in scope fs)))
      → Agree (locals_in (list at (more (symbol p t) fs))) (variables_of (term_in scope (list at (more (symbol p t) fs))))
  headed-agrees at p t fs true q e each =
      let st = local-stated at fs e in
      subst (Agree (locals_in (list at (more (symbol p t) fs)))) (sym (ap variables_of (local-term at p t fs st.local q st.is) ∙ variable-alone (variable_at st.local))) (local-agrees at p t fs st.local q st.is st.inside)
  headed-agrees at p t fs false q e each =
      let locals : locals_in (list at (more (symbol p t) fs)) ≡ locals_in_each fs = ap (λ (b : Bool). local_at at (if (b || false) then local_by (items_of fs) else None) ++ locals_in_each fs) q in
      let term : term_in scope (list at (more (symbol p t) fs)) ≡ applied (term_head t) (items_of fs) (terms_in scope fs) =
      ap (λ (b : Bool). if (b && true) then term_of_variable (variable_of_local scope (local_by (items_of fs))) else applied (term_head t) (items_of fs) (terms_in scope fs)) q in
      subst (λ (ls : List LocalAt). Agree ls (variables_of (term_in scope (list at (more (symbol p t) fs))))) (sym locals)
      (subst (Agree (locals_in_each fs)) (sym (ap variables_of term)) (applied-agrees at (term_head t) fs e each))

  mutual
    pub term-agrees : (f : Form) → term_misfits scope f ≡ [] → Agree (locals_in f) (variables_of (term_in scope f))
    term-agrees (symbol at t) e =
        let x = known-one (variable_named ds t) at e in
        subst (Agree []) (sym (ap (λ (o : Option Variable). variables_of (term_of_variable o)) x.1 ∙ variable-alone x.0)) (agree-named t x.0 x.1)
    term-agrees (string at t) e = agree-none
    term-agrees (number at n) e = absurd (cc)
    term-agrees (list at none) e = absurd (cc)
    term-agrees (list at (more (string p t) fs)) e = absurd (cc)
    term-agrees (list at (more (number p n) fs)) e = absurd (cc)
    term-agrees (list at (more (list p gs) fs)) e = absurd (cc)
    term-agrees (list at (more (symbol p t) fs)) e = headed-agrees at p t fs (same_text t (codes "any")) refl e (each-agrees fs)

    pub each-agrees : (fs : Forms) → all_misfits (each_term_misfits scope fs) ≡ [] → Agree (locals_in_each fs) (variables_all (terms_in scope fs))
    each-agrees none e = agree-none
    each-agrees (more f fs) e =
        let parts = none_in_both (term_misfits scope f) (all_misfits (each_term_misfits scope fs)) e in
        agree-both (locals_in f) (locals_in_each fs) (variables_of (term_in scope f)) (variables_all (terms_in scope fs)) (term-agrees f parts.0) (each-agrees fs parts.1)
