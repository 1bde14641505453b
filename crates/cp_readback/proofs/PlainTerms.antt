-- A term that fits outside patterns has the sort that its head says, and its variables are declared.
use Rattle.std.proofs.Common.{◌≡◌, ℕ, List, [], ◌∷◌, ◌++◌, Bool, true, false, ◌&&◌, ◌||◌, refl, sym, ap, subst, if◌then◌else◌}
use Rattle.std.specs.Prelude.{Option, Some, None, codes}
use Rattle.cp_base.specs.declared.place.Place.{Place}
use Rattle.cp_lists.proofs.Appended.{none_before, none_behind, none_of_three, none_of_four, some_behind}
use Rattle.cp_model.specs.Term.{variable_term, ltk_term, pubk_term, symmetric_term, asymmetric_term, inverse_term, AtomTerm, text_variable, datum_variable, name_variable, key_term, Term, tag_term, atom_term, enc_term, variables_of_key, variables_of_atom, variables_of}
use Rattle.cp_model.specs.Bindings.{sort_of_atom}
use Rattle.cp_model.specs.declared.sort.Sort.{Sort}
use Rattle.cp_model.specs.declared.sort.Sort.TheVariants.{Text as text_sort, Datum as datum_sort, Name as name_sort, Skey as skey_sort, Akey as akey_sort}
use Rattle.cp_model.specs.declared.variable.Variable.{Variable}
use Rattle.cp_model.specs.declared.variable.Declaration.{Declaration}
use Rattle.cp_model.specs.Problem.{IsDeclared}
use Rattle.cp_model.specs.Same.{same_text}
use Rattle.cp_model.proofs.SameTests.{sort_is}
use Rattle.cp_sexpr.specs.Syntax.{Form, symbol, string, number, list, Forms, none, more}
use Rattle.cp_language.specs.declared.words.TermHead.{TermHead}
use Rattle.cp_language.specs.declared.words.TermHead.TheVariants.{Cat as cat, Enc as encrypt, Ltk as long_term_key, Pubk as public_key, Privk as private_key, Invk as inverse_key, OutOfProfile as operation_out_of_profile, Unknown as no_operation}
use Rattle.cp_language.specs.Words.{term_head}
use Rattle.cp_language.specs.Faults.{place_of, items_of}
use Rattle.cp_language.specs.Roles.{front_of, last_form}
use Rattle.cp_language.specs.Problems.{is_known}
use Rattle.cp_language.specs.declared.sorts.TermSort.{TermSort}
use Rattle.cp_language.specs.declared.sorts.TermSort.TheVariants.{Atoms as of_atoms, All as of_all}
use Rattle.cp_language.specs.Terms.{variable_named, sort_of_variable, is_sort, admits_atom, term_of_variable, paired, all_but_last, last_of, as_key, as_name, as_atom, key_as_term, long_term, inverted, key_of_name, applied}
use Rattle.cp_report.specs.Misfits.{misfit, misfit_unless, unless_misfit, lacking, all_misfits}
use Rattle.cp_report.specs.Spelled.{Scope, plain_scope, local_by, variable_of_local, is_found_of_sort, sort_of_head, known_or, sort_in, sort_misfits, atom_misfits, atom_in, variable_misfits, variables_misfits, name_misfits, spread_misfits, last_key_misfits, local_misfits, applied_misfits, term_misfits, each_term_misfits, term_in, terms_in}
use Rattle.cp_language.proofs.Terms.{AreDeclared, none_declared, one_declared, both_declared, named_is_declared, IsOfSort, variable_of_sort, variable_declared, IsSound, sound_of_sort, compound_is_sound, atom_is_sound, key_declared, AllDeclared, paired_declared, front_declared}
use Rattle.cp_report.proofs.NoMisfits.{holds}

module _ (ds : List Declaration) where
  abbrev s : Scope
  s = plain_scope ds

  -- ---- variables

  -- A form that stands for a declared variable of this sort.
  record IsVariable (r : Sort) (f : Form) : Type 0 where
    variable : Variable
    declared : IsDeclared ds variable
    sort : variable.sort ≡ r
    term : term_in s f ≡ variable_term variable

  -- An identifier that names a variable of the sort.
  named_variable : (r : Sort) (t : List ℕ) (o : Option Variable) → variable_named ds t ≡ o → is_found_of_sort r o ≡ true → (x : Variable) × (o ≡ Some x) × (r ≡ x.sort) × IsDeclared ds x
  named_variable r t None e h = absurd (cc)
  named_variable r t (Some x) e h = (x, refl, sort_is r x.sort h, named_is_declared ds t x e)

  -- No list is a local outside patterns.
  no_local : (b : Bool) (at : Place) (inside : List Place) (o : Option Variable) (r : Sort) → unless_misfit (if b && false then inside else []) (misfit_unless (is_found_of_sort r (if b && false then o else None)) at) ≡ [] → ⊥
  no_local true at inside o r e = cc
  no_local false at inside o r e = cc

  -- Where a variable has to stand, one stands.
  variable_fits : (r : Sort) (f : Form) → variable_misfits s r f ≡ [] → IsVariable r f
  variable_fits r (symbol at t) e =
      let x = named_variable r t (variable_named ds t) refl (holds (is_found_of_sort r (variable_named ds t)) at e) in
      record { variable = x.0; declared = x.3; sort = sym x.2; term = ap term_of_variable x.1 }
  variable_fits r (string at t) e = absurd (cc)
  variable_fits r (number at n) e = absurd (cc)
  variable_fits r (list at none) e = absurd (cc)
  variable_fits r (list at (more (string p t) fs)) e = absurd (cc)
  variable_fits r (list at (more (number p n) fs)) e = absurd (cc)
  variable_fits r (list at (more (list p gs) fs)) e = absurd (cc)
  variable_fits r (list at (more (symbol p t) fs)) e = absurd (no_local (same_text t (codes "any") || false) at _ _ r e)

  -- The name that it stands for is declared.
  name_fits : (f : Form) → variable_misfits s name_sort f ≡ [] → IsDeclared ds (record { sort = name_sort; number = as_name (term_in s f) })
  name_fits f e =
      let x = variable_fits name_sort f e in
      subst (λ (t : Term). IsDeclared ds (record { sort = name_sort; number = as_name t })) (sym x.term) (by x.variable x.sort x.declared)
    where
      by : (x : Variable) → x.sort ≡ name_sort → IsDeclared ds x → IsDeclared ds (record { sort = name_sort; number = as_name (variable_term x) })
      by x h d =
          subst (λ (r : Sort). IsDeclared ds (record { sort = r; number = x.number }) → IsDeclared ds (record { sort = name_sort; number = as_name (variable_term (record { sort = r; number = x.number })) }))
          (sym h) (λ q. q) d

  -- ---- terms that are put together

  -- Each item that fits is sound.
  abbrev AreSound : Forms → Type 0
  AreSound none = Unit {0}
  AreSound (more f fs) = (term_misfits s f ≡ [] → IsSound ds (sort_in s f) (term_in s f)) × AreSound fs

  -- The variables of items that fit are declared.
  all_declared : (fs : Forms) → AreSound fs → all_misfits (each_term_misfits s fs) ≡ [] → AllDeclared ds (terms_in s fs)
  all_declared none h e = tt
  all_declared (more f fs) h e =
      ((h.0 (none_before (term_misfits s f) (all_misfits (each_term_misfits s fs)) e)).declared, all_declared fs h.1 (none_behind (term_misfits s f) (all_misfits (each_term_misfits s fs)) e))

  -- So are those of the key, which stands last.
  last_key_declared : (f : Form) (fs : Forms) → AreSound (more f fs) → all_misfits (each_term_misfits s (more f fs)) ≡ [] → last_key_misfits s (last_form (items_of (more f fs))) ≡ [] → AreDeclared ds (variables_of_key (as_key (last_of (terms_in s (more f fs)))))
  last_key_declared f none h e k =
      key_declared ds (sort_in s f) (term_in s f) (h.0 (none_before (term_misfits s f) [] e)) (holds (is_sort skey_sort (sort_in s f) || is_sort akey_sort (sort_in s f)) (place_of f) k)
  last_key_declared f (more g gs) h e k = last_key_declared g gs h.1 (none_behind (term_misfits s f) (all_misfits (each_term_misfits s (more g gs))) e) k

  -- ---- by the head

  -- An encryption.
  encryption_sound : (at : Place) (fs : Forms) → AreSound fs → lacking 2 at (items_of fs) ++ all_misfits (each_term_misfits s fs) ++ spread_misfits (last_form (front_of (items_of fs))) ++ last_key_misfits s (last_form (items_of fs)) ≡ []
      → IsSound ds (Some of_all) (enc_term (paired (all_but_last (terms_in s fs))) (as_key (last_of (terms_in s fs))))
  encryption_sound at none h e = absurd (cc)
  encryption_sound at (more f fs) h e =
      let p = none_of_four (lacking 2 at (items_of (more f fs))) (all_misfits (each_term_misfits s (more f fs))) (spread_misfits (last_form (front_of (items_of (more f fs))))) (last_key_misfits s (last_form (items_of (more f fs)))) e in
      compound_is_sound ds (enc_term (paired (all_but_last (terms_in s (more f fs)))) (as_key (last_of (terms_in s (more f fs)))))
      (both_declared ds (variables_of (paired (all_but_last (terms_in s (more f fs))))) (variables_of_key (as_key (last_of (terms_in s (more f fs)))))
      (paired_declared ds (all_but_last (terms_in s (more f fs))) (front_declared ds (terms_in s (more f fs)) (all_declared (more f fs) h p.1))) (last_key_declared f fs h p.1 p.3))

  -- Two names.
  long_term_sound : (at : Place) (fs : Forms) → variables_misfits s (name_sort ∷ name_sort ∷ []) at (items_of fs) ≡ [] → IsSound ds (Some (of_atoms skey_sort)) (long_term (terms_in s fs))
  long_term_sound at none e = absurd (cc)
  long_term_sound at (more f none) e = absurd (some_behind (variable_misfits s name_sort f) at e)
  long_term_sound at (more f (more g none)) e =
      let a = name_fits f (none_before (variable_misfits s name_sort f) (variable_misfits s name_sort g ++ []) e) in
      let b = name_fits g (none_before (variable_misfits s name_sort g) [] (none_behind (variable_misfits s name_sort f) (variable_misfits s name_sort g ++ []) e)) in
      atom_is_sound ds skey_sort (long_term (terms_in s (more f (more g none))))
      (both_declared ds (record { sort = name_sort; number = as_name (term_in s f) } ∷ []) (record { sort = name_sort; number = as_name (term_in s g) } ∷ [])
      (one_declared ds (record { sort = name_sort; number = as_name (term_in s f) }) a) (one_declared ds (record { sort = name_sort; number = as_name (term_in s g) }) b))
      (ltk_term (as_name (term_in s f)) (as_name (term_in s g)), refl)
  long_term_sound at (more f (more g (more h hs))) e =
      absurd (some_behind (variable_misfits s name_sort g) (place_of h) (none_behind (variable_misfits s name_sort f) (variable_misfits s name_sort g ++ misfit (place_of h)) e))

  -- The inverse of a key.
  inverse_sound : (at : Place) (fs : Forms) → variables_misfits s (akey_sort ∷ []) at (items_of fs) ≡ [] → IsSound ds (Some (of_atoms akey_sort)) (inverted (terms_in s fs))
  inverse_sound at none e = absurd (cc)
  inverse_sound at (more f none) e =
      let x = variable_fits akey_sort f (none_before (variable_misfits s akey_sort f) [] e) in
      subst (λ (t : Term). IsSound ds (Some (of_atoms akey_sort)) (key_as_term (inverse_term (as_key t)))) (sym x.term) (by x.variable x.sort x.declared)
    where
      at_sort : (n : ℕ) → IsDeclared ds (record { sort = akey_sort; number = n }) → IsSound ds (Some (of_atoms akey_sort)) (key_as_term (inverse_term (as_key (variable_term (record { sort = akey_sort; number = n })))))
      at_sort n d = atom_is_sound ds akey_sort (key_as_term (inverse_term (as_key (variable_term (record { sort = akey_sort; number = n }))))) (one_declared ds (record { sort = akey_sort; number = n }) d) (true, _, refl)

      by : (x : Variable) → x.sort ≡ akey_sort → IsDeclared ds x → IsSound ds (Some (of_atoms akey_sort)) (key_as_term (inverse_term (as_key (variable_term x))))
      by x h d =
          subst (λ (r : Sort). IsDeclared ds (record { sort = r; number = x.number }) → IsSound ds (Some (of_atoms akey_sort)) (key_as_term (inverse_term (as_key (variable_term (record { sort = r; number = x.number }))))))
          (sym h) (at_sort x.number) d
  inverse_sound at (more f (more g gs)) e = absurd (some_behind (variable_misfits s akey_sort f) (place_of g) e)

  -- The key of a name, for a purpose or none.
  named_key : (private : Bool) (purpose : Option (List ℕ)) (f : Form) → variable_misfits s name_sort f ++ [] ≡ [] → IsSound ds (Some (of_atoms akey_sort)) (key_as_term (asymmetric_term private (pubk_term purpose (as_name (term_in s f)))))
  named_key private purpose f e =
      atom_is_sound ds akey_sort (key_as_term (asymmetric_term private (pubk_term purpose (as_name (term_in s f)))))
      (one_declared ds (record { sort = name_sort; number = as_name (term_in s f) }) (name_fits f (none_before (variable_misfits s name_sort f) [] e))) (private, pubk_term purpose (as_name (term_in s f)), refl)

  -- A public or private key.
  named_sound : (private : Bool) (at : Place) (fs : Forms) → name_misfits s at (items_of fs) ≡ [] → IsSound ds (Some (of_atoms akey_sort)) (key_of_name private (items_of fs) (terms_in s fs))
  named_sound private at none e = absurd (cc)
  named_sound private at (more (string p t) none) e = absurd (cc)
  named_sound private at (more (string p t) (more f none)) e = named_key private (Some t) f e
  named_sound private at (more (string p t) (more f (more g gs))) e = absurd (some_behind (variable_misfits s name_sort f) (place_of g) e)
  named_sound private at (more (symbol p t) none) e = named_key private None (symbol p t) e
  named_sound private at (more (symbol p t) (more g gs)) e = absurd (some_behind (variable_misfits s name_sort (symbol p t)) (place_of g) e)
  named_sound private at (more (number p n) none) e = named_key private None (number p n) e
  named_sound private at (more (number p n) (more g gs)) e = absurd (some_behind (variable_misfits s name_sort (number p n)) (place_of g) e)
  named_sound private at (more (list p hs) none) e = named_key private None (list p hs) e
  named_sound private at (more (list p hs) (more g gs)) e = absurd (some_behind (variable_misfits s name_sort (list p hs)) (place_of g) e)

  -- A list with this head.
  applied_sound : (at : Place) (head : TermHead) (fs : Forms) → AreSound fs → applied_misfits s at head (items_of fs) (each_term_misfits s fs) ≡ [] → IsSound ds (sort_of_head head) (applied head (items_of fs) (terms_in s fs))
  applied_sound at cat fs h e =
      let p = none_of_three (lacking 2 at (items_of fs)) (all_misfits (each_term_misfits s fs)) (spread_misfits (last_form (items_of fs))) e in
      compound_is_sound ds (paired (terms_in s fs)) (paired_declared ds (terms_in s fs) (all_declared fs h p.1))
  applied_sound at encrypt fs h e = encryption_sound at fs h e
  applied_sound at long_term_key fs h e = long_term_sound at fs e
  applied_sound at public_key fs h e = named_sound false at fs e
  applied_sound at private_key fs h e = named_sound true at fs e
  applied_sound at inverse_key fs h e = inverse_sound at fs e
  applied_sound at operation_out_of_profile fs h e = absurd (cc)
  applied_sound at no_operation fs h e = absurd (cc)

  -- A declared identifier.
  symbol_sound : (at : Place) (t : List ℕ) (o : Option Variable) → variable_named ds t ≡ o → misfit_unless (is_known o) at ≡ [] → IsSound ds (known_or (sort_of_variable o) None) (term_of_variable o)
  symbol_sound at t None q e = absurd (cc)
  symbol_sound at t (Some x) q e = atom_is_sound ds x.sort (variable_term x) (variable_declared ds x (named_is_declared ds t x q)) (variable_of_sort x)

  -- A list with a head; outside patterns `any` is a head like others.
  list_sound : (b : Bool) (at : Place) (head : TermHead) (fs : Forms) (inside : List Place) (o : Option Variable) (t : Term) → AreSound fs
      → (if b && false then inside else applied_misfits s at head (items_of fs) (each_term_misfits s fs)) ≡ []
      → IsSound ds (known_or (sort_of_variable (if (b || false) && false then o else None)) (sort_of_head head)) (if b && false then t else applied head (items_of fs) (terms_in s fs))
  list_sound true at head fs inside o t h e = applied_sound at head fs h e
  list_sound false at head fs inside o t h e = applied_sound at head fs h e

  mutual
    -- A term that fits is sound.
    pub term_sound : (f : Form) → term_misfits s f ≡ [] → IsSound ds (sort_in s f) (term_in s f)
    term_sound (symbol at t) e = symbol_sound at t (variable_named ds t) refl e
    term_sound (string at t) e = compound_is_sound ds (tag_term t) (none_declared ds)
    term_sound (number at n) e = absurd (cc)
    term_sound (list at none) e = absurd (cc)
    term_sound (list at (more (symbol p t) fs)) e =
        list_sound (same_text t (codes "any")) at (term_head t) fs (local_misfits at (items_of fs)) (variable_of_local s (local_by (items_of fs))) (term_of_variable (variable_of_local s (local_by (items_of fs)))) (terms_sound fs) e
    term_sound (list at (more (string p t) fs)) e = absurd (cc)
    term_sound (list at (more (number p n) fs)) e = absurd (cc)
    term_sound (list at (more (list p gs) fs)) e = absurd (cc)

    -- So is each item that fits.
    terms_sound : (fs : Forms) → AreSound fs
    terms_sound none = tt
    terms_sound (more f fs) = (term_sound f, terms_sound fs)

  -- ---- atoms

  -- An atom of this sort, over declared variables.
  pub record IsValue (r : Sort) (t : Term) : Type 0 where
    pub atom : AtomTerm
    pub is : t ≡ atom_term atom
    pub sort : sort_of_atom atom ≡ r
    pub declared : AreDeclared ds (variables_of_atom atom)

  -- A term of a sort, over declared variables, is such an atom.
  value_of_sort : (r : Sort) (t : Term) → AreDeclared ds (variables_of t) → IsOfSort r t → IsValue r t
  value_of_sort text_sort t d o = record { atom = text_variable o.0; is = o.1; sort = refl; declared = subst (λ (u : Term). AreDeclared ds (variables_of u)) o.1 d }
  value_of_sort datum_sort t d o = record { atom = datum_variable o.0; is = o.1; sort = refl; declared = subst (λ (u : Term). AreDeclared ds (variables_of u)) o.1 d }
  value_of_sort name_sort t d o = record { atom = name_variable o.0; is = o.1; sort = refl; declared = subst (λ (u : Term). AreDeclared ds (variables_of u)) o.1 d }
  value_of_sort skey_sort t d o = record { atom = key_term (symmetric_term o.0); is = o.1; sort = refl; declared = subst (λ (u : Term). AreDeclared ds (variables_of u)) o.1 d }
  value_of_sort akey_sort t d o = record { atom = key_term (asymmetric_term o.0 o.1); is = o.2; sort = refl; declared = subst (λ (u : Term). AreDeclared ds (variables_of u)) o.2 d }

  -- A term that fits as a value of this sort is one.
  pub value_fits : (r : Sort) (f : Form) → sort_misfits s r f ++ term_misfits s f ≡ [] → IsValue r (term_in s f)
  value_fits r f e =
      let sound = term_sound f (none_behind (sort_misfits s r f) (term_misfits s f) e) in
      value_of_sort r (term_in s f) sound.declared (sound_of_sort ds r (sort_in s f) (term_in s f) sound (holds (is_sort r (sort_in s f)) (place_of f) (none_before (sort_misfits s r f) (term_misfits s f) e)))

  -- A term that fits as an atom is one over declared variables.
  pub atom_declared : (f : Form) → atom_misfits s f ≡ [] → AreDeclared ds (variables_of_atom (atom_in s f))
  atom_declared f e =
      let atomic = misfit_unless (admits_atom (sort_in s f)) (place_of f) in
      by (sort_in s f) (term_in s f) (term_sound f (none_behind atomic (term_misfits s f) e)) (holds (admits_atom (sort_in s f)) (place_of f) (none_before atomic (term_misfits s f) e))
    where
      by : (o : Option TermSort) (t : Term) → IsSound ds o t → admits_atom o ≡ true → AreDeclared ds (variables_of_atom (as_atom t))
      by None t h q = absurd (h.known refl)
      by (Some of_all) t h q = absurd (cc)
      by (Some (of_atoms r)) t h q =
          let v = value_of_sort r t h.declared (h.sorted r refl) in
          subst (λ (u : Term). AreDeclared ds (variables_of_atom (as_atom u))) (sym v.is) v.declared
