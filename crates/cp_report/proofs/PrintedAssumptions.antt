-- Assumptions as a report lists them: each stands once, they fit, and they are read back as the same under the renaming.
use Rattle.std.proofs.Common.{◌≡◌, ◌⊎◌, inl, inr, ℕ, List, [], ◌∷◌, ◌++◌, Bool, true, false, refl, sym, ap, ap₂, ◌∙◌, subst, if◌then◌else◌}
use Rattle.std.specs.Prelude.{map, not}
use Rattle.std.specs.List.{filter}
use Rattle.std.proofs.lemmas.List.{map_push}
use Rattle.std.proofs.lemmas.Bool.{both_ways, false_from_ne_true, and_from}
use Rattle.cp_base.specs.declared.place.Place.{Place}
use Rattle.cp_lists.specs.Lists.{IsIn, here, there}
use Rattle.cp_lists.proofs.Members.{in_append, in_append_right, in_pushed, from_map, from_filter}
use Rattle.cp_model.specs.Term.{SymmetricTerm, skey_variable, ltk_term, PairTerm, akey_variable, pubk_term, symmetric_term, asymmetric_term, AtomTerm, text_variable, datum_variable, name_variable, key_term, variables_of_symmetric, variables_of_pair, variables_of_atom, apply_to_atom}
use Rattle.cp_model.specs.declared.sort.Sort.{Sort}
use Rattle.cp_model.specs.declared.sort.Sort.TheVariants.{Text as text_sort, Datum as datum_sort, Name as name_sort, Skey as skey_sort, Akey as akey_sort}
use Rattle.cp_model.specs.declared.variable.Variable.{Variable}
use Rattle.cp_model.specs.Given.{has_atom}
use Rattle.cp_model.proofs.Gathered.{IsGathering, atoms, onto-takes, onto-only}
use Rattle.cp_sexpr.specs.Syntax.{Form}
use Rattle.cp_language.specs.Faults.{place_of}
use Rattle.cp_language.specs.Printed.{variable, atom_form}
use Rattle.cp_report.specs.Misfits.{misfit_unless, unless_misfit}
use Rattle.cp_report.specs.Spelled.{Scope, atom_misfits, atom_in}
use Rattle.cp_report.specs.Skeletons.{atoms_misfits, has_atoms}
use Rattle.cp_report.specs.UpToNames.{variable_numbered, renamed, renaming, IsOneToOne}
use Rattle.cp_report.proofs.SpelledTerms.{StandsFor, printed_atom_fits}
use Rattle.cp_report.proofs.CoveringPairs.{AreApart, apart_append}

-- ---- a renaming that takes no two variables to one takes no two atoms to one

module _ (number : Variable → ℕ) where
  -- different variables of the two stay different
  abbrev OneToOneOn : List Variable → List Variable → Type 0
  OneToOneOn xs ys = (x y : Variable) → IsIn x xs → IsIn y ys → renamed number x ≡ renamed number y → x ≡ y

  one_number : (r : Sort) (m n : ℕ) → OneToOneOn (variable r m ∷ []) (variable r n ∷ []) → number (variable r m) ≡ number (variable r n) → m ≡ n
  one_number r m n one e = ap (λ (x : Variable). x.number) (one (variable r m) (variable r n) here here (ap (λ (k : ℕ). variable_numbered r k) e))

  same_symmetric : (j k : SymmetricTerm) → OneToOneOn (variables_of_symmetric j) (variables_of_symmetric k) → (apply_to_atom (renaming number) (key_term (symmetric_term j)) ≡ apply_to_atom (renaming number) (key_term (symmetric_term k))) → j ≡ k
  same_symmetric (skey_variable m) (skey_variable n) one e = let f : number (variable skey_sort m) ≡ number (variable skey_sort n) = cc in ap skey_variable (one_number skey_sort m n one f)
  same_symmetric (skey_variable m) (ltk_term c d) one e = absurd (cc)
  same_symmetric (ltk_term a b) (skey_variable n) one e = absurd (cc)
  same_symmetric (ltk_term a b) (ltk_term c d) one e =
      let f : number (variable name_sort a) ≡ number (variable name_sort c) = cc in
      let g : number (variable name_sort b) ≡ number (variable name_sort d) = cc in
      let p : a ≡ c = ap (λ (x : Variable). x.number) (one (variable name_sort a) (variable name_sort c) here here (ap (λ (k : ℕ). variable_numbered name_sort k) f)) in
      let q : b ≡ d = ap (λ (x : Variable). x.number) (one (variable name_sort b) (variable name_sort d) (there here) (there here) (ap (λ (k : ℕ). variable_numbered name_sort k) g)) in
      ap₂ ltk_term p q

  same_half : (flag flag' : Bool) (j k : PairTerm) → OneToOneOn (variables_of_pair j) (variables_of_pair k)
      → (apply_to_atom (renaming number) (key_term (asymmetric_term flag j)) ≡ apply_to_atom (renaming number) (key_term (asymmetric_term flag' k))) → (flag ≡ flag') × (j ≡ k)
  same_half false false (akey_variable m) (akey_variable n) one e = let f : number (variable akey_sort m) ≡ number (variable akey_sort n) = cc in (refl, ap akey_variable (one_number akey_sort m n one f))
  same_half true true (akey_variable m) (akey_variable n) one e = let f : number (variable akey_sort m) ≡ number (variable akey_sort n) = cc in (refl, ap akey_variable (one_number akey_sort m n one f))
  same_half false true (akey_variable m) (akey_variable n) one e = absurd (cc)
  same_half true false (akey_variable m) (akey_variable n) one e = absurd (cc)
  same_half flag flag' (akey_variable m) (pubk_term p a) one e = absurd (cc)
  same_half flag flag' (pubk_term p a) (akey_variable n) one e = absurd (cc)
  same_half flag flag' (pubk_term p a) (pubk_term q b) one e =
      let f : number (variable name_sort a) ≡ number (variable name_sort b) = cc in
      let g : flag ≡ flag' = cc in
      let h : p ≡ q = cc in
      (g, ap₂ pubk_term h (one_number name_sort a b one f))

  pub same_renamed : (v w : AtomTerm) → OneToOneOn (variables_of_atom v) (variables_of_atom w) → apply_to_atom (renaming number) v ≡ apply_to_atom (renaming number) w → v ≡ w
  same_renamed (text_variable m) (text_variable n) one e = let f : number (variable text_sort m) ≡ number (variable text_sort n) = cc in ap text_variable (one_number text_sort m n one f)
  same_renamed (datum_variable m) (datum_variable n) one e = let f : number (variable datum_sort m) ≡ number (variable datum_sort n) = cc in ap datum_variable (one_number datum_sort m n one f)
  same_renamed (name_variable m) (name_variable n) one e = let f : number (variable name_sort m) ≡ number (variable name_sort n) = cc in ap name_variable (one_number name_sort m n one f)
  same_renamed (key_term (symmetric_term j)) (key_term (symmetric_term k)) one e = ap (λ x. key_term (symmetric_term x)) (same_symmetric j k one e)
  same_renamed (key_term (asymmetric_term f j)) (key_term (asymmetric_term g k)) one e = let h = same_half f g j k one e in ap₂ (λ x y. key_term (asymmetric_term x y)) h.0 h.1
  same_renamed _ _ one e = absurd (cc)

-- ---- each stands once

pub pushed_apart : {A : Type 0} (xs : List A) (x : A) → AreApart xs → (IsIn x xs → ⊥) → AreApart (xs ++ x ∷ [])
pushed_apart xs x apart new = apart_append xs (x ∷ []) apart ((λ m. elim m [ ]), tt) other
  where
    other : (y : _) → IsIn y xs → IsIn y (x ∷ []) → ⊥
    other y i here = new i
    other y i (there j) = elim j [ ]

module _ {A : Type 0} {has : List A → A → Bool} {onto : List A → List A → List A} (g : IsGathering has onto) where
  onto_apart : (before vs : List A) → AreApart before → AreApart (onto before vs)
  onto_apart before [] apart = subst (λ (ws : List A). AreApart ws) (sym (g.ends before)) apart
  onto_apart before (v ∷ vs) apart = subst (λ (ws : List A). AreApart ws) (sym (g.goes before v vs)) (onto_apart (if has before v then before else before ++ v ∷ []) vs (by (has before v) refl))
    where
      by : (b : Bool) → has before v ≡ b → AreApart (if b then before else before ++ v ∷ [])
      by true e = apart
      by false e = pushed_apart before v apart (λ m. both_ways (has before v) e (g.finds before v m))

  -- Each item stands once in the list of a report,
  pub listed_apart : (own given old : List A) → AreApart (onto [] (filter (has old) (own ++ given) ++ old))
  listed_apart own given old = onto_apart [] (filter (has old) (own ++ given) ++ old) tt

  -- and all of the skeleton's do,
  pub listed_all : (own given old : List A) (v : A) → IsIn v old → IsIn v (onto [] (filter (has old) (own ++ given) ++ old))
  listed_all own given old v m = onto-takes g [] (filter (has old) (own ++ given) ++ old) v (in_append_right (filter (has old) (own ++ given)) m)

  -- and no others.
  pub listed_only : (own given old : List A) (v : A) → IsIn v (onto [] (filter (has old) (own ++ given) ++ old)) → IsIn v old
  listed_only own given old v m = by (onto-only g [] (filter (has old) (own ++ given) ++ old) v m)
    where
      kept : IsIn v (filter (has old) (own ++ given)) ⊎ IsIn v old → IsIn v old
      kept (inl i) = g.found old v (from_filter (has old) (own ++ given) i).1
      kept (inr i) = i

      by : IsIn v [] ⊎ IsIn v (filter (has old) (own ++ given) ++ old) → IsIn v old
      by (inl i) = elim i [ ]
      by (inr i) = kept (in_append (filter (has old) (own ++ given)) old i)

-- ---- entries that are asked one behind the other

-- What is not among these has an image that is not among theirs.
pub image_new : {A B : Type 0} {has : List B → B → Bool} {onto : List B → List B → List B} → IsGathering has onto → (image : A → B) (front : List A) (v : A) → ((w : A) → IsIn w front → image w ≡ image v → w ≡ v) → (IsIn v front → ⊥) → has (map image front) (image v) ≡ false
image_new {A} {has = has} g image front v one new = false_from_ne_true (has (map image front) (image v)) none
  where
    none : has (map image front) (image v) ≡ true → ⊥
    none h = let r = from_map image front (g.found (map image front) (image v) h) in new (subst (λ (w : A). IsIn w front) (one r.0 r.1 r.2) r.1)

-- Each entry is asked with what those before it stand for. They fit where each does behind others, and none stands twice.
module _ {A B : Type 0} (image : A → B) (form : A → Form) (inside : List B → List Form → List Place) (Good : A → Type 0) (none_left : (before : List B) → inside before [] ≡ [])
    (one_more : (front : List A) (v : A) (fs : List Form) → ((w : A) → IsIn w (v ∷ front) → Good w) → (IsIn v front → ⊥) → inside (map image front) (form v ∷ fs) ≡ inside (map image front ++ image v ∷ []) fs) where
  fit_behind : (front vs : List A) → ((w : A) → IsIn w front → Good w) → ((w : A) → IsIn w vs → Good w) → AreApart vs → ((w : A) → IsIn w front → IsIn w vs → ⊥) → inside (map image front) (map form vs) ≡ []
  fit_behind front [] good more apart other = none_left (map image front)
  fit_behind front (v ∷ vs) good more apart other =
      one_more front v (map form vs) good_both (λ m. other v m here) ∙ ap (λ (ws : List B). inside ws (map form vs)) (sym (map_push image front v))
      ∙ fit_behind (front ++ v ∷ []) vs (λ w m. pushed Good w (in_pushed front v w m) (good w) (more v here)) (λ w m. more w (there m)) apart.1
      (λ w m. pushed (λ u. IsIn u vs → ⊥) w (in_pushed front v w m) (λ i j. other w i (there j)) apart.0)
    where
      good_both : (w : A) → IsIn w (v ∷ front) → Good w
      good_both w here = more w here
      good_both w (there m) = good w m

      pushed : (P : A → Type 0) (w : A) → IsIn w front ⊎ (v ≡ w) → (IsIn w front → P w) → P v → P w
      pushed P w (inl m) f p = f m
      pushed P w (inr e) f p = subst P e p

  pub each_fits : (vs : List A) → ((w : A) → IsIn w vs → Good w) → AreApart vs → inside [] (map form vs) ≡ []
  each_fits vs good apart = fit_behind [] vs (λ v m. elim m [ ]) good apart (λ v m i. elim m [ ])

-- They are read back where each is.
pub each_read : {A B : Type 0} (image : A → B) (form : A → Form) (read : Form → B) (vs : List A) → ((v : A) → IsIn v vs → read (form v) ≡ image v) → map read (map form vs) ≡ map image vs
each_read image form read [] back = refl
each_read image form read (v ∷ vs) back = ap (λ w. w ∷ map read (map form vs)) (back v here) ∙ ap (λ ws. image v ∷ ws) (each_read image form read vs (λ w m. back w (there m)))

-- ---- values fit

module _ (s : Scope) (named : Variable → Form) (number : Variable → ℕ) (occurs : List Variable) (one : IsOneToOne number occurs)
    (stands : (x : Variable) → IsIn x occurs → StandsFor s (named x) (renamed number x)) where
  -- the variables of this are among those that occur
  abbrev Occurs : AtomTerm → Type 0
  Occurs v = (x : Variable) → IsIn x (variables_of_atom v) → IsIn x occurs

  abbrev Occur : List AtomTerm → Type 0
  Occur vs = (v : AtomTerm) → IsIn v vs → Occurs v

  fits_and_stands : (v : AtomTerm) → Occurs v → (atom_misfits s (atom_form named v) ≡ []) × (atom_in s (atom_form named v) ≡ apply_to_atom (renaming number) v)
  fits_and_stands v occur = printed_atom_fits s named number v (λ x m. stands x (occur x m))

  one_atom : (front : List AtomTerm) (v : AtomTerm) (fs : List Form) → Occur (v ∷ front) → (IsIn v front → ⊥) →
      atoms_misfits s (map (apply_to_atom (renaming number)) front) (atom_form named v ∷ fs) ≡ atoms_misfits s (map (apply_to_atom (renaming number)) front ++ apply_to_atom (renaming number) v ∷ []) fs
  one_atom front v fs occur new =
      ap (λ (xs : List Place). xs ++ atoms_misfits s (map (apply_to_atom (renaming number)) front ++ atom_in s (atom_form named v) ∷ []) fs) first
      ∙ ap (λ (w : AtomTerm). atoms_misfits s (map (apply_to_atom (renaming number)) front ++ w ∷ []) fs) printed.1
    where
      printed : (atom_misfits s (atom_form named v) ≡ []) × (atom_in s (atom_form named v) ≡ apply_to_atom (renaming number) v)
      printed = fits_and_stands v (occur v here)

      first : unless_misfit (atom_misfits s (atom_form named v)) (misfit_unless (not (has_atom (map (apply_to_atom (renaming number)) front) (atom_in s (atom_form named v)))) (place_of (atom_form named v))) ≡ []
      first =
          ap (λ (xs : List Place). unless_misfit xs (misfit_unless (not (has_atom (map (apply_to_atom (renaming number)) front) (atom_in s (atom_form named v)))) (place_of (atom_form named v)))) printed.0
          ∙ ap (λ (w : AtomTerm). misfit_unless (not (has_atom (map (apply_to_atom (renaming number)) front) w)) (place_of (atom_form named v))) printed.1
          ∙ ap (λ (b : Bool). misfit_unless (not b) (place_of (atom_form named v)))
          (image_new atoms (apply_to_atom (renaming number)) front v (λ w m. same_renamed number w v (λ x y i j. one x y (occur w (there m) x i) (occur v here y j))) new)

  -- Values that stand once each, as they are printed, fit.
  pub atoms_fit : (vs : List AtomTerm) → Occur vs → AreApart vs → atoms_misfits s [] (map (atom_form named) vs) ≡ []
  atoms_fit = each_fits (apply_to_atom (renaming number)) (atom_form named) (atoms_misfits s) Occurs (λ before. refl) one_atom

  -- They are read back under the renaming.
  pub atoms_back : (vs : List AtomTerm) → Occur vs → map (atom_in s) (map (atom_form named) vs) ≡ map (apply_to_atom (renaming number)) vs
  atoms_back vs occur = each_read (apply_to_atom (renaming number)) (atom_form named) (atom_in s) vs (λ v m. (fits_and_stands v (occur v m)).1)

pub all_atoms : (vs given : List AtomTerm) → ((v : AtomTerm) → IsIn v given → IsIn v vs) → has_atoms vs given ≡ true
all_atoms vs [] within = refl
all_atoms vs (v ∷ given) within = and_from (has_atom vs v) (has_atoms vs given) (atoms.finds vs v (within v here)) (all_atoms vs given (λ w m. within w (there m)))
