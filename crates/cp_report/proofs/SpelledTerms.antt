-- A term in the spelling of a report fits, and stands for the term under the renaming of its variables.
use Rattle.std.proofs.Common.{◌≡◌, ℕ, List, [], ◌∷◌, ◌++◌, true, false, refl, sym, ◌∙◌, ap}
use Rattle.std.specs.Prelude.{◌+◌, length, Bool, Some, None, codes}
use Rattle.cp_base.specs.declared.place.Place.{Place}
use Rattle.cp_lists.specs.Lists.{IsIn, here, there}
use Rattle.cp_lists.proofs.Members.{in_append_left, in_append_right}
use Rattle.cp_lists.proofs.Appended.{none_in_both, none_before, none_and}
use Rattle.cp_model.proofs.SameTests.{same_sort_itself}
use Rattle.cp_model.specs.Term.{variable_term, SymmetricTerm, skey_variable, ltk_term, PairTerm, akey_variable, pubk_term, KeyTerm, symmetric_term, asymmetric_term, AtomTerm, text_variable, datum_variable, name_variable, key_term, Term, tag_term, atom_term, pair_term, enc_term, variables_of_symmetric, variables_of_pair, variables_of_key, variables_of_atom, variables_of, inverse_term, apply_to, apply_to_atom, apply_to_key}
use Rattle.cp_model.specs.Bindings.{sort_of_atom}
use Rattle.cp_model.specs.declared.sort.Sort.{Sort}
use Rattle.cp_model.specs.declared.sort.Sort.TheVariants.{Name as name_sort, Skey as skey_sort, Akey as akey_sort, Text as text_sort, Datum as datum_sort}
use Rattle.cp_model.specs.declared.variable.Variable.{Variable}
use Rattle.cp_model.specs.declared.variable.Declaration.{Declaration}
use Rattle.cp_model.specs.Same.{same_sort}
use Rattle.cp_sexpr.specs.Syntax.{Form, symbol, string, list, Forms, none, more, append}
use Rattle.cp_language.specs.Problems.{is_known}
use Rattle.cp_language.specs.declared.sorts.TermSort.TheVariants.{Atoms as of_atoms}
use Rattle.cp_language.specs.Terms.{variable_named, sort_of_variable, is_sort, admits_atom, as_atom, key_of_name, paired, as_key, as_name, key_as_term, term_of_variable, all_but_last, last_of}
use Rattle.cp_language.specs.Roles.{front_of, last_form}
use Rattle.cp_language.specs.Faults.{place_of, items_of}
use Rattle.cp_language.specs.Names.{sort_text}
use Rattle.cp_language.specs.Printed.{word, numeral, headed_list, no_place, variable, symmetric_form, asymmetric_form, key_form, atom_form, gathered, spine, term_form}
use Rattle.cp_report.specs.Misfits.{misfit_unless, lacking, all_misfits}
use Rattle.cp_report.specs.Heads.{has_head}
use Rattle.cp_report.specs.Spelled.{Scope, place_of_local, value_misfits, atom_misfits, atom_in, term_misfits, each_term_misfits, variable_misfits, name_misfits, spread_misfits, key_misfits, last_key_misfits, is_found_of_sort, known_or, sort_in, term_in, terms_in}
use Rattle.cp_report.specs.UpToNames.{renamed, renaming}

-- What is used of a form that stands for a variable.
pub record StandsFor (s : Scope) (f : Form) (y : Variable) : Type 0 where
  pub fits : term_misfits s f ≡ []
  pub term : term_in s f ≡ variable_term y
  pub as_variable : variable_misfits s y.sort f ≡ []
  pub sort : sort_in s f ≡ Some (of_atoms y.sort)
  pub no_cat : has_head (codes "cat" ∷ []) f ≡ false
  pub name : (at : Place) → name_misfits s at (f ∷ []) ≡ variable_misfits s name_sort f ++ []
  pub key_of : (private : Bool) (t : Term) → key_of_name private (f ∷ []) (t ∷ []) ≡ key_as_term (asymmetric_term private (pubk_term None (as_name t)))

-- ---- items along a spine

-- The items of a spine fit, none of them is a `cat` at the end, and paired they are the term.
pub record Spells (s : Scope) (fs : Forms) (t : Term) : Type 0 where
  pub fit : all_misfits (each_term_misfits s fs) ≡ []
  pub spread : spread_misfits (last_form (items_of fs)) ≡ []
  pub term : paired (terms_in s fs) ≡ t

-- One item.
spells_one : (s : Scope) (f : Form) (t : Term) → term_misfits s f ≡ [] → has_head (codes "cat" ∷ []) f ≡ false → term_in s f ≡ t → Spells s (more f none) t
spells_one s f t e n r = record { fit = none_and _ _ e refl; spread = spread n; term = r }
  where
    spread : has_head (codes "cat" ∷ []) f ≡ false → spread_misfits (Some f) ≡ []
    spread g = let h : has_head (codes "cat" ∷ []) f ≡ false = g in rw h refl

-- Items gathered to one form fit, and that form stands for what they are paired.
gathered_fits : (s : Scope) (named : Variable → Form) (f : Form) (fs : Forms) (t : Term) → Spells s (more f fs) t → term_misfits s (gathered named (more f fs)) ≡ []
gathered_fits s named f none t h = none_before (term_misfits s f) [] h.fit
gathered_fits s named f (more g fs) t h = none_and _ _ h.fit h.spread

gathered_term : (s : Scope) (named : Variable → Form) (f : Form) (fs : Forms) → term_in s (gathered named (more f fs)) ≡ paired (terms_in s (more f fs))
gathered_term s named f none = refl
gathered_term s named f (more g fs) = refl

-- An item in front of others.
spells_pair : (s : Scope) (g f : Form) (fs : Forms) (t u : Term) → term_misfits s g ≡ [] → term_in s g ≡ t → Spells s (more f fs) u → Spells s (more g (more f fs)) (pair_term t u)
spells_pair s g f fs t u e r h = record {
  fit = none_and _ _ e h.fit;
  spread = h.spread;
  term = ap (λ v. pair_term v (paired (terms_in s (more f fs)))) r ∙ ap (pair_term t) h.term;
}

-- ---- a key behind items

items_behind_key : (fs : Forms) (k : Form) → items_of (append fs (more k none)) ≡ items_of fs ++ k ∷ []
items_behind_key none k = refl
items_behind_key (more f fs) k = ap (λ xs. f ∷ xs) (items_behind_key fs k)

misfits_with_key : (s : Scope) (fs : Forms) (k : Form) → all_misfits (each_term_misfits s fs) ≡ [] → term_misfits s k ≡ [] → all_misfits (each_term_misfits s (append fs (more k none))) ≡ []
misfits_with_key s none k e f = none_and _ _ f refl
misfits_with_key s (more g fs) k e f =
    let parts = none_in_both (term_misfits s g) (all_misfits (each_term_misfits s fs)) e in none_and _ _ parts.0 (misfits_with_key s fs k parts.1 f)

terms_with_key : (s : Scope) (fs : Forms) (k : Form) → terms_in s (append fs (more k none)) ≡ terms_in s fs ++ term_in s k ∷ []
terms_with_key s none k = refl
terms_with_key s (more f fs) k = ap (λ ts. term_in s f ∷ ts) (terms_with_key s fs k)

front_before_last : (xs : List Form) (x : Form) → front_of (xs ++ x ∷ []) ≡ xs
front_before_last [] x = refl
front_before_last (y ∷ []) x = refl
front_before_last (y ∷ z ∷ xs) x = ap (λ ys. y ∷ ys) (front_before_last (z ∷ xs) x)

last_behind : (xs : List Form) (x : Form) → last_form (xs ++ x ∷ []) ≡ Some x
last_behind [] x = refl
last_behind (y ∷ []) x = refl
last_behind (y ∷ z ∷ xs) x = last_behind (z ∷ xs) x

terms_before_last : (ts : List Term) (t : Term) → all_but_last (ts ++ t ∷ []) ≡ ts
terms_before_last [] t = refl
terms_before_last (u ∷ []) t = refl
terms_before_last (u ∷ v ∷ ts) t = ap (λ us. u ∷ us) (terms_before_last (v ∷ ts) t)

last_term_behind : (ts : List Term) (t : Term) → last_of (ts ++ t ∷ []) ≡ t
last_term_behind [] t = refl
last_term_behind (u ∷ []) t = refl
last_term_behind (u ∷ v ∷ ts) t = last_term_behind (v ∷ ts) t

-- two items or more
enough_items : (at : Place) (xs : List Form) (f k : Form) → lacking 2 at (f ∷ (xs ++ k ∷ [])) ≡ []
enough_items at [] f k = refl
enough_items at (x ∷ xs) f k = refl

-- ---- keys and atoms

-- A form that fits and stands for this atom.
pub record AtomFits (s : Scope) (f : Form) (v : AtomTerm) : Type 0 where
  pub fits : term_misfits s f ≡ []
  pub term : term_in s f ≡ atom_term v
  pub sort : sort_in s f ≡ Some (of_atoms (sort_of_atom v))
  pub no_cat : has_head (codes "cat" ∷ []) f ≡ false

-- A form that fits as a key.
pub record KeyFits (s : Scope) (f : Form) (k : KeyTerm) : Type 0 where
  pub atom : AtomFits s f (key_term k)
  pub key : key_misfits s f ≡ []

-- A variable that is an atom.
of_variable : (s : Scope) (f : Form) (y : Variable) (v : AtomTerm) → variable_term y ≡ atom_term v → sort_of_atom v ≡ y.sort → StandsFor s f y → AtomFits s f v
of_variable s f y v is sorted h = record { fits = h.fits; term = h.term ∙ is; sort = h.sort ∙ ap (λ r. Some (of_atoms r)) (sym sorted); no_cat = h.no_cat }

-- A key of its own head, part by part.
own_key : {s : Scope} {f : Form} {k : KeyTerm} → term_misfits s f ≡ [] → term_in s f ≡ atom_term (key_term k) → sort_in s f ≡ Some (of_atoms (sort_of_atom (key_term k))) → has_head (codes "cat" ∷ []) f ≡ false → key_misfits s f ≡ [] → KeyFits s f k
own_key fits term sort no_cat key = record { atom = record { fits = fits; term = term; sort = sort; no_cat = no_cat }; key = key }

key_of_skey : (s : Scope) (f : Form) (n : ℕ) → StandsFor s f (variable skey_sort n) → KeyFits s f (symmetric_term (skey_variable n))
key_of_skey s f n h = record { atom = of_variable s f (variable skey_sort n) (key_term (symmetric_term (skey_variable n))) refl refl h; key = rw h.sort refl }

key_of_akey : (s : Scope) (f : Form) (n : ℕ) → StandsFor s f (variable akey_sort n) → KeyFits s f (asymmetric_term false (akey_variable n))
key_of_akey s f n h = record { atom = of_variable s f (variable akey_sort n) (key_term (asymmetric_term false (akey_variable n))) refl refl h; key = rw h.sort refl }

module _ (s : Scope) (named : Variable → Form) (number : Variable → ℕ) where
  abbrev Stands : List Variable → Type 0
  Stands xs = (x : Variable) → IsIn x xs → StandsFor s (named x) (renamed number x)

  symmetric_fits : (k : SymmetricTerm) → Stands (variables_of_symmetric k) → KeyFits s (symmetric_form named k) (apply_to_key (renaming number) (symmetric_term k))
  symmetric_fits (skey_variable n) h = key_of_skey s (named (variable skey_sort n)) (number (variable skey_sort n)) (h (variable skey_sort n) here)
  symmetric_fits (ltk_term a b) h =
      let x = h (variable name_sort a) here in let y = h (variable name_sort b) (there here) in record {
        atom = record {
          fits = none_and _ _ x.as_variable (none_and _ _ y.as_variable refl);
          term = ap (λ t. key_as_term (symmetric_term (ltk_term (as_name t) (as_name (term_in s (named (variable name_sort b))))))) x.term
              ∙ ap (λ t. key_as_term (symmetric_term (ltk_term (number (variable name_sort a)) (as_name t)))) y.term;
          sort = refl;
          no_cat = refl;
        };
        key = refl;
      }

  named_key_fits : (flag : Bool) (a : ℕ) → StandsFor s (named (variable name_sort a)) (renamed number (variable name_sort a)) →
      KeyFits s (asymmetric_form named flag (pubk_term None a)) (apply_to_key (renaming number) (asymmetric_term flag (pubk_term None a)))
  named_key_fits false a x =
      own_key (x.name no_place ∙ none_and _ _ x.as_variable refl) (x.key_of false (term_in s (named (variable name_sort a))) ∙ ap (λ u. key_as_term (asymmetric_term false (pubk_term None (as_name u)))) x.term) refl refl refl
  named_key_fits true a x =
      own_key (x.name no_place ∙ none_and _ _ x.as_variable refl) (x.key_of true (term_in s (named (variable name_sort a))) ∙ ap (λ u. key_as_term (asymmetric_term true (pubk_term None (as_name u)))) x.term) refl refl refl

  asymmetric_fits : (flag : Bool) (k : PairTerm) → Stands (variables_of_pair k) → KeyFits s (asymmetric_form named flag k) (apply_to_key (renaming number) (asymmetric_term flag k))
  asymmetric_fits false (akey_variable n) h = key_of_akey s (named (variable akey_sort n)) (number (variable akey_sort n)) (h (variable akey_sort n) here)
  asymmetric_fits true (akey_variable n) h =
      let x = h (variable akey_sort n) here in record {
        atom = record { fits = none_and _ _ x.as_variable refl; term = ap (λ t. key_as_term (inverse_term (as_key t))) x.term; sort = refl; no_cat = refl };
        key = refl;
      }
  asymmetric_fits false (pubk_term None a) h = named_key_fits false a (h (variable name_sort a) here)
  asymmetric_fits true (pubk_term None a) h = named_key_fits true a (h (variable name_sort a) here)
  asymmetric_fits false (pubk_term (Some t) a) h =
      let x = h (variable name_sort a) here in record {
        atom = record { fits = none_and _ _ x.as_variable refl; term = ap (λ u. key_as_term (asymmetric_term false (pubk_term (Some t) (as_name u)))) x.term; sort = refl; no_cat = refl };
        key = refl;
      }
  asymmetric_fits true (pubk_term (Some t) a) h =
      let x = h (variable name_sort a) here in record {
        atom = record { fits = none_and _ _ x.as_variable refl; term = ap (λ u. key_as_term (asymmetric_term true (pubk_term (Some t) (as_name u)))) x.term; sort = refl; no_cat = refl };
        key = refl;
      }

  key_fits : (k : KeyTerm) → Stands (variables_of_key k) → KeyFits s (key_form named k) (apply_to_key (renaming number) k)
  key_fits (symmetric_term k) h = symmetric_fits k h
  key_fits (asymmetric_term flag k) h = asymmetric_fits flag k h

  pub atom_fits : (v : AtomTerm) → Stands (variables_of_atom v) → AtomFits s (atom_form named v) (apply_to_atom (renaming number) v)
  atom_fits (text_variable n) h = of_variable s (named (variable text_sort n)) (renamed number (variable text_sort n)) (text_variable (number (variable text_sort n))) refl refl (h (variable text_sort n) here)
  atom_fits (datum_variable n) h = of_variable s (named (variable datum_sort n)) (renamed number (variable datum_sort n)) (datum_variable (number (variable datum_sort n))) refl refl (h (variable datum_sort n) here)
  atom_fits (name_variable n) h = of_variable s (named (variable name_sort n)) (renamed number (variable name_sort n)) (name_variable (number (variable name_sort n))) refl refl (h (variable name_sort n) here)
  atom_fits (key_term k) h = (key_fits k h).atom

  -- The items of an encryption.
  enc_fits : (f k : Form) (fs : Forms) (t : Term) (key : KeyTerm) → Spells s (more f fs) t → KeyFits s k key →
      Spells s (more (list no_place (more (word (codes "enc")) (append (more f fs) (more k none)))) none) (enc_term t key)
  enc_fits f k fs t key h e = spells_one s _ _ fits refl value
    where
      items : items_of (append (more f fs) (more k none)) ≡ items_of (more f fs) ++ k ∷ []
      items = items_behind_key (more f fs) k

      spread : spread_misfits (last_form (front_of (items_of (append (more f fs) (more k none))))) ≡ []
      spread = ap (λ xs. spread_misfits (last_form (front_of xs))) items ∙ ap (λ xs. spread_misfits (last_form xs)) (front_before_last (items_of (more f fs)) k) ∙ h.spread

      keyed : last_key_misfits s (last_form (items_of (append (more f fs) (more k none)))) ≡ []
      keyed = ap (λ xs. last_key_misfits s (last_form xs)) items ∙ ap (last_key_misfits s) (last_behind (items_of (more f fs)) k) ∙ e.key

      enough : lacking 2 no_place (items_of (append (more f fs) (more k none))) ≡ []
      enough = ap (lacking 2 no_place) items ∙ enough_items no_place (items_of fs) f k

      fits : term_misfits s (list no_place (more (word (codes "enc")) (append (more f fs) (more k none)))) ≡ []
      fits = none_and _ _ (none_and _ _ (none_and _ _ enough (misfits_with_key s (more f fs) k h.fit e.atom.fits)) spread) keyed

      terms : terms_in s (append (more f fs) (more k none)) ≡ terms_in s (more f fs) ++ term_in s k ∷ []
      terms = terms_with_key s (more f fs) k

      body : paired (all_but_last (terms_in s (append (more f fs) (more k none)))) ≡ t
      body = ap (λ ts. paired (all_but_last ts)) terms ∙ ap paired (terms_before_last (terms_in s (more f fs)) (term_in s k)) ∙ h.term

      last : as_key (last_of (terms_in s (append (more f fs) (more k none)))) ≡ key
      last = ap (λ ts. as_key (last_of ts)) terms ∙ ap as_key (last_term_behind (terms_in s (more f fs)) (term_in s k)) ∙ ap as_key e.atom.term

      value : term_in s (list no_place (more (word (codes "enc")) (append (more f fs) (more k none)))) ≡ enc_term t key
      value = ap (λ u. enc_term u (as_key (last_of (terms_in s (append (more f fs) (more k none)))))) body ∙ ap (enc_term t) last

  -- ---- terms

  -- The items of a term's spine, of which there is one, spell the term under the renaming.
  record SpellsTerm (t : Term) : Type 0 where
    first : Form
    rest : Forms
    shape : spine named t ≡ more first rest
    spells : Spells s (more first rest) (apply_to (renaming number) t)

  spelled : (t : Term) → Stands (variables_of t) → SpellsTerm t
  spelled (tag_term bytes) h = record { first = _; rest = _; shape = refl; spells = spells_one s (string no_place bytes) (tag_term bytes) refl refl refl }
  spelled (atom_term v) h =
      let a = atom_fits v h in record { first = _; rest = _; shape = refl; spells = spells_one s (atom_form named v) (atom_term (apply_to_atom (renaming number) v)) a.fits a.no_cat a.term }
  spelled (pair_term a b) h =
      let p = spelled a (λ x m. h x (in_append_left (variables_of b) m)) in let q = spelled b (λ x m. h x (in_append_right (variables_of a) m)) in record {
        first = gathered named (more p.first p.rest);
        rest = more q.first q.rest;
        shape = ap (λ fs. more (gathered named fs) (spine named b)) p.shape ∙ ap (more (gathered named (more p.first p.rest))) q.shape;
        spells = spells_pair s (gathered named (more p.first p.rest)) q.first q.rest _ _ (gathered_fits s named p.first p.rest _ p.spells)
            (gathered_term s named p.first p.rest ∙ p.spells.term) q.spells;
      }
  spelled (enc_term a k) h =
      let p = spelled a (λ x m. h x (in_append_left (variables_of_key k) m)) in let e = key_fits k (λ x m. h x (in_append_right (variables_of a) m)) in record {
        first = list no_place (more (word (codes "enc")) (append (more p.first p.rest) (more (key_form named k) none)));
        rest = none;
        shape = ap (λ fs. more (list no_place (more (word (codes "enc")) (append fs (more (key_form named k) none)))) none) p.shape;
        spells = enc_fits p.first (key_form named k) p.rest _ _ p.spells e;
      }

  -- A term as it is printed fits, and stands for the term under the renaming.
  pub printed_term_fits : (t : Term) → Stands (variables_of t) → (term_misfits s (term_form named t) ≡ []) × (term_in s (term_form named t) ≡ apply_to (renaming number) t)
  printed_term_fits t h =
      let p = spelled t h in (
        ap (λ fs. term_misfits s (gathered named fs)) p.shape ∙ gathered_fits s named p.first p.rest _ p.spells,
        ap (λ fs. term_in s (gathered named fs)) p.shape ∙ gathered_term s named p.first p.rest ∙ p.spells.term,
      )

  -- An atom as it is printed fits as an atom, and as a value of its sort.
  pub printed_atom_fits : (v : AtomTerm) → Stands (variables_of_atom v) → (atom_misfits s (atom_form named v) ≡ []) × (atom_in s (atom_form named v) ≡ apply_to_atom (renaming number) v)
  printed_atom_fits v h =
      let a = atom_fits v h in
      (none_and _ _ (ap (λ o. misfit_unless (admits_atom o) (place_of (atom_form named v))) a.sort) a.fits, ap as_atom a.term)

  pub printed_value_fits : (v : AtomTerm) (x : Variable) → Stands (variables_of_atom v) → sort_of_atom (apply_to_atom (renaming number) v) ≡ x.sort → value_misfits s (Some x) (atom_form named v) ≡ []
  printed_value_fits v x h e =
      let a = atom_fits v h in
      none_and _ _ (ap (λ o. misfit_unless (is_sort x.sort o) (place_of (atom_form named v))) a.sort ∙ ap (λ r. misfit_unless (same_sort x.sort r) (place_of (atom_form named v))) e
      ∙ ap (λ b. misfit_unless b (place_of (atom_form named v))) (same_sort_itself x.sort)) a.fits

-- ---- identifiers

-- An identifier that is declared stands for its variable.
pub identifier_stands : (s : Scope) (at : Place) (t : List ℕ) (y : Variable) → variable_named s.variables t ≡ Some y → StandsFor s (symbol at t) y
identifier_stands s at t y e = record {
  fits = ap (λ o. misfit_unless (is_known o) at) e;
  term = ap term_of_variable e;
  as_variable = ap (λ o. misfit_unless (is_found_of_sort y.sort o) at) e ∙ ap (λ b. misfit_unless b at) (same_sort_itself y.sort);
  sort = ap (λ o. known_or (sort_of_variable o) None) e;
  no_cat = refl;
  name = λ p. refl;
  key_of = λ private u. refl;
}

-- ---- locals

-- A local stands for its variable in a pattern.
pub local_stands : (ds : List Declaration) (ls : List Variable) (r : Sort) (i : ℕ) →
    StandsFor (record { variables = ds; in_pattern = true; locals = ls }) (headed_list (codes "any") (word (sort_text r) ∷ numeral i ∷ [])) (variable r (length ds + place_of_local ls i))
local_stands ds ls text_sort i = record { fits = refl; term = refl; as_variable = refl; sort = refl; no_cat = refl; name = λ p. refl; key_of = λ private u. refl }
local_stands ds ls datum_sort i = record { fits = refl; term = refl; as_variable = refl; sort = refl; no_cat = refl; name = λ p. refl; key_of = λ private u. refl }
local_stands ds ls name_sort i = record { fits = refl; term = refl; as_variable = refl; sort = refl; no_cat = refl; name = λ p. refl; key_of = λ private u. refl }
local_stands ds ls skey_sort i = record { fits = refl; term = refl; as_variable = refl; sort = refl; no_cat = refl; name = λ p. refl; key_of = λ private u. refl }
local_stands ds ls akey_sort i = record { fits = refl; term = refl; as_variable = refl; sort = refl; no_cat = refl; name = λ p. refl; key_of = λ private u. refl }
