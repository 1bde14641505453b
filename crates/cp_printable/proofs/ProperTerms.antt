-- What is printed of a term is proper, where what is printed of its variables and its strings are.
use Rattle.std.proofs.Common.{List, Bool, true, false, refl}
use Rattle.std.specs.Prelude.{ℕ, Option, Some, None, codes}
use Rattle.cp_lists.specs.Lists.{IsIn, here, there}
use Rattle.cp_lists.proofs.Members.{in_append_left, in_append_right}
use Rattle.cp_model.specs.Term.{SymmetricTerm, skey_variable, ltk_term, PairTerm, akey_variable, pubk_term, KeyTerm, symmetric_term, asymmetric_term, AtomTerm, text_variable, datum_variable, name_variable, key_term, Term, tag_term, atom_term, pair_term, enc_term, variables_of_symmetric, variables_of_pair, variables_of_key, variables_of_atom, variables_of}
use Rattle.cp_model.specs.declared.sort.Sort.TheVariants.{Name as name_sort, Skey as skey_sort, Akey as akey_sort, Text as text_sort, Datum as datum_sort}
use Rattle.cp_model.specs.declared.variable.Variable.{Variable}
use Rattle.cp_sexpr.specs.Syntax.{Form, Forms, none, more}
use Rattle.cp_language.specs.Printed.{variable, symmetric_form, name_items, asymmetric_form, key_form, atom_form, gathered, spine, term_form}
use Rattle.cp_printable.specs.Strings.{strings_of_purpose, strings_of_pair, strings_of_key, strings_of}
use Rattle.cp_printable.specs.Proper.{IsStringText, IsProper, AreProper}
use Rattle.cp_printable.specs.Spelled.{IsSpelledTerm, IsSpelledAtom}
use Rattle.cp_printable.proofs.ProperWords.{proper_word, proper_last, AreProperForms}

-- These strings may stand in quotes.
abbrev pub AreStringTexts : List (List ℕ) → Type 0
AreStringTexts ts = (t : List ℕ) → IsIn t ts → IsStringText t

-- there is an item
abbrev IsSome : Forms → Type 0
IsSome none = ⊥
IsSome (more f fs) = Unit {0}

module _ (named : Variable → Form) where
  -- What is printed of these variables is proper.
  abbrev pub AreNamed : List Variable → Type 0
  AreNamed xs = (x : Variable) → IsIn x xs → IsProper (named x)

  proper_symmetric : (k : SymmetricTerm) → AreNamed (variables_of_symmetric k) → IsProper (symmetric_form named k)
  proper_symmetric (skey_variable n) h = h (variable skey_sort n) here
  proper_symmetric (ltk_term a b) h = (proper_word (codes "ltk") refl, (h (variable name_sort a) here, (h (variable name_sort b) (there here), tt)))

  proper_name : (purpose : Option (List ℕ)) (a : ℕ) → IsProper (named (variable name_sort a)) → AreStringTexts (strings_of_purpose purpose) → AreProperForms (name_items named purpose a)
  proper_name None a p s = (p, tt)
  proper_name (Some t) a p s = (s t here, (p, tt))

  proper_half : (flag : Bool) (k : PairTerm) → AreNamed (variables_of_pair k) → AreStringTexts (strings_of_pair k) → IsProper (asymmetric_form named flag k)
  proper_half false (akey_variable n) h s = h (variable akey_sort n) here
  proper_half true (akey_variable n) h s = (proper_word (codes "invk") refl, (h (variable akey_sort n) here, tt))
  proper_half false (pubk_term purpose a) h s = (proper_word (codes "pubk") refl, proper_name purpose a (h (variable name_sort a) here) s)
  proper_half true (pubk_term purpose a) h s = (proper_word (codes "privk") refl, proper_name purpose a (h (variable name_sort a) here) s)

  proper_key : (k : KeyTerm) → AreNamed (variables_of_key k) → AreStringTexts (strings_of_key k) → IsProper (key_form named k)
  proper_key (symmetric_term k) h s = proper_symmetric k h
  proper_key (asymmetric_term flag k) h s = proper_half flag k h s

  pub proper_atom : (v : AtomTerm) → AreNamed (variables_of_atom v) → IsSpelledAtom IsStringText v → IsProper (atom_form named v)
  proper_atom (text_variable n) h s = h (variable text_sort n) here
  proper_atom (datum_variable n) h s = h (variable datum_sort n) here
  proper_atom (name_variable n) h s = h (variable name_sort n) here
  proper_atom (key_term k) h s = proper_key k h s

  -- ---- terms

  -- a spine has an item
  spine_is_some : (t : Term) → IsSome (spine named t)
  spine_is_some (tag_term t) = tt
  spine_is_some (atom_term a) = tt
  spine_is_some (pair_term a b) = tt
  spine_is_some (enc_term a k) = tt

  proper_gathered : (fs : Forms) → IsSome fs → AreProper fs → IsProper (gathered named fs)
  proper_gathered none some p = absurd some
  proper_gathered (more f none) some p = p.0
  proper_gathered (more f (more g fs)) some p = (proper_word (codes "cat") refl, p)

  proper_spine : (t : Term) → AreNamed (variables_of t) → IsSpelledTerm IsStringText t → AreProper (spine named t)
  proper_spine (tag_term t) h s = (s t here, tt)
  proper_spine (atom_term a) h s = (proper_atom a h s, tt)
  proper_spine (pair_term a b) h s = (
    proper_gathered (spine named a) (spine_is_some a) (proper_spine a (λ x m. h x (in_append_left (variables_of b) m)) (λ t m. s t (in_append_left (strings_of b) m))),
    proper_spine b (λ x m. h x (in_append_right (variables_of a) m)) (λ t m. s t (in_append_right (strings_of a) m)),
  )
  proper_spine (enc_term a k) h s = (
    (
      proper_word (codes "enc") refl,
      proper_last (spine named a) (key_form named k) (proper_spine a (λ x m. h x (in_append_left (variables_of_key k) m)) (λ t m. s t (in_append_left (strings_of_key k) m)))
          (proper_key k (λ x m. h x (in_append_right (variables_of a) m)) (λ t m. s t (in_append_right (strings_of a) m))),
    ),
    tt,
  )

  pub proper_term : (t : Term) → AreNamed (variables_of t) → IsSpelledTerm IsStringText t → IsProper (term_form named t)
  proper_term t h s = proper_gathered (spine named t) (spine_is_some t) (proper_spine t h s)
