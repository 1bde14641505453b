-- The strings of the term that a proper form stands for are strings of the form, or empty where the form has a fault.
use Rattle.std.proofs.Common.{ℕ, List, [], ◌∷◌, ◌++◌, Bool, true, false, Option, Some, None, ⊎_elim}
use Rattle.cp_lists.specs.Lists.{IsIn, here, there}
use Rattle.cp_lists.proofs.Members.{in_append}
use Rattle.cp_model.specs.Term.{variable_term, KeyTerm, symmetric_term, asymmetric_term, inverse_term, text_variable, datum_variable, name_variable, key_term, Term, tag_term, atom_term, pair_term, enc_term}
use Rattle.cp_model.specs.declared.sort.Sort.{Sort}
use Rattle.cp_model.specs.declared.sort.Sort.TheVariants.{Text as text_sort, Datum as datum_sort, Name as name_sort, Skey as skey_sort, Akey as akey_sort}
use Rattle.cp_model.specs.declared.variable.Variable.{Variable}
use Rattle.cp_model.specs.declared.variable.Declaration.{Declaration}
use Rattle.cp_sexpr.specs.Syntax.{Form, symbol, string, number, list, Forms, none, more}
use Rattle.cp_language.specs.declared.words.TermHead.{TermHead}
use Rattle.cp_language.specs.declared.words.TermHead.TheVariants.{Cat as cat, Enc as encrypt, Ltk as long_term_key, Pubk as public_key, Privk as private_key, Invk as inverse_key, OutOfProfile as operation_out_of_profile, Unknown as no_operation}
use Rattle.cp_language.specs.Words.{term_head}
use Rattle.cp_language.specs.Faults.{items_of}
use Rattle.cp_language.specs.Terms.{variable_named, term_of_variable, paired, all_but_last, last_of, as_key, as_atom, long_term, inverted, key_of_name, applied, term_of, terms_of}
use Rattle.cp_printable.specs.Strings.{strings_of_key, strings_of_atom, strings_of}
use Rattle.cp_printable.specs.Proper.{IsStringText, IsProper, AreProper}

-- ---- what holds for each item of a list

abbrev pub Each : {A : Type 0} → (A → Type 0) → List A → Type 0
Each P xs = (x : _) → IsIn x xs → P x

pub each_of_none : {A : Type 0} (P : A → Type 0) → Each P []
each_of_none P x i = elim i [ ]

pub each_more : {A : Type 0} (P : A → Type 0) (x : A) (xs : List A) → P x → Each P xs → Each P (x ∷ xs)
each_more P x xs h hs y here = h
each_more P x xs h hs y (there i) = hs y i

pub each_of_both : {A : Type 0} (P : A → Type 0) (xs ys : List A) → Each P xs → Each P ys → Each P (xs ++ ys)
each_of_both P xs ys h k x i = ⊎_elim (h x) (k x) (in_append xs ys i)

-- ---- strings

-- All of these hold bytes of strings.
abbrev pub AreStrings : List (List ℕ) → Type 0
AreStrings ss = Each IsStringText ss

pub no_strings : AreStrings []
no_strings = each_of_none IsStringText

pub one_string : (t : List ℕ) → IsStringText t → AreStrings (t ∷ [])
one_string t h = each_more IsStringText t [] h no_strings

pub empty_string : AreStrings ([] ∷ [])
empty_string = one_string [] tt

pub strings_of_both : (ss ts : List (List ℕ)) → AreStrings ss → AreStrings ts → AreStrings (ss ++ ts)
strings_of_both ss ts h k = each_of_both IsStringText ss ts h k

-- ---- variables

numbered_strings : (s : Sort) (n : ℕ) → AreStrings (strings_of (variable_term (record { sort = s; number = n })))
numbered_strings text_sort n = no_strings
numbered_strings datum_sort n = no_strings
numbered_strings name_sort n = no_strings
numbered_strings skey_sort n = no_strings
numbered_strings akey_sort n = no_strings

-- A variable has no strings.
pub variable_strings : (x : Variable) → AreStrings (strings_of (variable_term x))
variable_strings x = numbered_strings x.sort x.number

variable_or_none : (o : Option Variable) → AreStrings (strings_of (term_of_variable o))
variable_or_none None = empty_string
variable_or_none (Some x) = variable_strings x

-- ---- parts of terms

pub atom_strings : (t : Term) → AreStrings (strings_of t) → AreStrings (strings_of_atom (as_atom t))
atom_strings (tag_term bytes) h = no_strings
atom_strings (atom_term a) h = h
atom_strings (pair_term a b) h = no_strings
atom_strings (enc_term a k) h = no_strings

key_strings : (t : Term) → AreStrings (strings_of t) → AreStrings (strings_of_key (as_key t))
key_strings (tag_term bytes) h = no_strings
key_strings (atom_term (text_variable n)) h = no_strings
key_strings (atom_term (datum_variable n)) h = no_strings
key_strings (atom_term (name_variable n)) h = no_strings
key_strings (atom_term (key_term k)) h = h
key_strings (pair_term a b) h = no_strings
key_strings (enc_term a k) h = no_strings

inverse_strings : (k : KeyTerm) → AreStrings (strings_of_key k) → AreStrings (strings_of_key (inverse_term k))
inverse_strings (symmetric_term k) h = h
inverse_strings (asymmetric_term flag k) h = h

-- The strings of each of these terms hold bytes of strings.
abbrev pub AllStrings : List Term → Type 0
AllStrings [] = Unit {0}
AllStrings (t ∷ ts) = AreStrings (strings_of t) × AllStrings ts

paired_strings : (ts : List Term) → AllStrings ts → AreStrings (strings_of (paired ts))
paired_strings [] h = empty_string
paired_strings (t ∷ []) h = h.0
paired_strings (t ∷ u ∷ us) h = strings_of_both (strings_of t) (strings_of (paired (u ∷ us))) h.0 (paired_strings (u ∷ us) h.1)

front_strings : (ts : List Term) → AllStrings ts → AllStrings (all_but_last ts)
front_strings [] h = tt
front_strings (t ∷ []) h = tt
front_strings (t ∷ u ∷ us) h = (h.0, front_strings (u ∷ us) h.1)

last_strings : (ts : List Term) → AllStrings ts → AreStrings (strings_of (last_of ts))
last_strings [] h = empty_string
last_strings (t ∷ []) h = h.0
last_strings (t ∷ u ∷ us) h = last_strings (u ∷ us) h.1

-- ---- by the head

long_term_strings : (ts : List Term) → AreStrings (strings_of (long_term ts))
long_term_strings [] = empty_string
long_term_strings (a ∷ []) = empty_string
long_term_strings (a ∷ b ∷ ts) = no_strings

inverted_strings : (ts : List Term) → AllStrings ts → AreStrings (strings_of (inverted ts))
inverted_strings [] h = empty_string
inverted_strings (t ∷ ts) h = inverse_strings (as_key t) (key_strings t h.0)

-- the purpose of a key of a name is a string of the form
named_strings : (private : Bool) (fs : Forms) (ts : List Term) → AreProper fs → AreStrings (strings_of (key_of_name private (items_of fs) ts))
named_strings private none [] h = empty_string
named_strings private none (a ∷ ts) h = no_strings
named_strings private (more (string p t) fs) [] h = empty_string
named_strings private (more (string p t) fs) (a ∷ []) h = empty_string
named_strings private (more (string p t) fs) (a ∷ b ∷ ts) h = one_string t h.0
named_strings private (more (symbol p t) fs) [] h = empty_string
named_strings private (more (symbol p t) fs) (a ∷ ts) h = no_strings
named_strings private (more (number p n) fs) [] h = empty_string
named_strings private (more (number p n) fs) (a ∷ ts) h = no_strings
named_strings private (more (list p gs) fs) [] h = empty_string
named_strings private (more (list p gs) fs) (a ∷ ts) h = no_strings

applied_strings : (head : TermHead) (fs : Forms) (ts : List Term) → AreProper fs → AllStrings ts → AreStrings (strings_of (applied head (items_of fs) ts))
applied_strings cat fs ts h k = paired_strings ts k
applied_strings encrypt fs ts h k =
    strings_of_both (strings_of (paired (all_but_last ts))) (strings_of_key (as_key (last_of ts)))
    (paired_strings (all_but_last ts) (front_strings ts k)) (key_strings (last_of ts) (last_strings ts k))
applied_strings long_term_key fs ts h k = long_term_strings ts
applied_strings public_key fs ts h k = named_strings false fs ts h
applied_strings private_key fs ts h k = named_strings true fs ts h
applied_strings inverse_key fs ts h k = inverted_strings ts k
applied_strings operation_out_of_profile fs ts h k = empty_string
applied_strings no_operation fs ts h k = empty_string

mutual
  -- The strings of the term of a proper form hold bytes of strings.
  pub term_strings : (ds : List Declaration) (f : Form) → IsProper f → AreStrings (strings_of (term_of ds f))
  term_strings ds (symbol at t) h = variable_or_none (variable_named ds t)
  term_strings ds (string at t) h = one_string t h
  term_strings ds (number at n) h = empty_string
  term_strings ds (list at none) h = empty_string
  term_strings ds (list at (more (symbol p t) fs)) h = applied_strings (term_head t) fs (terms_of ds fs) h.1 (all_strings ds fs h.1)
  term_strings ds (list at (more (string p t) fs)) h = empty_string
  term_strings ds (list at (more (number p n) fs)) h = empty_string
  term_strings ds (list at (more (list p gs) fs)) h = empty_string

  all_strings : (ds : List Declaration) (fs : Forms) → AreProper fs → AllStrings (terms_of ds fs)
  all_strings ds none h = tt
  all_strings ds (more f fs) h = (term_strings ds f h.0, all_strings ds fs h.1)
