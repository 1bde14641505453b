-- Terms and patterns as forms of a report.
use Rattle.std.specs.Prelude.{ℕ, suc, List, [], ◌∷◌, Bool, true, false, codes, if◌then◌else◌, Option, Some, None}
use Rattle.cp_base.specs.declared.place.Place.{Place}
use Rattle.cp_model.specs.Term.{SymmetricTerm, skey_variable, ltk_term, PairTerm, akey_variable, pubk_term, KeyTerm, symmetric_term, asymmetric_term, AtomTerm, text_variable, datum_variable, name_variable, key_term, Term, tag_term, atom_term, pair_term, enc_term, variables_of}
use Rattle.cp_model.specs.declared.sort.Sort.{Sort}
use Rattle.cp_model.specs.declared.sort.Sort.TheVariants.{Text as text_sort, Datum as datum_sort, Name as name_sort, Skey as skey_sort, Akey as akey_sort}
use Rattle.cp_model.specs.declared.variable.Variable.{Variable}
use Rattle.cp_model.specs.Tree.{Pattern}
use Rattle.cp_sexpr.specs.Syntax.{Form, symbol, string, number, list, Forms, none, more, forms_of, append}
use Rattle.cp_model.specs.Same.{has_variable}
use Rattle.cp_language.specs.Names.{sort_text}

-- The forms of a report have no places of their own.
abbrev pub no_place : Place
no_place = record { line = 1; col = 1 }

abbrev pub word : List ℕ → Form
word t = symbol no_place t

abbrev pub numeral : ℕ → Form
numeral n = number no_place n

-- A list of a head and items.
abbrev pub headed_list : List ℕ → List Form → Form
headed_list head fs = list no_place (more (word head) (forms_of fs))

abbrev pub plain_list : List Form → Form
plain_list fs = list no_place (forms_of fs)

abbrev pub variable : Sort → ℕ → Variable
variable s n = record { sort = s; number = n }

module _ (named : Variable → Form) where
  abbrev pub symmetric_form : SymmetricTerm → Form
  symmetric_form (skey_variable n) = named (variable skey_sort n)
  symmetric_form (ltk_term a b) = headed_list (codes "ltk") (named (variable name_sort a) ∷ named (variable name_sort b) ∷ [])

  abbrev pub name_items : Option (List ℕ) → ℕ → List Form
  name_items None a = named (variable name_sort a) ∷ []
  name_items (Some purpose) a = string no_place purpose ∷ named (variable name_sort a) ∷ []

  -- An inverse is `privk` of a name, and `invk` of a variable.
  abbrev pub asymmetric_form : Bool → PairTerm → Form
  asymmetric_form false (akey_variable n) = named (variable akey_sort n)
  asymmetric_form true (akey_variable n) = headed_list (codes "invk") (named (variable akey_sort n) ∷ [])
  asymmetric_form false (pubk_term purpose a) = headed_list (codes "pubk") (name_items purpose a)
  asymmetric_form true (pubk_term purpose a) = headed_list (codes "privk") (name_items purpose a)

  abbrev pub key_form : KeyTerm → Form
  key_form (symmetric_term k) = symmetric_form k
  key_form (asymmetric_term flag k) = asymmetric_form flag k

  abbrev pub atom_form : AtomTerm → Form
  atom_form (text_variable n) = named (variable text_sort n)
  atom_form (datum_variable n) = named (variable datum_sort n)
  atom_form (name_variable n) = named (variable name_sort n)
  atom_form (key_term k) = key_form k

  abbrev pub gathered : Forms → Form
  gathered none = word []
  gathered (more f none) = f
  gathered (more f (more g fs)) = list no_place (more (word (codes "cat")) (more f (more g fs)))

  -- The parts along the right spine of a pair; a term that is no pair is its only part.
  abbrev pub spine : Term → Forms
  spine (tag_term t) = more (string no_place t) none
  spine (atom_term a) = more (atom_form a) none
  spine (pair_term a b) = more (gathered (spine a)) (spine b)
  spine (enc_term a k) = more (list no_place (more (word (codes "enc")) (append (spine a) (more (key_form k) none)))) none

  -- The right spine of a pair is one `cat`; that of a plaintext is spread in its `enc`.
  abbrev pub term_form : Term → Form
  term_form t = gathered (spine t)

-- ---- patterns

abbrev pub without : List Variable → Variable → List Variable → List Variable
without seen x rest = if has_variable seen x then rest else x ∷ rest

-- The locals of a pattern in the order in which they occur, each once.
abbrev pub locals_in_order : List Variable → List Variable → List Variable → List Variable
locals_in_order locals seen [] = []
locals_in_order locals seen (x ∷ xs) =
    if has_variable locals x then without seen x (locals_in_order locals (x ∷ seen) xs) else locals_in_order locals seen xs

abbrev pub place_among : ℕ → List Variable → Variable → Option ℕ
place_among n [] x = None
place_among n (y ∷ ys) x = if has_variable (y ∷ []) x then Some n else place_among (suc n) ys x

abbrev pub local_or_name : (Variable → Form) → Variable → Option ℕ → Form
local_or_name named x None = named x
local_or_name named x (Some i) = headed_list (codes "any") (word (sort_text x.sort) ∷ numeral i ∷ [])

-- A local is `(any SORT I)`, numbered from 0 in the order of occurrence.
abbrev pub pattern_form : (Variable → Form) → Pattern → Form
pattern_form named p = term_form (λ x. local_or_name named x (place_among 0 (locals_in_order p.locals [] (variables_of p.term)) x)) p.term
