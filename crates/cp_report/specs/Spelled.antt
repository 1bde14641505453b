-- Terms and patterns as a report spells them: where they do not fit, and what they stand for.
use Rattle.std.specs.Prelude.{◌==◌, ◌&&◌, ◌||◌, ℕ, suc, ◌+◌, List, [], ◌∷◌, ◌++◌, length, map, Bool, true, false, not, codes, if◌then◌else◌, Option, Some, None}
use Rattle.cp_base.specs.declared.place.Place.{Place}
use Rattle.cp_model.specs.Term.{AtomTerm, Term, tag_term}
use Rattle.cp_model.specs.declared.sort.Sort.{Sort}
use Rattle.cp_model.specs.declared.sort.Sort.TheVariants.{Name as name_sort, Skey as skey_sort, Akey as akey_sort}
use Rattle.cp_model.specs.declared.variable.Variable.{Variable}
use Rattle.cp_model.specs.declared.variable.Declaration.{Declaration}
use Rattle.cp_model.specs.Tree.{Pattern}
use Rattle.cp_model.specs.Same.{same_text, same_sort}
use Rattle.cp_sexpr.specs.Syntax.{Form, symbol, string, number, list, Forms, none, more}
use Rattle.cp_language.specs.declared.words.SortWord.{SortWord}
use Rattle.cp_language.specs.declared.words.SortWord.TheVariants.{Atoms as of_sort}
use Rattle.cp_language.specs.declared.words.TermHead.{TermHead}
use Rattle.cp_language.specs.declared.words.TermHead.TheVariants.{Cat as cat, Enc as encrypt, Ltk as long_term_key, Pubk as public_key, Privk as private_key, Invk as inverse_key, OutOfProfile as operation_out_of_profile, Unknown as no_operation}
use Rattle.cp_language.specs.Words.{sort_word, term_head}
use Rattle.cp_language.specs.Faults.{place_of, items_of}
use Rattle.cp_language.specs.declared.sorts.TermSort.{TermSort}
use Rattle.cp_language.specs.declared.sorts.TermSort.TheVariants.{Atoms as of_atoms, All as of_all}
use Rattle.cp_language.specs.Terms.{variable_named, sort_of_variable, is_sort, admits_atom, term_of_variable, as_atom, applied}
use Rattle.cp_language.specs.Roles.{front_of, last_form}
use Rattle.cp_language.specs.Problems.{is_known}
use Rattle.cp_report.specs.declared.locals.LocalAt.{LocalAt}
use Rattle.cp_report.specs.Misfits.{misfit, misfit_unless, unless_misfit, lacking, all_misfits, entries_misfits, symbol_misfits, any_number_misfits}
use Rattle.cp_report.specs.Heads.{has_head, forms_after_head}

-- ---- variables and locals

-- What may stand where a variable may: the variables of a label form by their identifiers, and in a pattern its locals,
-- each with the sort and the number that `(any SORT I)` states.
pub record Scope : Type 0 where
  pub variables : List Declaration
  pub in_pattern : Bool
  pub locals : List Variable

abbrev pub plain_scope : List Declaration → Scope
plain_scope ds = record { variables = ds; in_pattern = false; locals = [] }

abbrev pub sort_or_none : SortWord → Option Sort
sort_or_none (of_sort s) = Some s
sort_or_none _ = None

-- The symbol names one of the five sorts.
abbrev pub names_sort : List ℕ → Bool
names_sort t = is_known (sort_or_none (sort_word t))

abbrev pub local_with : Option Sort → Form → Option Variable
local_with (Some s) (number p n) = Some (record { sort = s; number = n })
local_with _ _ = None

abbrev pub local_by : List Form → Option Variable
local_by (symbol p t ∷ f ∷ []) = local_with (sort_or_none (sort_word t)) f
local_by _ = None

-- The form is headed as a local.
abbrev pub is_any : Form → Bool
is_any f = has_head (codes "any" ∷ []) f

-- The local that a form states, if it states one.
abbrev pub local_of : Form → Option Variable
local_of f = if is_any f then local_by (forms_after_head f) else None

-- At which place of the list this number stands first.
abbrev pub place_of_local : List Variable → ℕ → ℕ
place_of_local [] n = 0
place_of_local (l ∷ ls) n = if l.number == n then 0 else suc (place_of_local ls n)

-- The locals are numbered behind the variables, in the order in which they occur.
abbrev pub variable_of_local : Scope → Option Variable → Option Variable
variable_of_local s None = None
variable_of_local s (Some l) = Some (record { sort = l.sort; number = length s.variables + place_of_local s.locals l.number })

-- The form is headed as a local where one may stand.
abbrev pub is_local : Scope → Form → Bool
is_local s f = is_any f && s.in_pattern

-- The variable that a form stands for: an identifier that is declared, or in a pattern a local.
abbrev pub variable_in : Scope → Form → Option Variable
variable_in s (symbol at t) = variable_named s.variables t
variable_in s f = if is_local s f then variable_of_local s (local_by (forms_after_head f)) else None

-- ---- sorts

abbrev pub sort_of_head : TermHead → Option TermSort
sort_of_head cat = Some of_all
sort_of_head encrypt = Some of_all
sort_of_head long_term_key = Some (of_atoms skey_sort)
sort_of_head public_key = Some (of_atoms akey_sort)
sort_of_head private_key = Some (of_atoms akey_sort)
sort_of_head inverse_key = Some (of_atoms akey_sort)
sort_of_head operation_out_of_profile = None
sort_of_head no_operation = None

abbrev pub sort_by_shape : Form → Option TermSort
sort_by_shape (string at t) = Some of_all
sort_by_shape (list at (more (symbol p t) fs)) = sort_of_head (term_head t)
sort_by_shape _ = None

abbrev pub known_or : Option TermSort → Option TermSort → Option TermSort
known_or None other = other
known_or (Some s) other = Some s

-- The sort of a term, by its head alone; none where it cannot be known, and then something in it does not fit.
abbrev pub sort_in : Scope → Form → Option TermSort
sort_in s f = known_or (sort_of_variable (variable_in s f)) (sort_by_shape f)

abbrev pub sort_misfits : Scope → Sort → Form → List Place
sort_misfits s r f = misfit_unless (is_sort r (sort_in s f)) (place_of f)

abbrev pub key_misfits : Scope → Form → List Place
key_misfits s f = misfit_unless (is_sort skey_sort (sort_in s f) || is_sort akey_sort (sort_in s f)) (place_of f)

-- ---- where terms do not fit

-- `(any SORT I)`, behind its head.
abbrev pub local_misfits : Place → List Form → List Place
local_misfits at fs = entries_misfits (symbol_misfits names_sort ∷ any_number_misfits ∷ []) at fs

abbrev pub is_found_of_sort : Sort → Option Variable → Bool
is_found_of_sort r None = false
is_found_of_sort r (Some x) = same_sort r x.sort

-- A variable of this sort has to stand here.
abbrev pub variable_misfits : Scope → Sort → Form → List Place
variable_misfits s r f =
    unless_misfit (if is_local s f then local_misfits (place_of f) (forms_after_head f) else []) (misfit_unless (is_found_of_sort r (variable_in s f)) (place_of f))

-- Variables of these sorts have to stand behind the head.
abbrev pub variables_misfits : Scope → List Sort → Place → List Form → List Place
variables_misfits s sorts at fs = entries_misfits (map (variable_misfits s) sorts) at fs

-- A string right behind the head of a public or private key is its purpose; the name follows.
abbrev pub name_misfits : Scope → Place → List Form → List Place
name_misfits s at (string p t ∷ fs) = variables_misfits s (name_sort ∷ []) at fs
name_misfits s at fs = variables_misfits s (name_sort ∷ []) at fs

-- The right spine of a pair is one `cat`, and that of a plaintext is spread: no `cat` stands last.
abbrev pub spread_misfits : Option Form → List Place
spread_misfits None = []
spread_misfits (Some f) = misfit_unless (not (has_head (codes "cat" ∷ []) f)) (place_of f)

abbrev pub last_key_misfits : Scope → Option Form → List Place
last_key_misfits s None = []
last_key_misfits s (Some f) = key_misfits s f

-- A list with this head, whose items have these misfits each.
abbrev pub applied_misfits : Scope → Place → TermHead → List Form → List (List Place) → List Place
applied_misfits s at cat fs each = lacking 2 at fs ++ all_misfits each ++ spread_misfits (last_form fs)
applied_misfits s at encrypt fs each = lacking 2 at fs ++ all_misfits each ++ spread_misfits (last_form (front_of fs)) ++ last_key_misfits s (last_form fs)
applied_misfits s at long_term_key fs each = variables_misfits s (name_sort ∷ name_sort ∷ []) at fs
applied_misfits s at public_key fs each = name_misfits s at fs
applied_misfits s at private_key fs each = name_misfits s at fs
applied_misfits s at inverse_key fs each = variables_misfits s (akey_sort ∷ []) at fs
applied_misfits s at operation_out_of_profile fs each = misfit at
applied_misfits s at no_operation fs each = misfit at

-- Where a form is no term in the spelling of a report: the least forms that do not fit.
abbrev mutual
  pub term_misfits : Scope → Form → List Place
  term_misfits s (symbol at t) = misfit_unless (is_known (variable_named s.variables t)) at
  term_misfits s (string at t) = []
  term_misfits s (number at n) = misfit at
  term_misfits s (list at none) = misfit at
  term_misfits s (list at (more (symbol p t) fs)) =
      if same_text t (codes "any") && s.in_pattern then local_misfits at (items_of fs)
      else applied_misfits s at (term_head t) (items_of fs) (each_term_misfits s fs)
  term_misfits s (list at (more (string p t) fs)) = misfit at
  term_misfits s (list at (more (number p n) fs)) = misfit at
  term_misfits s (list at (more (list p gs) fs)) = misfit at

  -- those of each item
  pub each_term_misfits : Scope → Forms → List (List Place)
  each_term_misfits s none = []
  each_term_misfits s (more f fs) = term_misfits s f ∷ each_term_misfits s fs

-- A term of this sort.
abbrev pub value_misfits : Scope → Option Variable → Form → List Place
value_misfits s None f = term_misfits s f
value_misfits s (Some x) f = sort_misfits s x.sort f ++ term_misfits s f

-- A term of the sort of an atom.
abbrev pub atom_misfits : Scope → Form → List Place
atom_misfits s f = misfit_unless (admits_atom (sort_in s f)) (place_of f) ++ term_misfits s f

-- ---- what terms stand for, where they fit

abbrev mutual
  pub term_in : Scope → Form → Term
  term_in s (symbol at t) = term_of_variable (variable_named s.variables t)
  term_in s (string at t) = tag_term t
  term_in s (number at n) = tag_term []
  term_in s (list at none) = tag_term []
  term_in s (list at (more (symbol p t) fs)) =
      if same_text t (codes "any") && s.in_pattern then term_of_variable (variable_of_local s (local_by (items_of fs)))
      else applied (term_head t) (items_of fs) (terms_in s fs)
  term_in s (list at (more (string p t) fs)) = tag_term []
  term_in s (list at (more (number p n) fs)) = tag_term []
  term_in s (list at (more (list p gs) fs)) = tag_term []

  pub terms_in : Scope → Forms → List Term
  terms_in s none = []
  terms_in s (more f fs) = term_in s f ∷ terms_in s fs

abbrev pub atom_in : Scope → Form → AtomTerm
atom_in s f = as_atom (term_in s f)

-- ---- patterns

abbrev pub local_at : Place → Option Variable → List LocalAt
local_at at None = []
local_at at (Some l) = record { place = at; local = l } ∷ []

-- The locals of a form in the order of the text, each as often as it stands.
abbrev mutual
  pub locals_in : Form → List LocalAt
  locals_in (symbol at t) = []
  locals_in (string at t) = []
  locals_in (number at n) = []
  locals_in (list at fs) = local_at at (local_of (list at fs)) ++ locals_in_each fs

  pub locals_in_each : Forms → List LocalAt
  locals_in_each none = []
  locals_in_each (more f fs) = locals_in f ++ locals_in_each fs

-- The local has the sort with which its number stood first.
abbrev pub keeps_sort : List Variable → Variable → Bool
keeps_sort [] l = true
keeps_sort (m ∷ ms) l = if m.number == l.number then same_sort m.sort l.sort else keeps_sort ms l

-- One number is one local, with one sort.
abbrev pub clash_misfits : List Variable → List LocalAt → List Place
clash_misfits before [] = []
clash_misfits before (l ∷ ls) = misfit_unless (keeps_sort before l.local) l.place ++ clash_misfits (before ++ l.local ∷ []) ls

abbrev pub has_local : List Variable → ℕ → Bool
has_local [] n = false
has_local (l ∷ ls) n = (l.number == n) || has_local ls n

-- Behind those that stood before, the locals whose numbers did not stand yet.
abbrev pub locals_onto : List Variable → List LocalAt → List Variable
locals_onto before [] = before
locals_onto before (l ∷ ls) = locals_onto (if has_local before l.local.number then before else before ++ l.local ∷ []) ls

abbrev pub pattern_scope : List Declaration → Form → Scope
pattern_scope ds f = record { variables = ds; in_pattern = true; locals = locals_onto [] (locals_in f) }

-- A pattern is an encryption, in which a local may stand wherever a variable may.
abbrev pub pattern_misfits : List Declaration → Form → List Place
pattern_misfits ds f = misfit_unless (has_head (codes "enc" ∷ []) f) (place_of f) ++ term_misfits (pattern_scope ds f) f ++ clash_misfits [] (locals_in f)

-- The locals as variables, the first of them with number n.
abbrev pub variables_of_locals : ℕ → List Variable → List Variable
variables_of_locals n [] = []
variables_of_locals n (l ∷ ls) = record { sort = l.sort; number = n } ∷ variables_of_locals (suc n) ls

abbrev pub pattern_of : List Declaration → Form → Pattern
pattern_of ds f = record { term = term_in (pattern_scope ds f) f; locals = variables_of_locals (length ds) (pattern_scope ds f).locals }
