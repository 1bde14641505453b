-- Terms of the input: their faults, their sorts, and what they stand for.
use Rattle.std.specs.Prelude.{◌||◌, ℕ, zero, suc, List, [], ◌∷◌, ◌++◌, drop, Bool, true, false, if◌then◌else◌, Option, Some, None}
use Rattle.cp_base.specs.declared.place.Place.{Place}
use Rattle.cp_base.specs.declared.place.Code.TheVariants.{UnknownForm, OutOfProfile, BadShape, UnknownVar, IllSorted, KeySort, NotAtom}
use Rattle.cp_base.specs.declared.place.Refusal.{Refusal}
pub use Rattle.cp_model.specs.Term.{key_as_term}
use Rattle.cp_model.specs.Term.{variable_term, skey_variable, ltk_term, pubk_term, KeyTerm, symmetric_term, asymmetric_term, inverse_term, AtomTerm, text_variable, name_variable, key_term, Term, tag_term, atom_term, pair_term, enc_term}
use Rattle.cp_model.specs.declared.sort.Sort.{Sort}
use Rattle.cp_model.specs.declared.sort.Sort.TheVariants.{Name as name_sort, Skey as skey_sort, Akey as akey_sort}
use Rattle.cp_model.specs.declared.variable.Variable.{Variable}
use Rattle.cp_model.specs.declared.variable.Declaration.{Declaration}
use Rattle.cp_sexpr.specs.Syntax.{Form, symbol, string, number, list, Forms, none, more}
use Rattle.cp_model.specs.Same.{same_text, same_sort}
use Rattle.cp_language.specs.declared.sorts.TermSort.{TermSort}
use Rattle.cp_language.specs.declared.sorts.TermSort.TheVariants.{Atoms as of_atoms, All as of_all}
use Rattle.cp_language.specs.declared.words.TermHead.{TermHead}
use Rattle.cp_language.specs.declared.words.TermHead.TheVariants.{Cat as cat, Enc as encrypt, Ltk as long_term_key, Pubk as public_key, Privk as private_key, Invk as inverse_key, OutOfProfile as operation_out_of_profile, Unknown as no_operation}
use Rattle.cp_language.specs.Words.{term_head}
use Rattle.cp_language.specs.Faults.{fault, fault_unless, place_of, items_of}

-- ---- identifiers

-- The variable with this identifier, the first declaration of the list having number n.
abbrev pub variable_from : ℕ → List Declaration → List ℕ → Option Variable
variable_from n [] t = None
variable_from n (d ∷ ds) t = if same_text d.identifier t then Some (record { sort = d.sort; number = n }) else variable_from (suc n) ds t

abbrev pub variable_named : List Declaration → List ℕ → Option Variable
variable_named ds t = variable_from 0 ds t

-- ---- sorts

abbrev pub sort_of_variable : Option Variable → Option TermSort
sort_of_variable None = None
sort_of_variable (Some x) = Some (of_atoms x.sort)

-- A `cat` of one item has that item's sort.
abbrev pub sort_of_cat : List (Option TermSort) → Option TermSort
sort_of_cat [] = None
sort_of_cat (s ∷ []) = s
sort_of_cat (s ∷ t ∷ ss) = Some of_all

abbrev pub sort_by_head : TermHead → List (Option TermSort) → Option TermSort
sort_by_head cat sorts = sort_of_cat sorts
sort_by_head encrypt sorts = Some of_all
sort_by_head long_term_key sorts = Some (of_atoms skey_sort)
sort_by_head public_key sorts = Some (of_atoms akey_sort)
sort_by_head private_key sorts = Some (of_atoms akey_sort)
sort_by_head inverse_key sorts = Some (of_atoms akey_sort)
sort_by_head _ sorts = None

-- The sort of a term, decided by its head alone; none where it cannot be known.
abbrev mutual
  pub sort_of : List Declaration → Form → Option TermSort
  sort_of ds (symbol at t) = sort_of_variable (variable_named ds t)
  sort_of ds (string at t) = Some of_all
  sort_of ds (number at n) = None
  sort_of ds (list at none) = None
  sort_of ds (list at (more (symbol p t) fs)) = sort_by_head (term_head t) (sorts_of ds fs)
  sort_of ds (list at (more (string p t) fs)) = None
  sort_of ds (list at (more (number p n) fs)) = None
  sort_of ds (list at (more (list p gs) fs)) = None

  pub sorts_of : List Declaration → Forms → List (Option TermSort)
  sorts_of ds none = []
  sorts_of ds (more f fs) = sort_of ds f ∷ sorts_of ds fs

abbrev pub is_sort : Sort → Option TermSort → Bool
is_sort s None = true
is_sort s (Some of_all) = false
is_sort s (Some (of_atoms r)) = same_sort s r

abbrev pub admits_atom : Option TermSort → Bool
admits_atom None = true
admits_atom (Some of_all) = false
admits_atom (Some (of_atoms r)) = true

-- A term that has another sort than the one asked for; where its sort cannot be known, its own faults are answered.
abbrev pub sort_faults : List Declaration → Sort → Form → List Refusal
sort_faults ds s f = fault_unless (is_sort s (sort_of ds f)) (place_of f) IllSorted

-- An encryption key that has neither of the sorts of keys.
abbrev pub key_faults : List Declaration → Form → List Refusal
key_faults ds f = fault_unless (is_sort skey_sort (sort_of ds f) || is_sort akey_sort (sort_of ds f)) (place_of f) KeySort

-- ---- faults

-- The list lacks an item.
abbrev pub lacks : ℕ → Place → List Form → List Refusal
lacks zero at fs = []
lacks (suc n) at [] = fault at BadShape
lacks (suc n) at (f ∷ fs) = lacks n at fs

-- The list has an item too many.
abbrev pub exceeds : ℕ → List Form → List Refusal
exceeds zero [] = []
exceeds zero (f ∷ fs) = fault (place_of f) BadShape
exceeds (suc n) [] = []
exceeds (suc n) (f ∷ fs) = exceeds n fs

-- The faults of the first n items, of which each has its own.
abbrev pub first_faults : ℕ → List (List Refusal) → List Refusal
first_faults zero each = []
first_faults (suc n) [] = []
first_faults (suc n) (e ∷ es) = e ++ first_faults n es

abbrev pub all_faults : List (List Refusal) → List Refusal
all_faults [] = []
all_faults (e ∷ es) = e ++ all_faults es

-- The items have these sorts, as far as they go.
abbrev pub sorts_faults : List Declaration → List Sort → List Form → List Refusal
sorts_faults ds [] fs = []
sorts_faults ds (s ∷ ss) [] = []
sorts_faults ds (s ∷ ss) (f ∷ fs) = sort_faults ds s f ++ sorts_faults ds ss fs

-- The last item is a key.
abbrev pub last_key_faults : List Declaration → List Form → List Refusal
last_key_faults ds [] = []
last_key_faults ds (f ∷ []) = key_faults ds f
last_key_faults ds (f ∷ g ∷ fs) = last_key_faults ds (g ∷ fs)

-- An operation of as many arguments as there are sorts.
abbrev pub operation_faults : List Declaration → List Sort → Place → List Form → List (List Refusal) → List Refusal
operation_faults ds sorts at fs each =
    lacks (length_of sorts) at fs ++ first_faults (length_of sorts) each ++ sorts_faults ds sorts fs ++ exceeds (length_of sorts) fs
  where
    length_of : List Sort → ℕ
    length_of [] = zero
    length_of (s ∷ ss) = suc (length_of ss)

-- A string right after the head of a public or private key is its purpose; the name follows.
abbrev pub name_faults : List Declaration → Place → List Form → List (List Refusal) → List Refusal
name_faults ds at (string p t ∷ fs) each = operation_faults ds (name_sort ∷ []) at fs (drop 1 each)
name_faults ds at fs each = operation_faults ds (name_sort ∷ []) at fs each

-- The faults of a list with this head, whose items have these faults each.
abbrev pub applied_faults : List Declaration → Place → TermHead → List Form → List (List Refusal) → List Refusal
applied_faults ds at cat fs each = lacks 1 at fs ++ all_faults each
applied_faults ds at encrypt fs each = lacks 2 at fs ++ all_faults each ++ last_key_faults ds fs
applied_faults ds at long_term_key fs each = operation_faults ds (name_sort ∷ name_sort ∷ []) at fs each
applied_faults ds at public_key fs each = name_faults ds at fs each
applied_faults ds at private_key fs each = name_faults ds at fs each
applied_faults ds at inverse_key fs each = operation_faults ds (akey_sort ∷ []) at fs each
applied_faults ds at operation_out_of_profile fs each = fault at OutOfProfile
applied_faults ds at no_operation fs each = fault at UnknownForm

abbrev pub undeclared : Place → Option Variable → List Refusal
undeclared at None = fault at UnknownVar
undeclared at (Some x) = []

-- The faults of a term over declared variables.
abbrev mutual
  pub term_faults : List Declaration → Form → List Refusal
  term_faults ds (symbol at t) = undeclared at (variable_named ds t)
  term_faults ds (string at t) = []
  term_faults ds (number at n) = fault at BadShape
  term_faults ds (list at none) = fault at BadShape
  term_faults ds (list at (more (symbol p t) fs)) = applied_faults ds at (term_head t) (items_of fs) (each_term_faults ds fs)
  term_faults ds (list at (more (string p t) fs)) = fault at BadShape
  term_faults ds (list at (more (number p n) fs)) = fault at BadShape
  term_faults ds (list at (more (list p gs) fs)) = fault at BadShape

  -- those of each item
  pub each_term_faults : List Declaration → Forms → List (List Refusal)
  each_term_faults ds none = []
  each_term_faults ds (more f fs) = term_faults ds f ∷ each_term_faults ds fs

-- The faults of an item of an assumption: it has the sort of an atom.
abbrev pub atom_faults : List Declaration → Form → List Refusal
atom_faults ds f = fault_unless (admits_atom (sort_of ds f)) (place_of f) NotAtom ++ term_faults ds f

-- ---- what terms stand for, where they have no fault

abbrev pub term_of_variable : Option Variable → Term
term_of_variable None = tag_term []
term_of_variable (Some x) = variable_term x

-- Pairing associates to the right; one item is that item.
abbrev pub paired : List Term → Term
paired [] = tag_term []
paired (t ∷ []) = t
paired (t ∷ u ∷ us) = pair_term t (paired (u ∷ us))

abbrev pub all_but_last : List Term → List Term
all_but_last [] = []
all_but_last (t ∷ []) = []
all_but_last (t ∷ u ∷ us) = t ∷ all_but_last (u ∷ us)

abbrev pub last_of : List Term → Term
last_of [] = tag_term []
last_of (t ∷ []) = t
last_of (t ∷ u ∷ us) = last_of (u ∷ us)

abbrev pub as_key : Term → KeyTerm
as_key (atom_term (key_term k)) = k
as_key _ = symmetric_term (skey_variable 0)

abbrev pub as_name : Term → ℕ
as_name (atom_term (name_variable n)) = n
as_name _ = 0

abbrev pub as_atom : Term → AtomTerm
as_atom (atom_term a) = a
as_atom _ = text_variable 0

abbrev pub long_term : List Term → Term
long_term (a ∷ b ∷ ts) = key_as_term (symmetric_term (ltk_term (as_name a) (as_name b)))
long_term _ = tag_term []

abbrev pub inverted : List Term → Term
inverted (k ∷ ts) = key_as_term (inverse_term (as_key k))
inverted _ = tag_term []

-- The public or private key of a name, with the purpose if a string stands first.
abbrev pub key_of_name : Bool → List Form → List Term → Term
key_of_name private (string p t ∷ fs) (s ∷ a ∷ ts) = key_as_term (asymmetric_term private (pubk_term (Some t) (as_name a)))
key_of_name private (string p t ∷ fs) _ = tag_term []
key_of_name private fs (a ∷ ts) = key_as_term (asymmetric_term private (pubk_term None (as_name a)))
key_of_name private fs [] = tag_term []

abbrev pub applied : TermHead → List Form → List Term → Term
applied cat fs ts = paired ts
applied encrypt fs ts = enc_term (paired (all_but_last ts)) (as_key (last_of ts))
applied long_term_key fs ts = long_term ts
applied public_key fs ts = key_of_name false fs ts
applied private_key fs ts = key_of_name true fs ts
applied inverse_key fs ts = inverted ts
applied operation_out_of_profile fs ts = tag_term []
applied no_operation fs ts = tag_term []

abbrev mutual
  pub term_of : List Declaration → Form → Term
  term_of ds (symbol at t) = term_of_variable (variable_named ds t)
  term_of ds (string at t) = tag_term t
  term_of ds (number at n) = tag_term []
  term_of ds (list at none) = tag_term []
  term_of ds (list at (more (symbol p t) fs)) = applied (term_head t) (items_of fs) (terms_of ds fs)
  term_of ds (list at (more (string p t) fs)) = tag_term []
  term_of ds (list at (more (number p n) fs)) = tag_term []
  term_of ds (list at (more (list p gs) fs)) = tag_term []

  pub terms_of : List Declaration → Forms → List Term
  terms_of ds none = []
  terms_of ds (more f fs) = term_of ds f ∷ terms_of ds fs
