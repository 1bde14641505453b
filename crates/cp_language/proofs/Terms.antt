-- A term of the input that has no fault is of the sort that its head says, and its variables are declared.
use Rattle.std.proofs.Common.{◌≡◌, ℕ, suc, ◌+◌, List, [], ◌∷◌, ◌++◌, Bool, true, false, ◌||◌, not, Option, Some, None, refl, sym, ap, subst, arith, ⊎_elim, if◌then◌else◌}
use Rattle.std.proofs.lemmas.Bool.{or_cases}
use Rattle.cp_base.specs.declared.place.Place.{Place}
use Rattle.cp_base.specs.declared.place.Code.{Code}
use Rattle.cp_base.specs.declared.place.Code.TheVariants.{BadShape, IllSorted, KeySort}
use Rattle.cp_base.specs.declared.place.Refusal.{Refusal}
use Rattle.cp_lists.specs.Lists.{item_at, IsIn, here, there}
use Rattle.cp_model.specs.Term.{variable_term, SymmetricTerm, skey_variable, ltk_term, PairTerm, akey_variable, pubk_term, symmetric_term, asymmetric_term, inverse_term, text_variable, datum_variable, name_variable, key_term, Term, tag_term, atom_term, enc_term, variables_of_key, variables_of}
use Rattle.cp_model.specs.declared.sort.Sort.{Sort}
use Rattle.cp_model.specs.declared.sort.Sort.TheVariants.{Text as text_sort, Datum as datum_sort, Name as name_sort, Skey as skey_sort, Akey as akey_sort}
use Rattle.cp_model.specs.declared.variable.Variable.{Variable}
use Rattle.cp_model.specs.declared.variable.Declaration.{Declaration}
use Rattle.cp_model.specs.Problem.{declared_sort, IsDeclared}
use Rattle.cp_lists.proofs.Members.{in_append}
use Rattle.cp_lists.proofs.Appended.{none_before, none_behind, none_of_three, none_of_four}
use Rattle.cp_sexpr.specs.Syntax.{Form, symbol, string, number, list, Forms, none, more}
use Rattle.cp_model.specs.Same.{same_text}
use Rattle.cp_language.specs.declared.words.TermHead.{TermHead}
use Rattle.cp_language.specs.declared.words.TermHead.TheVariants.{Cat as cat, Enc as encrypt, Ltk as long_term_key, Pubk as public_key, Privk as private_key, Invk as inverse_key, OutOfProfile as operation_out_of_profile, Unknown as no_operation}
use Rattle.cp_language.specs.Words.{term_head}
use Rattle.cp_language.specs.Faults.{fault, fault_unless, place_of, items_of}
use Rattle.cp_language.specs.declared.sorts.TermSort.{TermSort}
use Rattle.cp_language.specs.declared.sorts.TermSort.TheVariants.{Atoms as of_atoms, All as of_all}
use Rattle.cp_language.specs.Terms.{variable_from, variable_named, sort_of_variable, sort_of_cat, sort_by_head, sort_of, sorts_of, is_sort, sort_faults, lacks, first_faults, all_faults, last_key_faults, operation_faults, name_faults, applied_faults, undeclared, term_faults, each_term_faults, term_of_variable, paired, all_but_last, last_of, as_key, as_name, key_as_term, long_term, inverted, key_of_name, applied, term_of, terms_of}
use Rattle.cp_model.proofs.SameTests.{sort_is}

-- ---- no fault in two lists of faults is none in each

pub holds : (b : Bool) (at : Place) (c : Code) → fault_unless b at c ≡ [] → b ≡ true
holds true at c e = refl
holds false at c e = absurd (cc)

-- ---- declared variables

-- All of these variables are declared.
abbrev pub AreDeclared : List Declaration → List Variable → Type 0
AreDeclared ds xs = (x : Variable) → IsIn x xs → IsDeclared ds x

pub none_declared : (ds : List Declaration) → AreDeclared ds []
none_declared ds x p = elim p [ ]

pub one_declared : (ds : List Declaration) (x : Variable) → IsDeclared ds x → AreDeclared ds (x ∷ [])
one_declared ds x d y here = d
one_declared ds x d y (there p) = elim p [ ]

pub both_declared : (ds : List Declaration) (xs ys : List Variable) → AreDeclared ds xs → AreDeclared ds ys → AreDeclared ds (xs ++ ys)
both_declared ds xs ys p q x i = ⊎_elim (p x) (q x) (in_append xs ys i)

-- a variable with an identifier is declared at its number
found_from : (n : ℕ) (ds : List Declaration) (t : List ℕ) (x : Variable) → variable_from n ds t ≡ Some x → (i : ℕ) × (x.number ≡ n + i) × (declared_sort (item_at ds i) ≡ Some x.sort)
found_from n [] t x e = absurd (cc)
found_from n (d ∷ ds) t x e = of (same_text d.identifier t) e (found_from (suc n) ds t x)
  where
    of : (b : Bool) → (if b then Some (record { sort = d.sort; number = n }) else variable_from (suc n) ds t) ≡ Some x →
        (variable_from (suc n) ds t ≡ Some x → (i : ℕ) × (x.number ≡ suc n + i) × (declared_sort (item_at ds i) ≡ Some x.sort)) →
        (i : ℕ) × (x.number ≡ n + i) × (declared_sort (item_at (d ∷ ds) i) ≡ Some x.sort)
    of true at later =
        let p : record { sort = d.sort; number = n } ≡ x = cc in
        let q : n ≡ x.number = ap (λ (y : Variable). y.number) p in
        (0, omega arith, ap (λ (y : Variable). Some y.sort) p)
    of false at later =
        let r = later at in
        let q : x.number ≡ suc n + r.0 = r.1 in
        (suc r.0, omega arith, r.2)

pub named_is_declared : (ds : List Declaration) (t : List ℕ) (x : Variable) → variable_named ds t ≡ Some x → IsDeclared ds x
named_is_declared ds t x e =
    let r = found_from 0 ds t x e in
    let q : x.number ≡ 0 + r.0 = r.1 in
    let p : r.0 ≡ x.number = omega arith in
    subst (λ (i : ℕ). declared_sort (item_at ds i) ≡ Some x.sort) p r.2

-- ---- terms of a sort

-- The term is an atom of this sort.
abbrev pub IsOfSort : Sort → Term → Type 0
IsOfSort text_sort t = (n : ℕ) × (t ≡ atom_term (text_variable n))
IsOfSort datum_sort t = (n : ℕ) × (t ≡ atom_term (datum_variable n))
IsOfSort name_sort t = (n : ℕ) × (t ≡ atom_term (name_variable n))
IsOfSort skey_sort t = (k : SymmetricTerm) × (t ≡ atom_term (key_term (symmetric_term k)))
IsOfSort akey_sort t = (flag : Bool) × (k : PairTerm) × (t ≡ atom_term (key_term (asymmetric_term flag k)))

of_sort_numbered : (s : Sort) (n : ℕ) → IsOfSort s (variable_term (record { sort = s; number = n }))
of_sort_numbered text_sort n = (n, refl)
of_sort_numbered datum_sort n = (n, refl)
of_sort_numbered name_sort n = (n, refl)
of_sort_numbered skey_sort n = (skey_variable n, refl)
of_sort_numbered akey_sort n = (false, akey_variable n, refl)

pub variable_of_sort : (x : Variable) → IsOfSort x.sort (variable_term x)
variable_of_sort x = of_sort_numbered x.sort x.number

declared_numbered : (ds : List Declaration) (s : Sort) (n : ℕ) → IsDeclared ds (record { sort = s; number = n }) → AreDeclared ds (variables_of (variable_term (record { sort = s; number = n })))
declared_numbered ds text_sort n d = one_declared ds (record { sort = text_sort; number = n }) d
declared_numbered ds datum_sort n d = one_declared ds (record { sort = datum_sort; number = n }) d
declared_numbered ds name_sort n d = one_declared ds (record { sort = name_sort; number = n }) d
declared_numbered ds skey_sort n d = one_declared ds (record { sort = skey_sort; number = n }) d
declared_numbered ds akey_sort n d = one_declared ds (record { sort = akey_sort; number = n }) d

pub variable_declared : (ds : List Declaration) (x : Variable) → IsDeclared ds x → AreDeclared ds (variables_of (variable_term x))
variable_declared ds x d = declared_numbered ds x.sort x.number d

-- A term with declared variables that is of this sort; the sort is known.
pub record IsSound (ds : List Declaration) (sort : Option TermSort) (t : Term) : Type 0 where
  pub declared : AreDeclared ds (variables_of t)
  pub sorted : (s : Sort) → sort ≡ Some (of_atoms s) → IsOfSort s t
  pub known : sort ≡ None → ⊥

-- a term that is no atom
pub compound_is_sound : (ds : List Declaration) (t : Term) → AreDeclared ds (variables_of t) → IsSound ds (Some of_all) t
compound_is_sound ds t d = record { declared = d; sorted = λ s e. absurd (cc); known = λ e. cc }

pub atom_is_sound : (ds : List Declaration) (s : Sort) (t : Term) → AreDeclared ds (variables_of t) → IsOfSort s t → IsSound ds (Some (of_atoms s)) t
atom_is_sound ds s t d o = record { declared = d; sorted = λ r e. let p : s ≡ r = cc in subst (λ x. IsOfSort x t) p o; known = λ e. cc }

-- A sound term whose sort passes the test is of that sort.
pub sound_of_sort : (ds : List Declaration) (s : Sort) (o : Option TermSort) (t : Term) → IsSound ds o t → is_sort s o ≡ true → IsOfSort s t
sound_of_sort ds s None t h e = absurd (h.known refl)
sound_of_sort ds s (Some of_all) t h e = absurd (cc)
sound_of_sort ds s (Some (of_atoms r)) t h e = subst (λ x. IsOfSort x t) (sym (sort_is s r e)) (h.sorted r refl)

-- ---- the parts of operations

name_declared : (ds : List Declaration) (o : Option TermSort) (t : Term) → IsSound ds o t → is_sort name_sort o ≡ true → IsDeclared ds (record { sort = name_sort; number = as_name t })
name_declared ds o t h e =
    let n = sound_of_sort ds name_sort o t h e in
    subst (λ x. IsDeclared ds (record { sort = name_sort; number = as_name x })) (sym n.1)
    (subst (λ x. AreDeclared ds (variables_of x)) n.1 h.declared (record { sort = name_sort; number = n.0 }) here)

pub key_declared : (ds : List Declaration) (o : Option TermSort) (t : Term) → IsSound ds o t → (is_sort skey_sort o || is_sort akey_sort o) ≡ true → AreDeclared ds (variables_of_key (as_key t))
key_declared ds o t h e = ⊎_elim symmetric asymmetric (or_cases (is_sort skey_sort o) (is_sort akey_sort o) e)
  where
    symmetric : is_sort skey_sort o ≡ true → AreDeclared ds (variables_of_key (as_key t))
    symmetric p =
        let k = sound_of_sort ds skey_sort o t h p in
        subst (λ x. AreDeclared ds (variables_of_key (as_key x))) (sym k.1) (subst (λ x. AreDeclared ds (variables_of x)) k.1 h.declared)

    asymmetric : is_sort akey_sort o ≡ true → AreDeclared ds (variables_of_key (as_key t))
    asymmetric p =
        let k = sound_of_sort ds akey_sort o t h p in
        subst (λ x. AreDeclared ds (variables_of_key (as_key x))) (sym k.2) (subst (λ x. AreDeclared ds (variables_of x)) k.2 h.declared)

inverse_of_sort : (ds : List Declaration) (o : Option TermSort) (t : Term) → IsSound ds o t → is_sort akey_sort o ≡ true → IsSound ds (Some (of_atoms akey_sort)) (key_as_term (inverse_term (as_key t)))
inverse_of_sort ds o t h p =
    let k = sound_of_sort ds akey_sort o t h p in
    subst (λ x. IsSound ds (Some (of_atoms akey_sort)) (key_as_term (inverse_term (as_key x)))) (sym k.2)
    (atom_is_sound ds akey_sort (atom_term (key_term (asymmetric_term (not k.0) k.1))) (subst (λ x. AreDeclared ds (variables_of x)) k.2 h.declared) (not k.0, k.1, refl))

-- All of these terms have declared variables.
abbrev pub AllDeclared : List Declaration → List Term → Type 0
AllDeclared ds [] = Unit {0}
AllDeclared ds (t ∷ ts) = AreDeclared ds (variables_of t) × AllDeclared ds ts

pub paired_declared : (ds : List Declaration) (ts : List Term) → AllDeclared ds ts → AreDeclared ds (variables_of (paired ts))
paired_declared ds [] h = none_declared ds
paired_declared ds (t ∷ []) h = h.0
paired_declared ds (t ∷ u ∷ us) h = both_declared ds (variables_of t) (variables_of (paired (u ∷ us))) h.0 (paired_declared ds (u ∷ us) h.1)

pub front_declared : (ds : List Declaration) (ts : List Term) → AllDeclared ds ts → AllDeclared ds (all_but_last ts)
front_declared ds [] h = tt
front_declared ds (t ∷ []) h = tt
front_declared ds (t ∷ u ∷ us) h = (h.0, front_declared ds (u ∷ us) h.1)

-- ---- by the head

-- Each item without faults is sound.
abbrev AreSound : List Declaration → Forms → Type 0
AreSound ds none = Unit {0}
AreSound ds (more f fs) = (term_faults ds f ≡ [] → IsSound ds (sort_of ds f) (term_of ds f)) × AreSound ds fs

all_declared : (ds : List Declaration) (fs : Forms) → AreSound ds fs → all_faults (each_term_faults ds fs) ≡ [] → AllDeclared ds (terms_of ds fs)
all_declared ds none h e = tt
all_declared ds (more f fs) h e = (
  (h.0 (none_before (term_faults ds f) (all_faults (each_term_faults ds fs)) e)).declared,
  all_declared ds fs h.1 (none_behind (term_faults ds f) (all_faults (each_term_faults ds fs)) e),
)

last_key_declared : (ds : List Declaration) (f : Form) (fs : Forms) → AreSound ds (more f fs) → all_faults (each_term_faults ds (more f fs)) ≡ [] →
    last_key_faults ds (items_of (more f fs)) ≡ [] → AreDeclared ds (variables_of_key (as_key (last_of (terms_of ds (more f fs)))))
last_key_declared ds f none h e k =
    key_declared ds (sort_of ds f) (term_of ds f) (h.0 (none_before (term_faults ds f) [] e)) (holds (is_sort skey_sort (sort_of ds f) || is_sort akey_sort (sort_of ds f)) (place_of f) KeySort k)
last_key_declared ds f (more g gs) h e k = last_key_declared ds g gs h.1 (none_behind (term_faults ds f) (all_faults (each_term_faults ds (more g gs))) e) k

cat_is_sound : (ds : List Declaration) (at : Place) (fs : Forms) → AreSound ds fs → lacks 1 at (items_of fs) ++ all_faults (each_term_faults ds fs) ≡ [] → IsSound ds (sort_of_cat (sorts_of ds fs)) (paired (terms_of ds fs))
cat_is_sound ds at none h e = absurd (cc)
cat_is_sound ds at (more f none) h e = h.0 (none_before (term_faults ds f) [] e)
cat_is_sound ds at (more f (more g gs)) h e =
    compound_is_sound ds (paired (terms_of ds (more f (more g gs)))) (paired_declared ds (terms_of ds (more f (more g gs))) (all_declared ds (more f (more g gs)) h e))

encryption_is_sound : (ds : List Declaration) (at : Place) (fs : Forms) → AreSound ds fs →
    lacks 2 at (items_of fs) ++ all_faults (each_term_faults ds fs) ++ last_key_faults ds (items_of fs) ≡ [] →
    IsSound ds (Some of_all) (enc_term (paired (all_but_last (terms_of ds fs))) (as_key (last_of (terms_of ds fs))))
encryption_is_sound ds at none h e = absurd (cc)
encryption_is_sound ds at (more f fs) h e =
    let p = none_of_three (lacks 2 at (items_of (more f fs))) (all_faults (each_term_faults ds (more f fs))) (last_key_faults ds (items_of (more f fs))) e in
    compound_is_sound ds (enc_term (paired (all_but_last (terms_of ds (more f fs)))) (as_key (last_of (terms_of ds (more f fs)))))
    (both_declared ds (variables_of (paired (all_but_last (terms_of ds (more f fs))))) (variables_of_key (as_key (last_of (terms_of ds (more f fs)))))
    (paired_declared ds (all_but_last (terms_of ds (more f fs))) (front_declared ds (terms_of ds (more f fs)) (all_declared ds (more f fs) h p.1)))
    (last_key_declared ds f fs h p.1 p.2))

-- what an operation of one argument says of it
pub record IsOne (ds : List Declaration) (s : Sort) (f : Form) : Type 0 where
  pub faultless : term_faults ds f ≡ []
  pub sorted : is_sort s (sort_of ds f) ≡ true

sort_holds : (ds : List Declaration) (s : Sort) (f : Form) → sort_faults ds s f ≡ [] → is_sort s (sort_of ds f) ≡ true
sort_holds ds s f e = holds (is_sort s (sort_of ds f)) (place_of f) IllSorted e

one_argument : (ds : List Declaration) (s : Sort) (at : Place) (f : Form) → operation_faults ds (s ∷ []) at (f ∷ []) (term_faults ds f ∷ []) ≡ [] → IsOne ds s f
one_argument ds s at f e =
    let p = none_of_four [] (term_faults ds f ++ []) (sort_faults ds s f ++ []) [] e in
    record { faultless = none_before (term_faults ds f) [] p.1; sorted = sort_holds ds s f (none_before (sort_faults ds s f) [] p.2) }

two_arguments : (ds : List Declaration) (s r : Sort) (at : Place) (f g : Form) → operation_faults ds (s ∷ r ∷ []) at (f ∷ g ∷ []) (term_faults ds f ∷ term_faults ds g ∷ []) ≡ [] → IsOne ds s f × IsOne ds r g
two_arguments ds s r at f g e =
    let p = none_of_four [] (term_faults ds f ++ (term_faults ds g ++ [])) (sort_faults ds s f ++ (sort_faults ds r g ++ [])) [] e in
    let q = none_behind (term_faults ds f) (term_faults ds g ++ []) p.1 in
    let u = none_behind (sort_faults ds s f) (sort_faults ds r g ++ []) p.2 in (
      record { faultless = none_before (term_faults ds f) (term_faults ds g ++ []) p.1; sorted = sort_holds ds s f (none_before (sort_faults ds s f) (sort_faults ds r g ++ []) p.2) },
      record { faultless = none_before (term_faults ds g) [] q; sorted = sort_holds ds r g (none_before (sort_faults ds r g) [] u) },
    )

-- there are as many arguments as the operation has
no_more_than_one : (ds : List Declaration) (s : Sort) (at : Place) (f g : Form) (fs : List Form) (each : List (List Refusal)) → operation_faults ds (s ∷ []) at (f ∷ g ∷ fs) each ≡ [] → ⊥
no_more_than_one ds s at f g fs each e =
    let p = none_of_four [] (first_faults 1 each) (sort_faults ds s f ++ []) (fault (place_of g) BadShape) e in
    let q = p.3 in cc

no_more_than_two : (ds : List Declaration) (s r : Sort) (at : Place) (f g h : Form) (fs : List Form) (each : List (List Refusal)) → operation_faults ds (s ∷ r ∷ []) at (f ∷ g ∷ h ∷ fs) each ≡ [] → ⊥
no_more_than_two ds s r at f g h fs each e =
    let p = none_of_four [] (first_faults 2 each) (sort_faults ds s f ++ (sort_faults ds r g ++ [])) (fault (place_of h) BadShape) e in
    let q = p.3 in cc

no_fewer_than_two : (ds : List Declaration) (s r : Sort) (at : Place) (f : Form) (each : List (List Refusal)) → operation_faults ds (s ∷ r ∷ []) at (f ∷ []) each ≡ [] → ⊥
no_fewer_than_two ds s r at f each e =
    let p = none_of_four (fault at BadShape) (first_faults 2 each) (sort_faults ds s f ++ []) [] e in
    let q = p.0 in cc

no_fewer_than_one : (ds : List Declaration) (s : Sort) (at : Place) (each : List (List Refusal)) → operation_faults ds (s ∷ []) at [] each ≡ [] → ⊥
no_fewer_than_one ds s at each e =
    let p = none_of_four (fault at BadShape) (first_faults 1 each) [] [] e in
    let q = p.0 in cc

two_names_declared : (ds : List Declaration) (a b : ℕ) → IsDeclared ds (record { sort = name_sort; number = a }) → IsDeclared ds (record { sort = name_sort; number = b }) →
    AreDeclared ds (record { sort = name_sort; number = a } ∷ record { sort = name_sort; number = b } ∷ [])
two_names_declared ds a b p q = both_declared ds (record { sort = name_sort; number = a } ∷ []) (record { sort = name_sort; number = b } ∷ []) (one_declared ds (record { sort = name_sort; number = a }) p) (one_declared ds (record { sort = name_sort; number = b }) q)

long_term_is_sound : (ds : List Declaration) (at : Place) (fs : Forms) → AreSound ds fs → operation_faults ds (name_sort ∷ name_sort ∷ []) at (items_of fs) (each_term_faults ds fs) ≡ [] →
    IsSound ds (Some (of_atoms skey_sort)) (long_term (terms_of ds fs))
long_term_is_sound ds at none h e = absurd (cc)
long_term_is_sound ds at (more f none) h e = absurd (no_fewer_than_two ds name_sort name_sort at f (each_term_faults ds (more f none)) e)
long_term_is_sound ds at (more f (more g none)) h e =
    let p = two_arguments ds name_sort name_sort at f g e in
    let a = name_declared ds (sort_of ds f) (term_of ds f) (h.0 p.0.faultless) p.0.sorted in
    let b = name_declared ds (sort_of ds g) (term_of ds g) (h.1.0 p.1.faultless) p.1.sorted in
    atom_is_sound ds skey_sort (long_term (terms_of ds (more f (more g none)))) (two_names_declared ds (as_name (term_of ds f)) (as_name (term_of ds g)) a b) (ltk_term (as_name (term_of ds f)) (as_name (term_of ds g)), refl)
long_term_is_sound ds at (more f (more g (more i fs))) h e = absurd (no_more_than_two ds name_sort name_sort at f g i (items_of fs) (each_term_faults ds (more f (more g (more i fs)))) e)

inverse_is_sound : (ds : List Declaration) (at : Place) (fs : Forms) → AreSound ds fs → operation_faults ds (akey_sort ∷ []) at (items_of fs) (each_term_faults ds fs) ≡ [] →
    IsSound ds (Some (of_atoms akey_sort)) (inverted (terms_of ds fs))
inverse_is_sound ds at none h e = absurd (no_fewer_than_one ds akey_sort at [] e)
inverse_is_sound ds at (more f none) h e =
    let p = one_argument ds akey_sort at f e in
    inverse_of_sort ds (sort_of ds f) (term_of ds f) (h.0 p.faultless) p.sorted
inverse_is_sound ds at (more f (more g fs)) h e = absurd (no_more_than_one ds akey_sort at f g (items_of fs) (each_term_faults ds (more f (more g fs))) e)

-- the key of a name, for a purpose or none
key_of_name_is_sound : (ds : List Declaration) (private : Bool) (purpose : Option (List ℕ)) (at : Place) (f : Form) → (term_faults ds f ≡ [] → IsSound ds (sort_of ds f) (term_of ds f)) →
    operation_faults ds (name_sort ∷ []) at (f ∷ []) (term_faults ds f ∷ []) ≡ [] →
    IsSound ds (Some (of_atoms akey_sort)) (key_as_term (asymmetric_term private (pubk_term purpose (as_name (term_of ds f)))))
key_of_name_is_sound ds private purpose at f h e =
    let p = one_argument ds name_sort at f e in
    atom_is_sound ds akey_sort (key_as_term (asymmetric_term private (pubk_term purpose (as_name (term_of ds f)))))
    (one_declared ds (record { sort = name_sort; number = as_name (term_of ds f) }) (name_declared ds (sort_of ds f) (term_of ds f) (h p.faultless) p.sorted))
    (private, pubk_term purpose (as_name (term_of ds f)), refl)

named_is_sound : (ds : List Declaration) (private : Bool) (at : Place) (fs : Forms) → AreSound ds fs → name_faults ds at (items_of fs) (each_term_faults ds fs) ≡ [] →
    IsSound ds (Some (of_atoms akey_sort)) (key_of_name private (items_of fs) (terms_of ds fs))
named_is_sound ds private at none h e = absurd (no_fewer_than_one ds name_sort at [] e)
named_is_sound ds private at (more (string p t) none) h e = absurd (no_fewer_than_one ds name_sort at [] e)
named_is_sound ds private at (more (string p t) (more f none)) h e = key_of_name_is_sound ds private (Some t) at f h.1.0 e
named_is_sound ds private at (more (string p t) (more f (more g fs))) h e = absurd (no_more_than_one ds name_sort at f g (items_of fs) (each_term_faults ds (more f (more g fs))) e)
named_is_sound ds private at (more (symbol p t) none) h e = key_of_name_is_sound ds private None at (symbol p t) h.0 e
named_is_sound ds private at (more (symbol p t) (more g fs)) h e = absurd (no_more_than_one ds name_sort at (symbol p t) g (items_of fs) (each_term_faults ds (more (symbol p t) (more g fs))) e)
named_is_sound ds private at (more (number p n) none) h e = key_of_name_is_sound ds private None at (number p n) h.0 e
named_is_sound ds private at (more (number p n) (more g fs)) h e = absurd (no_more_than_one ds name_sort at (number p n) g (items_of fs) (each_term_faults ds (more (number p n) (more g fs))) e)
named_is_sound ds private at (more (list p gs) none) h e = key_of_name_is_sound ds private None at (list p gs) h.0 e
named_is_sound ds private at (more (list p gs) (more g fs)) h e = absurd (no_more_than_one ds name_sort at (list p gs) g (items_of fs) (each_term_faults ds (more (list p gs) (more g fs))) e)

applied_is_sound : (ds : List Declaration) (at : Place) (head : TermHead) (fs : Forms) → AreSound ds fs → applied_faults ds at head (items_of fs) (each_term_faults ds fs) ≡ [] →
    IsSound ds (sort_by_head head (sorts_of ds fs)) (applied head (items_of fs) (terms_of ds fs))
applied_is_sound ds at cat fs h e = cat_is_sound ds at fs h e
applied_is_sound ds at encrypt fs h e = encryption_is_sound ds at fs h e
applied_is_sound ds at long_term_key fs h e = long_term_is_sound ds at fs h e
applied_is_sound ds at public_key fs h e = named_is_sound ds false at fs h e
applied_is_sound ds at private_key fs h e = named_is_sound ds true at fs h e
applied_is_sound ds at inverse_key fs h e = inverse_is_sound ds at fs h e
applied_is_sound ds at operation_out_of_profile fs h e = absurd (cc)
applied_is_sound ds at no_operation fs h e = absurd (cc)

variable_is_sound : (ds : List Declaration) (at : Place) (o : Option Variable) → ((x : Variable) → o ≡ Some x → IsDeclared ds x) → undeclared at o ≡ [] → IsSound ds (sort_of_variable o) (term_of_variable o)
variable_is_sound ds at None h e = absurd (cc)
variable_is_sound ds at (Some x) h e = atom_is_sound ds x.sort (variable_term x) (variable_declared ds x (h x refl)) (variable_of_sort x)

mutual
  -- A term without faults is sound.
  pub term_is_sound : (ds : List Declaration) (f : Form) → term_faults ds f ≡ [] → IsSound ds (sort_of ds f) (term_of ds f)
  term_is_sound ds (symbol at t) e = variable_is_sound ds at (variable_named ds t) (named_is_declared ds t) e
  term_is_sound ds (string at t) e = compound_is_sound ds (tag_term t) (none_declared ds)
  term_is_sound ds (number at n) e = absurd (cc)
  term_is_sound ds (list at none) e = absurd (cc)
  term_is_sound ds (list at (more (symbol p t) fs)) e = applied_is_sound ds at (term_head t) fs (terms_are_sound ds fs) e
  term_is_sound ds (list at (more (string p t) fs)) e = absurd (cc)
  term_is_sound ds (list at (more (number p n) fs)) e = absurd (cc)
  term_is_sound ds (list at (more (list p gs) fs)) e = absurd (cc)

  terms_are_sound : (ds : List Declaration) (fs : Forms) → AreSound ds fs
  terms_are_sound ds none = tt
  terms_are_sound ds (more f fs) = (term_is_sound ds f, terms_are_sound ds fs)

-- The variables of a term without faults are declared.
pub term_variables_declared : (ds : List Declaration) (f : Form) → term_faults ds f ≡ [] → AreDeclared ds (variables_of (term_of ds f))
term_variables_declared ds f e = (term_is_sound ds f e).declared

-- A term without faults whose sort passes the test is an atom of that sort.
pub term_of_sort : (ds : List Declaration) (s : Sort) (f : Form) → term_faults ds f ≡ [] → is_sort s (sort_of ds f) ≡ true → IsOfSort s (term_of ds f)
term_of_sort ds s f e is = sound_of_sort ds s (sort_of ds f) (term_of ds f) (term_is_sound ds f e) is
