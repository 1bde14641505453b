-- The values of assumptions that forms without faults state: their variables are declared, and those of a role that are
-- unique originate in its trace.
use Rattle.std.proofs.Common.{◌≡◌, ℕ, List, [], ◌∷◌, true, Option, Some, None, refl, sym, ap, ◌∙◌, subst}
use Rattle.cp_base.specs.declared.place.Code.TheVariants.{NotAtom, RoleUniqNoOrigin}
use Rattle.cp_lists.specs.Lists.{IsIn, here, there}
use Rattle.cp_lists.proofs.Appended.{none_before, none_behind}
use Rattle.cp_model.specs.Term.{AtomTerm, Term, atom_term, variables_of, variables_of_atom}
use Rattle.cp_model.specs.declared.sort.Sort.{Sort}
use Rattle.cp_model.specs.declared.sort.Sort.TheVariants.{Text as text_sort, Datum as datum_sort, Name as name_sort, Skey as skey_sort, Akey as akey_sort}
use Rattle.cp_model.specs.Strand.{OriginatesInTerms}
use Rattle.cp_model.specs.declared.strand.Event.{Event}
use Rattle.cp_model.specs.declared.variable.Declaration.{Declaration}
use Rattle.cp_model.specs.Problem.{variables_of_atoms}
use Rattle.cp_sexpr.specs.Syntax.{Form}
use Rattle.cp_model.specs.Same.{origin_in}
use Rattle.cp_language.specs.Faults.{fault_unless, place_of}
use Rattle.cp_language.specs.declared.sorts.TermSort.{TermSort}
use Rattle.cp_language.specs.declared.sorts.TermSort.TheVariants.{Atoms as of_atoms, All as of_all}
use Rattle.cp_language.specs.Terms.{sort_of, admits_atom, term_faults, atom_faults, term_of, as_atom}
use Rattle.cp_language.specs.Roles.{is_somewhere, role_unique_faults, each_faults, atoms_in}
use Rattle.cp_model.proofs.SameTests.{origin_found}
use Rattle.cp_language.proofs.Terms.{holds, AreDeclared, none_declared, both_declared, IsOfSort, IsSound, term_is_sound}
use Rattle.cp_language.proofs.Items.{unless_parts}

-- All of these values have declared variables.
abbrev pub AtomsDeclared : List Declaration → List AtomTerm → Type 0
AtomsDeclared ds vs = (v : AtomTerm) → IsIn v vs → AreDeclared ds (variables_of_atom v)

pub atoms_declared : (ds : List Declaration) (vs : List AtomTerm) → AtomsDeclared ds vs → AreDeclared ds (variables_of_atoms vs)
atoms_declared ds [] h = none_declared ds
atoms_declared ds (v ∷ vs) h = both_declared ds (variables_of_atom v) (variables_of_atoms vs) (h v here) (atoms_declared ds vs (λ w p. h w (there p)))

-- ---- the values that a problem states itself

-- A term of a sort is an atom.
pub is_its_atom : (s : Sort) (t : Term) → IsOfSort s t → atom_term (as_atom t) ≡ t
is_its_atom text_sort t h = ap (λ (u : Term). atom_term (as_atom u)) h.1 ∙ sym h.1
is_its_atom datum_sort t h = ap (λ (u : Term). atom_term (as_atom u)) h.1 ∙ sym h.1
is_its_atom name_sort t h = ap (λ (u : Term). atom_term (as_atom u)) h.1 ∙ sym h.1
is_its_atom skey_sort t h = ap (λ (u : Term). atom_term (as_atom u)) h.1 ∙ sym h.1
is_its_atom akey_sort t h = ap (λ (u : Term). atom_term (as_atom u)) h.2 ∙ sym h.2

sound_is_atom : (ds : List Declaration) (o : Option TermSort) (t : Term) → IsSound ds o t → admits_atom o ≡ true → atom_term (as_atom t) ≡ t
sound_is_atom ds None t h e = absurd (h.known refl)
sound_is_atom ds (Some of_all) t h e = absurd (cc)
sound_is_atom ds (Some (of_atoms s)) t h e = is_its_atom s t (h.sorted s refl)

stated_atom : (ds : List Declaration) (f : Form) → atom_faults ds f ≡ [] → atom_term (as_atom (term_of ds f)) ≡ term_of ds f
stated_atom ds f e =
    let test = fault_unless (admits_atom (sort_of ds f)) (place_of f) NotAtom in
    sound_is_atom ds (sort_of ds f) (term_of ds f) (term_is_sound ds f (none_behind test (term_faults ds f) e))
    (holds (admits_atom (sort_of ds f)) (place_of f) NotAtom (none_before test (term_faults ds f) e))

atom_declared : (ds : List Declaration) (f : Form) → atom_faults ds f ≡ [] → AreDeclared ds (variables_of_atom (as_atom (term_of ds f)))
atom_declared ds f e =
    let test = fault_unless (admits_atom (sort_of ds f)) (place_of f) NotAtom in
    subst (λ (t : Term). AreDeclared ds (variables_of t)) (sym (stated_atom ds f e)) (term_is_sound ds f (none_behind test (term_faults ds f) e)).declared

pub and_these : (ds : List Declaration) (v : AtomTerm) (vs : List AtomTerm) → AreDeclared ds (variables_of_atom v) → AtomsDeclared ds vs → AtomsDeclared ds (v ∷ vs)
and_these ds v vs d h w here = d
and_these ds v vs d h w (there p) = h w p

-- The values that forms without faults state.
pub stated_declared : (ds : List Declaration) (fs : List Form) → each_faults (atom_faults ds) fs ≡ [] → AtomsDeclared ds (atoms_in ds fs)
stated_declared ds [] e = λ v p. elim p [ ]
stated_declared ds (f ∷ fs) e =
    and_these ds (as_atom (term_of ds f)) (atoms_in ds fs) (atom_declared ds f (none_before (atom_faults ds f) (each_faults (atom_faults ds) fs) e))
    (stated_declared ds fs (none_behind (atom_faults ds f) (each_faults (atom_faults ds) fs) e))

-- ---- the unique values of a role

-- Each of these values originates in the trace.
abbrev pub Originate : List (Event Term) → List AtomTerm → Type 0
Originate trace vs = (v : AtomTerm) → IsIn v vs → (i : ℕ) × OriginatesInTerms trace (atom_term v) i

originates : (trace : List (Event Term)) (t : Term) (o : Option ℕ) → origin_in trace t ≡ o → is_somewhere o ≡ true → (i : ℕ) × OriginatesInTerms trace t i
originates trace t None e is = absurd (cc)
originates trace t (Some i) e is = (i, origin_found trace t i e)

unique_originates : (ds : List Declaration) (trace : List (Event Term)) (f : Form) → role_unique_faults ds trace f ≡ [] → (i : ℕ) × OriginatesInTerms trace (atom_term (as_atom (term_of ds f))) i
unique_originates ds trace f e =
    let p = unless_parts (atom_faults ds f) (fault_unless (is_somewhere (origin_in trace (term_of ds f))) (place_of f) RoleUniqNoOrigin) e in
    subst (λ (t : Term). (i : ℕ) × OriginatesInTerms trace t i) (sym (stated_atom ds f p.0))
    (originates trace (term_of ds f) (origin_in trace (term_of ds f)) refl (holds (is_somewhere (origin_in trace (term_of ds f))) (place_of f) RoleUniqNoOrigin p.1))

one_more_originates : (trace : List (Event Term)) (v : AtomTerm) (vs : List AtomTerm) → (i : ℕ) × OriginatesInTerms trace (atom_term v) i → Originate trace vs → Originate trace (v ∷ vs)
one_more_originates trace v vs h hs w here = h
one_more_originates trace v vs h hs w (there p) = hs w p

-- The unique values that forms without faults state originate in the role's trace.
pub uniques_originate : (ds : List Declaration) (trace : List (Event Term)) (fs : List Form) → each_faults (role_unique_faults ds trace) fs ≡ [] → Originate trace (atoms_in ds fs)
uniques_originate ds trace [] e = λ v p. elim p [ ]
uniques_originate ds trace (f ∷ fs) e =
    one_more_originates trace (as_atom (term_of ds f)) (atoms_in ds fs) (unique_originates ds trace f (none_before (role_unique_faults ds trace f) (each_faults (role_unique_faults ds trace) fs) e))
    (uniques_originate ds trace fs (none_behind (role_unique_faults ds trace f) (each_faults (role_unique_faults ds trace) fs) e))
