-- Where forms of the input stand does not matter for their faults: forms with one place everywhere have the same faults,
-- all at that place. Here those of terms, and what they stand for.
use Rattle.std.proofs.Common.{◌≡◌, ℕ, zero, suc, List, [], ◌∷◌, ◌++◌, true, false, refl, ◌∙◌, ap}
use Rattle.std.specs.Prelude.{Bool, Option, Some, None, map, drop, ◌||◌}
use Rattle.cp_lists.proofs.Fronts.{rest_of_map}
use Rattle.cp_lists.proofs.Mapped.{both_mapped}
use Rattle.cp_base.specs.declared.place.Place.{Place}
use Rattle.cp_base.specs.declared.place.Code.{Code}
use Rattle.cp_base.specs.declared.place.Code.TheVariants.{BadShape, NotAtom, IllSorted, KeySort}
use Rattle.cp_base.specs.declared.place.Refusal.{Refusal}
use Rattle.cp_model.specs.declared.sort.Sort.{Sort}
use Rattle.cp_model.specs.declared.sort.Sort.TheVariants.{Name as name_sort, Skey as skey_sort, Akey as akey_sort}
use Rattle.cp_model.specs.declared.variable.Variable.{Variable}
use Rattle.cp_model.specs.declared.variable.Declaration.{Declaration}
use Rattle.cp_sexpr.specs.Syntax.{Form, symbol, string, number, list, Forms, none, more}
use Rattle.cp_sexpr.specs.Pieces.{start}
use Rattle.cp_sexpr.specs.ReadBack.{unplaced, all_unplaced}
use Rattle.cp_language.specs.declared.words.TermHead.{TermHead}
use Rattle.cp_language.specs.declared.words.TermHead.TheVariants.{Cat as cat, Enc as encrypt, Ltk as long_term_key, Pubk as public_key, Privk as private_key, Invk as inverse_key, OutOfProfile as operation_out_of_profile, Unknown as no_operation}
use Rattle.cp_language.specs.Words.{term_head}
use Rattle.cp_language.specs.Faults.{fault, fault_unless, place_of, items_of}
use Rattle.cp_language.specs.Terms.{variable_named, sort_by_head, sort_of, sorts_of, is_sort, admits_atom, sort_faults, key_faults, lacks, exceeds, first_faults, all_faults, sorts_faults, last_key_faults, operation_faults, name_faults, applied_faults, undeclared, term_faults, each_term_faults, atom_faults, as_atom, applied, term_of, terms_of}
use Rattle.cp_report.proofs.Moved.{all_moved, place_moved, items_moved}
use Rattle.cp_report.proofs.MovedTerms.{applied_value_moved}

-- As many faults of the same kinds, all at one place.
abbrev pub faults_at_start : List Refusal → List Refusal
faults_at_start rs = map (λ r. record { place = start; code = r.code }) rs

-- Two parts, each of them moved.
pub two : (xs ys us vs : List Refusal) → us ≡ faults_at_start xs → vs ≡ faults_at_start ys → us ++ vs ≡ faults_at_start (xs ++ ys)
two = both_mapped (λ r. record { place = start; code = r.code })

-- What finds faults in a form finds the same in the form with one place.
abbrev pub IsMovedFault : (Form → List Refusal) → Type 0
IsMovedFault kind = (f : Form) → kind (unplaced f) ≡ faults_at_start (kind f)

-- ---- lists of faults

-- a test that answers the same
pub fault_moved : (a b : Bool) (p : Place) (c : Code) → a ≡ b → fault_unless a start c ≡ faults_at_start (fault_unless b p c)
fault_moved a true p c e = ap (λ d. fault_unless d start c) e
fault_moved a false p c e = ap (λ d. fault_unless d start c) e

pub fault_at_form : (a b : Bool) (f : Form) (c : Code) → a ≡ b → fault_unless a (place_of (unplaced f)) c ≡ faults_at_start (fault_unless b (place_of f) c)
fault_at_form a b f c e = ap (λ p. fault_unless a p c) (place_moved f) ∙ fault_moved a b (place_of f) c e

pub bad_shape_moved : (f : Form) (c : Code) → fault (place_of (unplaced f)) c ≡ faults_at_start (fault (place_of f) c)
bad_shape_moved f c = ap (λ p. fault p c) (place_moved f)

pub lacks_moved : (n : ℕ) (at : Place) (fs : List Form) → lacks n start (all_moved fs) ≡ faults_at_start (lacks n at fs)
lacks_moved zero at fs = refl
lacks_moved (suc n) at [] = refl
lacks_moved (suc n) at (f ∷ fs) = lacks_moved n at fs

pub exceeds_moved : (n : ℕ) (fs : List Form) → exceeds n (all_moved fs) ≡ faults_at_start (exceeds n fs)
exceeds_moved zero [] = refl
exceeds_moved zero (f ∷ fs) = bad_shape_moved f BadShape
exceeds_moved (suc n) [] = refl
exceeds_moved (suc n) (f ∷ fs) = exceeds_moved n fs

first_moved : (n : ℕ) (each : List (List Refusal)) → first_faults n (map faults_at_start each) ≡ faults_at_start (first_faults n each)
first_moved zero each = refl
first_moved (suc n) [] = refl
first_moved (suc n) (e ∷ es) = two e (first_faults n es) _ _ refl (first_moved n es)

all_faults_moved : (each : List (List Refusal)) → all_faults (map faults_at_start each) ≡ faults_at_start (all_faults each)
all_faults_moved [] = refl
all_faults_moved (e ∷ es) = two e (all_faults es) _ _ refl (all_faults_moved es)

-- ---- sorts

mutual
  pub sort_of_moved : (ds : List Declaration) (f : Form) → sort_of ds (unplaced f) ≡ sort_of ds f
  sort_of_moved ds (list at (more (symbol p t) fs)) = ap (sort_by_head (term_head t)) (sorts_of_moved ds fs)
  sort_of_moved ds _ = refl

  sorts_of_moved : (ds : List Declaration) (fs : Forms) → sorts_of ds (all_unplaced fs) ≡ sorts_of ds fs
  sorts_of_moved ds none = refl
  sorts_of_moved ds (more f fs) = ap (λ s. s ∷ sorts_of ds (all_unplaced fs)) (sort_of_moved ds f) ∙ ap (λ ss. sort_of ds f ∷ ss) (sorts_of_moved ds fs)

pub sort_faults_moved : (ds : List Declaration) (s : Sort) → IsMovedFault (sort_faults ds s)
sort_faults_moved ds s f = fault_at_form (is_sort s (sort_of ds (unplaced f))) (is_sort s (sort_of ds f)) f IllSorted (ap (is_sort s) (sort_of_moved ds f))

key_faults_moved : (ds : List Declaration) → IsMovedFault (key_faults ds)
key_faults_moved ds f =
    fault_at_form (is_sort skey_sort (sort_of ds (unplaced f)) || is_sort akey_sort (sort_of ds (unplaced f))) (is_sort skey_sort (sort_of ds f) || is_sort akey_sort (sort_of ds f)) f KeySort
    (ap (λ o. is_sort skey_sort o || is_sort akey_sort o) (sort_of_moved ds f))

sorts_faults_moved : (ds : List Declaration) (sorts : List Sort) (fs : List Form) → sorts_faults ds sorts (all_moved fs) ≡ faults_at_start (sorts_faults ds sorts fs)
sorts_faults_moved ds [] fs = refl
sorts_faults_moved ds (s ∷ ss) [] = refl
sorts_faults_moved ds (s ∷ ss) (f ∷ fs) = two _ _ _ _ (sort_faults_moved ds s f) (sorts_faults_moved ds ss fs)

last_key_moved : (ds : List Declaration) (fs : List Form) → last_key_faults ds (all_moved fs) ≡ faults_at_start (last_key_faults ds fs)
last_key_moved ds [] = refl
last_key_moved ds (f ∷ []) = key_faults_moved ds f
last_key_moved ds (f ∷ g ∷ fs) = last_key_moved ds (g ∷ fs)

-- ---- faults of terms

one_argument : (ds : List Declaration) (s : Sort) (at : Place) (fs : List Form) (each : List (List Refusal)) → operation_faults ds (s ∷ []) start (all_moved fs) (map faults_at_start each) ≡ faults_at_start (operation_faults ds (s ∷ []) at fs each)
one_argument ds s at fs each =
    two _ _ _ _ (two _ _ _ _ (two _ _ _ _ (lacks_moved 1 at fs) (first_moved 1 each)) (sorts_faults_moved ds (s ∷ []) fs)) (exceeds_moved 1 fs)

two_arguments : (ds : List Declaration) (s r : Sort) (at : Place) (fs : List Form) (each : List (List Refusal)) →
    operation_faults ds (s ∷ r ∷ []) start (all_moved fs) (map faults_at_start each) ≡ faults_at_start (operation_faults ds (s ∷ r ∷ []) at fs each)
two_arguments ds s r at fs each =
    two _ _ _ _ (two _ _ _ _ (two _ _ _ _ (lacks_moved 2 at fs) (first_moved 2 each)) (sorts_faults_moved ds (s ∷ r ∷ []) fs)) (exceeds_moved 2 fs)

name_moved : (ds : List Declaration) (at : Place) (fs : List Form) (each : List (List Refusal)) → name_faults ds start (all_moved fs) (map faults_at_start each) ≡ faults_at_start (name_faults ds at fs each)
name_moved ds at [] each = one_argument ds name_sort at [] each
name_moved ds at (symbol p t ∷ fs) each = one_argument ds name_sort at (symbol p t ∷ fs) each
name_moved ds at (string p t ∷ fs) each = ap (operation_faults ds (name_sort ∷ []) start (all_moved fs)) (rest_of_map faults_at_start each) ∙ one_argument ds name_sort at fs (drop 1 each)
name_moved ds at (number p n ∷ fs) each = one_argument ds name_sort at (number p n ∷ fs) each
name_moved ds at (list p gs ∷ fs) each = one_argument ds name_sort at (list p gs ∷ fs) each

applied_moved : (ds : List Declaration) (at : Place) (h : TermHead) (fs : List Form) (each : List (List Refusal)) → applied_faults ds start h (all_moved fs) (map faults_at_start each) ≡ faults_at_start (applied_faults ds at h fs each)
applied_moved ds at cat fs each = two _ _ _ _ (lacks_moved 1 at fs) (all_faults_moved each)
applied_moved ds at encrypt fs each = two _ _ _ _ (two _ _ _ _ (lacks_moved 2 at fs) (all_faults_moved each)) (last_key_moved ds fs)
applied_moved ds at long_term_key fs each = two_arguments ds name_sort name_sort at fs each
applied_moved ds at public_key fs each = name_moved ds at fs each
applied_moved ds at private_key fs each = name_moved ds at fs each
applied_moved ds at inverse_key fs each = one_argument ds akey_sort at fs each
applied_moved ds at operation_out_of_profile fs each = refl
applied_moved ds at no_operation fs each = refl

undeclared_moved : (at : Place) (o : Option Variable) → undeclared start o ≡ faults_at_start (undeclared at o)
undeclared_moved at None = refl
undeclared_moved at (Some x) = refl

mutual
  pub term_faults_moved : (ds : List Declaration) → IsMovedFault (term_faults ds)
  term_faults_moved ds (symbol at t) = undeclared_moved at (variable_named ds t)
  term_faults_moved ds (list at (more (symbol p t) fs)) =
      ap (λ gs. applied_faults ds start (term_head t) gs (each_term_faults ds (all_unplaced fs))) (items_moved fs)
      ∙ ap (applied_faults ds start (term_head t) (all_moved (items_of fs))) (each_faults_moved ds fs)
      ∙ applied_moved ds at (term_head t) (items_of fs) (each_term_faults ds fs)
  term_faults_moved ds _ = refl

  each_faults_moved : (ds : List Declaration) (fs : Forms) → each_term_faults ds (all_unplaced fs) ≡ map faults_at_start (each_term_faults ds fs)
  each_faults_moved ds none = refl
  each_faults_moved ds (more f fs) = ap (λ e. e ∷ each_term_faults ds (all_unplaced fs)) (term_faults_moved ds f) ∙ ap (λ es. faults_at_start (term_faults ds f) ∷ es) (each_faults_moved ds fs)

pub atom_faults_moved : (ds : List Declaration) → IsMovedFault (atom_faults ds)
atom_faults_moved ds f = two _ _ _ _ (fault_at_form (admits_atom (sort_of ds (unplaced f))) (admits_atom (sort_of ds f)) f NotAtom (ap admits_atom (sort_of_moved ds f))) (term_faults_moved ds f)

-- ---- what terms stand for

mutual
  pub term_of_moved : (ds : List Declaration) (f : Form) → term_of ds (unplaced f) ≡ term_of ds f
  term_of_moved ds (list at (more (symbol p t) fs)) =
      ap (λ gs. applied (term_head t) gs (terms_of ds (all_unplaced fs))) (items_moved fs) ∙ ap (applied (term_head t) (all_moved (items_of fs))) (terms_of_moved ds fs)
      ∙ applied_value_moved (term_head t) (items_of fs) (terms_of ds fs)
  term_of_moved ds _ = refl

  terms_of_moved : (ds : List Declaration) (fs : Forms) → terms_of ds (all_unplaced fs) ≡ terms_of ds fs
  terms_of_moved ds none = refl
  terms_of_moved ds (more f fs) = ap (λ t. t ∷ terms_of ds (all_unplaced fs)) (term_of_moved ds f) ∙ ap (λ ts. term_of ds f ∷ ts) (terms_of_moved ds fs)

pub atom_of_moved : (ds : List Declaration) (f : Form) → as_atom (term_of ds (unplaced f)) ≡ as_atom (term_of ds f)
atom_of_moved ds f = ap as_atom (term_of_moved ds f)
