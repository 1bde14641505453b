-- Where terms stand does not matter for whether they fit, nor for what they stand for.
use Rattle.std.proofs.Common.{◌≡◌, List, [], ◌∷◌, true, false, refl, ◌∙◌, ap}
use Rattle.std.specs.Prelude.{Bool, Option, Some, None, map, not, codes, option_map, ◌&&◌, ◌||◌, if◌then◌else◌}
use Rattle.cp_base.specs.declared.place.Place.{Place}
use Rattle.cp_model.specs.Term.{Term}
use Rattle.cp_model.specs.declared.sort.Sort.{Sort}
use Rattle.cp_model.specs.declared.sort.Sort.TheVariants.{Name as name_sort, Skey as skey_sort, Akey as akey_sort}
use Rattle.cp_model.specs.declared.variable.Variable.{Variable}
use Rattle.cp_model.specs.Same.{same_text}
use Rattle.cp_sexpr.specs.Syntax.{Form, symbol, string, number, list, Forms, none, more}
use Rattle.cp_sexpr.specs.Pieces.{start}
use Rattle.cp_sexpr.specs.ReadBack.{unplaced, all_unplaced}
use Rattle.cp_language.specs.declared.words.TermHead.{TermHead}
use Rattle.cp_language.specs.declared.words.TermHead.TheVariants.{Cat as cat, Enc as encrypt, Ltk as long_term_key, Pubk as public_key, Privk as private_key, Invk as inverse_key, OutOfProfile as operation_out_of_profile, Unknown as no_operation}
use Rattle.cp_language.specs.Words.{term_head, sort_word}
use Rattle.cp_language.specs.Faults.{place_of, items_of}
use Rattle.cp_language.specs.Terms.{sort_of_variable, is_sort, admits_atom, term_of_variable, key_of_name, applied, as_atom}
use Rattle.cp_language.specs.Roles.{front_of, last_form}
use Rattle.cp_report.specs.Misfits.{misfit_unless, all_misfits, symbol_misfits, any_number_misfits}
use Rattle.cp_report.specs.Heads.{has_head, forms_after_head}
use Rattle.cp_report.specs.Spelled.{Scope, names_sort, sort_or_none, local_with, local_by, variable_of_local, variable_in, sort_by_shape, known_or, sort_in, sort_misfits, key_misfits, local_misfits, is_local, is_found_of_sort, variable_misfits, variables_misfits, name_misfits, spread_misfits, last_key_misfits, applied_misfits, term_misfits, each_term_misfits, value_misfits, atom_misfits, term_in, terms_in, atom_in}
use Rattle.cp_report.proofs.Moved.{at_start, all_moved, IsMoved, both, unless_moved, test_moved, place_moved, items_moved, head_moved, entries_moved, last_moved, front_moved, lacking_moved, AreMoved, entries_misfits_moved, symbol_moved, any_number_moved}

-- ---- variables and sorts

local_with_moved : (o : Option Sort) (f : Form) → local_with o (unplaced f) ≡ local_with o f
local_with_moved None f = refl
local_with_moved (Some s) (symbol at t) = refl
local_with_moved (Some s) (string at t) = refl
local_with_moved (Some s) (number at n) = refl
local_with_moved (Some s) (list at fs) = refl

pub local_by_moved : (fs : List Form) → local_by (all_moved fs) ≡ local_by fs
local_by_moved [] = refl
local_by_moved (symbol p t ∷ []) = refl
local_by_moved (symbol p t ∷ f ∷ []) = local_with_moved (sort_or_none (sort_word t)) f
local_by_moved (symbol p t ∷ f ∷ g ∷ fs) = refl
local_by_moved (string p t ∷ fs) = refl
local_by_moved (number p n ∷ fs) = refl
local_by_moved (list p gs ∷ fs) = refl

is_local_moved : (s : Scope) (f : Form) → is_local s (unplaced f) ≡ is_local s f
is_local_moved s f = ap (λ b. b && s.in_pattern) (head_moved (codes "any" ∷ []) f)

pub variable_moved : (s : Scope) (f : Form) → variable_in s (unplaced f) ≡ variable_in s f
variable_moved s (symbol at t) = refl
variable_moved s (string at t) = refl
variable_moved s (number at n) = refl
variable_moved s (list at fs) =
    ap (λ b. if b then variable_of_local s (local_by (forms_after_head (unplaced (list at fs)))) else None) (is_local_moved s (list at fs))
    ∙ ap (λ o. if is_local s (list at fs) then variable_of_local s o else None) (ap local_by (entries_moved (list at fs)) ∙ local_by_moved (forms_after_head (list at fs)))

shape_moved : (f : Form) → sort_by_shape (unplaced f) ≡ sort_by_shape f
shape_moved (symbol at t) = refl
shape_moved (string at t) = refl
shape_moved (number at n) = refl
shape_moved (list at none) = refl
shape_moved (list at (more (symbol p t) fs)) = refl
shape_moved (list at (more (string p t) fs)) = refl
shape_moved (list at (more (number p n) fs)) = refl
shape_moved (list at (more (list p gs) fs)) = refl

pub sort_moved : (s : Scope) (f : Form) → sort_in s (unplaced f) ≡ sort_in s f
sort_moved s f = ap (λ o. known_or (sort_of_variable o) (sort_by_shape (unplaced f))) (variable_moved s f) ∙ ap (known_or (sort_of_variable (variable_in s f))) (shape_moved f)

-- ---- misfits of terms

pub test_at_form : (a b : Bool) (f : Form) → a ≡ b → misfit_unless a (place_of (unplaced f)) ≡ at_start (misfit_unless b (place_of f))
test_at_form a b f e = ap (misfit_unless a) (place_moved f) ∙ test_moved a b (place_of f) e

if_moved : (a b : Bool) (xs us : List Place) → a ≡ b → us ≡ at_start xs → (if a then us else []) ≡ at_start (if b then xs else [])
if_moved a true xs us e f = ap (λ c. if c then us else []) e ∙ f
if_moved a false xs us e f = ap (λ c. if c then us else []) e

pub sort_misfits_moved : (s : Scope) (r : Sort) → IsMoved (sort_misfits s r)
sort_misfits_moved s r f = test_at_form (is_sort r (sort_in s (unplaced f))) (is_sort r (sort_in s f)) f (ap (is_sort r) (sort_moved s f))

pub key_moved : (s : Scope) → IsMoved (key_misfits s)
key_moved s f = test_at_form _ (is_sort skey_sort (sort_in s f) || is_sort akey_sort (sort_in s f)) f (ap (λ o. is_sort skey_sort o || is_sort akey_sort o) (sort_moved s f))

local_misfits_moved : (at : Place) (fs : List Form) → local_misfits start (all_moved fs) ≡ at_start (local_misfits at fs)
local_misfits_moved at fs = entries_misfits_moved (symbol_misfits names_sort ∷ any_number_misfits ∷ []) at fs (symbol_moved names_sort, (any_number_moved, tt))

pub variable_misfits_moved : (s : Scope) (r : Sort) → IsMoved (variable_misfits s r)
variable_misfits_moved s r f =
    unless_moved _ _ _ _
    (if_moved (is_local s (unplaced f)) (is_local s f) (local_misfits (place_of f) (forms_after_head f)) (local_misfits (place_of (unplaced f)) (forms_after_head (unplaced f))) (is_local_moved s f)
    (ap (λ p. local_misfits p (forms_after_head (unplaced f))) (place_moved f) ∙ ap (local_misfits start) (entries_moved f) ∙ local_misfits_moved (place_of f) (forms_after_head f)))
    (test_at_form (is_found_of_sort r (variable_in s (unplaced f))) (is_found_of_sort r (variable_in s f)) f (ap (is_found_of_sort r) (variable_moved s f)))

kinds_moved : (s : Scope) (sorts : List Sort) → AreMoved (map (variable_misfits s) sorts)
kinds_moved s [] = tt
kinds_moved s (r ∷ rs) = (variable_misfits_moved s r, kinds_moved s rs)

variables_moved : (s : Scope) (sorts : List Sort) (at : Place) (fs : List Form) → variables_misfits s sorts start (all_moved fs) ≡ at_start (variables_misfits s sorts at fs)
variables_moved s sorts at fs = entries_misfits_moved (map (variable_misfits s) sorts) at fs (kinds_moved s sorts)

name_moved : (s : Scope) (at : Place) (fs : List Form) → name_misfits s start (all_moved fs) ≡ at_start (name_misfits s at fs)
name_moved s at [] = variables_moved s (name_sort ∷ []) at []
name_moved s at (symbol p t ∷ fs) = variables_moved s (name_sort ∷ []) at (symbol p t ∷ fs)
name_moved s at (string p t ∷ fs) = variables_moved s (name_sort ∷ []) at fs
name_moved s at (number p n ∷ fs) = variables_moved s (name_sort ∷ []) at (number p n ∷ fs)
name_moved s at (list p gs ∷ fs) = variables_moved s (name_sort ∷ []) at (list p gs ∷ fs)

spread_moved : (o : Option Form) → spread_misfits (option_map unplaced o) ≡ at_start (spread_misfits o)
spread_moved None = refl
spread_moved (Some f) = test_at_form _ (not (has_head (codes "cat" ∷ []) f)) f (ap not (head_moved (codes "cat" ∷ []) f))

last_key_moved : (s : Scope) (o : Option Form) → last_key_misfits s (option_map unplaced o) ≡ at_start (last_key_misfits s o)
last_key_moved s None = refl
last_key_moved s (Some f) = key_moved s f

all_misfits_moved : (each : List (List Place)) → all_misfits (map at_start each) ≡ at_start (all_misfits each)
all_misfits_moved [] = refl
all_misfits_moved (e ∷ es) = both e (all_misfits es) _ _ refl (all_misfits_moved es)

applied_moved : (s : Scope) (at : Place) (h : TermHead) (fs : List Form) (each : List (List Place)) → applied_misfits s start h (all_moved fs) (map at_start each) ≡ at_start (applied_misfits s at h fs each)
applied_moved s at cat fs each =
    both _ _ _ _ (both _ _ _ _ (lacking_moved 2 at fs) (all_misfits_moved each)) (ap spread_misfits (last_moved fs) ∙ spread_moved (last_form fs))
applied_moved s at encrypt fs each =
    both _ _ _ _ (both _ _ _ _ (both _ _ _ _ (lacking_moved 2 at fs) (all_misfits_moved each))
    (ap (λ gs. spread_misfits (last_form gs)) (front_moved fs) ∙ ap spread_misfits (last_moved (front_of fs)) ∙ spread_moved (last_form (front_of fs))))
    (ap (last_key_misfits s) (last_moved fs) ∙ last_key_moved s (last_form fs))
applied_moved s at long_term_key fs each = variables_moved s (name_sort ∷ name_sort ∷ []) at fs
applied_moved s at public_key fs each = name_moved s at fs
applied_moved s at private_key fs each = name_moved s at fs
applied_moved s at inverse_key fs each = variables_moved s (akey_sort ∷ []) at fs
applied_moved s at operation_out_of_profile fs each = refl
applied_moved s at no_operation fs each = refl

chosen_moved : (b : Bool) (xs ys us vs : List Place) → us ≡ at_start xs → vs ≡ at_start ys → (if b then us else vs) ≡ at_start (if b then xs else ys)
chosen_moved true xs ys us vs e f = e
chosen_moved false xs ys us vs e f = f

mutual
  pub term_moved : (s : Scope) → IsMoved (term_misfits s)
  term_moved s (symbol at t) = test_moved _ _ at refl
  term_moved s (string at t) = refl
  term_moved s (number at n) = refl
  term_moved s (list at none) = refl
  term_moved s (list at (more (symbol p t) fs)) =
      chosen_moved (same_text t (codes "any") && s.in_pattern) (local_misfits at (items_of fs)) (applied_misfits s at (term_head t) (items_of fs) (each_term_misfits s fs)) _ _
      (ap (local_misfits start) (items_moved fs) ∙ local_misfits_moved at (items_of fs))
      (ap (λ gs. applied_misfits s start (term_head t) gs (each_term_misfits s (all_unplaced fs))) (items_moved fs)
      ∙ ap (applied_misfits s start (term_head t) (all_moved (items_of fs))) (each_term_moved s fs)
      ∙ applied_moved s at (term_head t) (items_of fs) (each_term_misfits s fs))
  term_moved s (list at (more (string p t) fs)) = refl
  term_moved s (list at (more (number p n) fs)) = refl
  term_moved s (list at (more (list p gs) fs)) = refl

  pub each_term_moved : (s : Scope) (fs : Forms) → each_term_misfits s (all_unplaced fs) ≡ map at_start (each_term_misfits s fs)
  each_term_moved s none = refl
  each_term_moved s (more f fs) = ap (λ e. e ∷ each_term_misfits s (all_unplaced fs)) (term_moved s f) ∙ ap (λ es. at_start (term_misfits s f) ∷ es) (each_term_moved s fs)

pub atom_misfits_moved : (s : Scope) → IsMoved (atom_misfits s)
atom_misfits_moved s f = both _ _ _ _ (test_at_form _ (admits_atom (sort_in s f)) f (ap admits_atom (sort_moved s f))) (term_moved s f)

pub value_misfits_moved : (s : Scope) (o : Option Variable) → IsMoved (value_misfits s o)
value_misfits_moved s None f = term_moved s f
value_misfits_moved s (Some x) f = both _ _ _ _ (sort_misfits_moved s x.sort f) (term_moved s f)

-- ---- what terms stand for

key_of_name_moved : (private : Bool) (fs : List Form) (ts : List Term) → key_of_name private (all_moved fs) ts ≡ key_of_name private fs ts
key_of_name_moved private [] ts = refl
key_of_name_moved private (symbol p t ∷ fs) [] = refl
key_of_name_moved private (symbol p t ∷ fs) (a ∷ ts) = refl
key_of_name_moved private (string p t ∷ fs) [] = refl
key_of_name_moved private (string p t ∷ fs) (a ∷ []) = refl
key_of_name_moved private (string p t ∷ fs) (a ∷ b ∷ ts) = refl
key_of_name_moved private (number p n ∷ fs) [] = refl
key_of_name_moved private (number p n ∷ fs) (a ∷ ts) = refl
key_of_name_moved private (list p gs ∷ fs) [] = refl
key_of_name_moved private (list p gs ∷ fs) (a ∷ ts) = refl

pub applied_value_moved : (h : TermHead) (fs : List Form) (ts : List Term) → applied h (all_moved fs) ts ≡ applied h fs ts
applied_value_moved cat fs ts = refl
applied_value_moved encrypt fs ts = refl
applied_value_moved long_term_key fs ts = refl
applied_value_moved public_key fs ts = key_of_name_moved false fs ts
applied_value_moved private_key fs ts = key_of_name_moved true fs ts
applied_value_moved inverse_key fs ts = refl
applied_value_moved operation_out_of_profile fs ts = refl
applied_value_moved no_operation fs ts = refl

chosen_term : (b : Bool) (t u v w : Term) → t ≡ v → u ≡ w → (if b then t else u) ≡ (if b then v else w)
chosen_term true t u v w e f = e
chosen_term false t u v w e f = f

mutual
  pub term_in_moved : (s : Scope) (f : Form) → term_in s (unplaced f) ≡ term_in s f
  term_in_moved s (symbol at t) = refl
  term_in_moved s (string at t) = refl
  term_in_moved s (number at n) = refl
  term_in_moved s (list at none) = refl
  term_in_moved s (list at (more (symbol p t) fs)) =
      chosen_term (same_text t (codes "any") && s.in_pattern) _ _ _ _
      (ap (λ o. term_of_variable (variable_of_local s o)) (ap local_by (items_moved fs) ∙ local_by_moved (items_of fs)))
      (ap (λ gs. applied (term_head t) gs (terms_in s (all_unplaced fs))) (items_moved fs) ∙ ap (applied (term_head t) (all_moved (items_of fs))) (terms_in_moved s fs)
      ∙ applied_value_moved (term_head t) (items_of fs) (terms_in s fs))
  term_in_moved s (list at (more (string p t) fs)) = refl
  term_in_moved s (list at (more (number p n) fs)) = refl
  term_in_moved s (list at (more (list p gs) fs)) = refl

  pub terms_in_moved : (s : Scope) (fs : Forms) → terms_in s (all_unplaced fs) ≡ terms_in s fs
  terms_in_moved s none = refl
  terms_in_moved s (more f fs) = ap (λ t. t ∷ terms_in s (all_unplaced fs)) (term_in_moved s f) ∙ ap (λ ts. term_in s f ∷ ts) (terms_in_moved s fs)

pub atom_in_moved : (s : Scope) (f : Form) → atom_in s (unplaced f) ≡ atom_in s f
atom_in_moved s f = ap as_atom (term_in_moved s f)
