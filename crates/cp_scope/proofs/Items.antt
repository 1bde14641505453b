-- Items of lists, and what they have too many.
use Rattle.std.proofs.Common.{◌≡◌, ℕ, zero, suc, ◌+◌, ◌<◌, ◌≤◌, List, [], ◌∷◌, ◌++◌, length, get_or, map, take, drop, refl, sym, ap, arith}
use Rattle.std.specs.Prelude.{Option, Some, None}
use Rattle.std.proofs.lemmas.List.{take_all, drop_all, length-map}
use Rattle.cp_base.specs.declared.place.Place.{Place}
use Rattle.cp_base.specs.declared.place.Code.TheVariants.{BadShape}
use Rattle.cp_base.specs.declared.place.Refusal.{Refusal}
use Rattle.cp_lists.specs.Lists.{item_at}
use Rattle.cp_model.specs.declared.variable.Declaration.{Declaration}
use Rattle.cp_sexpr.specs.Syntax.{Form}
use Rattle.cp_sexpr.specs.View.{view}
use Rattle.cp_sexpr.specs.declared.form.Form as program
use Rattle.cp_language.specs.Faults.{fault, place_of}
use Rattle.cp_language.specs.FirstFault.{refusal_before}
use Rattle.cp_language.specs.Terms.{exceeds, key_faults, last_key_faults}
use Rattle.cp_language.specs.Roles.{last_form, front_of, each_faults}
use Rattle.cp_scope.specs.FirstFault.{first_onto}
use Rattle.cp_scope.proofs.EachForm.{next_asked, all_asked}

pub map-take : (n : ℕ) (fs : List program.Form) → map view (take n fs) ≡ take n (map view fs)
map-take zero fs = refl
map-take (suc n) [] = refl
map-take (suc n) (f ∷ fs) = ap (λ gs. view f ∷ gs) (map-take n fs)

pub map-drop : (n : ℕ) (fs : List program.Form) → map view (drop n fs) ≡ drop n (map view fs)
map-drop zero fs = refl
map-drop (suc n) [] = refl
map-drop (suc n) (f ∷ fs) = map-drop n fs

pub short-take : (n : ℕ) (fs : List program.Form) → length fs < n → map view fs ≡ take n (map view fs)
short-take n fs h = sym (take_all n (map view fs) (omega (arith, length-map fs view)))

pub short-drop : (n : ℕ) (fs : List program.Form) → length fs < n → [] ≡ drop n (map view fs)
short-drop n fs h = sym (drop_all n (map view fs) (omega (arith, length-map fs view)))

-- ---- the last item

pub last-of : (fs : List program.Form) (f : program.Form) → last_form (map view (fs ++ f ∷ [])) ≡ Some (view f)
last-of [] f = refl
last-of (g ∷ []) f = refl
last-of (g ∷ h ∷ fs) f = last-of (h ∷ fs) f

pub front-of : (fs : List program.Form) (f : program.Form) → front_of (map view (fs ++ f ∷ [])) ≡ map view fs
front-of [] f = refl
front-of (g ∷ []) f = refl
front-of (g ∷ h ∷ fs) f = ap (λ gs. view g ∷ gs) (front-of (h ∷ fs) f)

pub none-last : (fs : List program.Form) → length fs ≡ 0 → last_form (map view fs) ≡ None
none-last [] e = refl
none-last (f ∷ fs) e = absurd (omega arith)

-- ---- too many

pub exceeds-fault : (n : ℕ) (fs : List Form) (f : Form) → Some f ≡ item_at fs n → exceeds n fs ≡ fault (place_of f) BadShape
exceeds-fault zero [] f e = absurd (cc)
exceeds-fault zero (g ∷ fs) f e = let same : f ≡ g = cc in ap (λ x. fault (place_of x) BadShape) (sym same)
exceeds-fault (suc n) [] f e = absurd (cc)
exceeds-fault (suc n) (g ∷ fs) f e = exceeds-fault n fs f e

pub exceeds-none : (n : ℕ) (fs : List Form) → None ≡ item_at fs n → exceeds n fs ≡ []
exceeds-none zero [] e = refl
exceeds-none zero (g ∷ fs) e = absurd (cc)
exceeds-none (suc n) [] e = refl
exceeds-none (suc n) (g ∷ fs) e = exceeds-none n fs e

pub last_key-fault : (ds : List Declaration) (fs : List Form) (f : Form) → Some f ≡ last_form fs → last_key_faults ds fs ≡ key_faults ds f
last_key-fault ds [] f e = absurd (cc)
last_key-fault ds (g ∷ []) f e = let same : f ≡ g = cc in ap (key_faults ds) (sym same)
last_key-fault ds (g ∷ h ∷ fs) f e = last_key-fault ds (h ∷ fs) f e

pub last_key-none : (ds : List Declaration) (fs : List Form) → None ≡ last_form fs → last_key_faults ds fs ≡ []
last_key-none ds [] e = refl
last_key-none ds (g ∷ []) e = absurd (cc)
last_key-none ds (g ∷ h ∷ fs) e = last_key-none ds (h ∷ fs) e

-- ---- a list item by item

module _ (faults : Form → List Refusal) (fs : List program.Form) (k : ℕ) where
  pub each-taken : (f : program.Form) → k < length fs → f ≡ get_or fs k f → (o p all : Option Refusal) → p ≡ first_onto o (faults (view f))
      → first_onto o (each_faults faults (map view (drop k fs))) ≡ all → first_onto p (each_faults faults (map view (drop (k + 1) fs))) ≡ all
  each-taken = next_asked refusal_before (each_faults faults) faults fs k (λ f gs. refl)

  pub each-done : length fs ≤ k → (o all : Option Refusal) → first_onto o (each_faults faults (map view (drop k fs))) ≡ all → o ≡ all
  each-done = all_asked refusal_before (each_faults faults) faults fs k refl
