-- What is asked only where other items fit.
use Rattle.std.proofs.Common.{◌≡◌, ℕ, ◌&&◌, Bool, true, false, List, [], ◌∷◌, ◌++◌, map, refl, sym, ap, ◌∙◌}
use Rattle.std.specs.Prelude.{Option, Some, None, is_none, if◌then◌else◌}
use Rattle.cp_base.specs.declared.place.Place.{Place}
use Rattle.cp_sexpr.specs.Syntax.{Form, symbol, string, number, list}
use Rattle.cp_sexpr.specs.View.{view}
use Rattle.cp_sexpr.specs.declared.form.Form as program
use Rattle.cp_language.specs.Faults.{place_of}
use Rattle.cp_language.specs.Roles.{text_of_symbol}
use Rattle.cp_report.specs.Misfits.{misfit, misfit_unless, unless_misfit, where_fitting, symbol_misfits, entries_misfits}
use Rattle.cp_report.specs.Labels.{operation_word, is_operation}
use Rattle.cp_spelled.specs.FirstMisfit.{earlier_of, first_onto}
use Rattle.cp_items.specs.Parts.{is_fitting, kinds_behind, operation_item_misfits}

some_found : (p : Place) (qs : List Place) → is_none (first_onto (Some p) qs) ≡ false
some_found p [] = refl
some_found p (q ∷ qs) = some_found (earlier_of (Some p) q) qs

-- nothing is found of misfits where there are none
pub fitting-found : (rs : List Place) → is_none (first_onto None rs) ≡ is_fitting rs
fitting-found [] = refl
fitting-found (r ∷ rs) = some_found r rs

pub fitting-both : (rs ss others : List Place) → where_fitting (rs ++ ss) others ≡ (if is_fitting rs && is_fitting ss then others else [])
fitting-both [] [] others = refl
fitting-both [] (s ∷ ss) others = refl
fitting-both (r ∷ rs) ss others = refl

-- What is asked only where there was no misfit, behind what was met there.
pub unless-found : (o : Option Place) (rs others : List Place) → first_onto (first_onto o rs) (if is_fitting rs then others else []) ≡ first_onto o (unless_misfit rs others)
unless-found o [] others = refl
unless-found o (r ∷ rs) others = refl

-- ---- a symbol in front

-- what is met of the list whose first form is judged with those behind it
pub first-read : (whole : List Form → List Place) (fs gs : List program.Form) (f : program.Form) (o p : Option Place) (met : List Place) → fs ≡ f ∷ gs → p ≡ first_onto o met → met ≡ whole (view f ∷ map view gs)
    → p ≡ first_onto o (whole (map view fs))
first-read whole fs gs f o p met split e is = e ∙ ap (first_onto o) is ∙ sym (ap (λ hs. first_onto o (whole (map view hs))) split)

-- the first form is the misfit
pub first-refused : (whole : List Form → List Place) (fs gs : List program.Form) (f : program.Form) (o p : Option Place) (at : Place) → fs ≡ f ∷ gs → p ≡ first_onto o (misfit at) → at ≡ place_of (view f)
    → misfit (place_of (view f)) ≡ whole (view f ∷ map view gs) → p ≡ first_onto o (whole (map view fs))
first-refused whole fs gs f o p at split e stands is = first-read whole fs gs f o p (misfit (place_of (view f))) split (e ∙ ap (λ q. first_onto o (misfit q)) stands) is

pub symbol-fits : (fits : List ℕ → Bool) (f : Form) (others : List Place) → is_fitting (symbol_misfits fits f) ≡ true → others ≡ unless_misfit (symbol_misfits fits f) others
symbol-fits fits f others e = by_list (symbol_misfits fits f) e
  where
    by_list : (rs : List Place) → is_fitting rs ≡ true → others ≡ unless_misfit rs others
    by_list [] g = refl
    by_list (r ∷ rs) g = absurd (cc)

one_misfit : (b : Bool) (at : Place) (others : List Place) → is_fitting (misfit_unless b at) ≡ false → misfit at ≡ unless_misfit (misfit_unless b at) others
one_misfit true at others e = absurd (cc)
one_misfit false at others e = refl

pub symbol-unknown : (fits : List ℕ → Bool) (f : Form) (others : List Place) → is_fitting (symbol_misfits fits f) ≡ false → misfit (place_of f) ≡ unless_misfit (symbol_misfits fits f) others
symbol-unknown fits (symbol at t) others e = one_misfit (fits t) at others e
symbol-unknown fits (string at t) others e = refl
symbol-unknown fits (number at n) others e = refl
symbol-unknown fits (list at fs) others e = refl

pub operation-fits : (strands : ℕ) (at : Place) (f : Form) (fs : List Form) → is_fitting (symbol_misfits (λ t. is_operation (operation_word t)) f) ≡ true
    → entries_misfits (kinds_behind strands (operation_word (text_of_symbol f)) fs) at fs ≡ operation_item_misfits strands at (f ∷ fs)
operation-fits strands at f fs e = symbol-fits (λ t. is_operation (operation_word t)) f (entries_misfits (kinds_behind strands (operation_word (text_of_symbol f)) fs) at fs) e

pub operation-unknown : (strands : ℕ) (at : Place) (f : Form) (fs : List Form) → is_fitting (symbol_misfits (λ t. is_operation (operation_word t)) f) ≡ false
    → misfit (place_of f) ≡ operation_item_misfits strands at (f ∷ fs)
operation-unknown strands at f fs e = symbol-unknown (λ t. is_operation (operation_word t)) f (entries_misfits (kinds_behind strands (operation_word (text_of_symbol f)) fs) at fs) e
