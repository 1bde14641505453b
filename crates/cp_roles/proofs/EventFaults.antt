-- The faults of events.
use Rattle.std.proofs.Common.{◌≡◌, ◌≤◌, Bool, if◌then◌else◌, IfOk, List, [], ◌∷◌, ◌++◌, length, get_or, map, true, false, refl, sym, ap, ◌∙◌, arith}
use Rattle.std.specs.Prelude.{Option, Some, None, Result, is_none}
use Rattle.std.proofs.lemmas.Result.{IfOk-weaker}
use Rattle.cp_base.specs.declared.place.Place.{Place}
use Rattle.cp_base.specs.declared.place.Code.TheVariants.{BadShape}
use Rattle.cp_base.specs.declared.place.Refusal.{Refusal}
use Rattle.cp_model.specs.Term.{Term, tag_term}
use Rattle.cp_model.specs.declared.variable.Declaration.{Declaration}
use Rattle.cp_sexpr.specs.Syntax.{Form}
use Rattle.cp_sexpr.specs.View.{view}
use Rattle.cp_sexpr.specs.declared.form.Form as program
use Rattle.cp_language.specs.Faults.{fault, place_of}
use Rattle.cp_language.specs.Terms.{term_faults}
use Rattle.cp_language.specs.Roles.{headed, message_faults, event_faults, events_faults, where_faultless, each_faults, event_of, events_in}
use Rattle.cp_model.specs.declared.strand.Event.{Event}
use Rattle.cp_scope.specs.FirstFault.{first_onto}
use Rattle.cp_scope.proofs.Firsts.{none_found}

pub three_messages : (ds : List Declaration) (at : Place) (fs : List program.Form) (a b c : program.Form) → 3 ≤ length fs → a ≡ get_or fs 0 a → b ≡ get_or fs 1 b → c ≡ get_or fs 2 c
    → term_faults ds (view a) ++ term_faults ds (view b) ++ fault (place_of (view c)) BadShape ≡ message_faults ds at (map view fs)
three_messages ds at [] a b c l e f g = absurd (omega arith)
three_messages ds at (x ∷ []) a b c l e f g = absurd (omega arith)
three_messages ds at (x ∷ y ∷ []) a b c l e f g = absurd (omega arith)
three_messages ds at (x ∷ y ∷ z ∷ fs) a b c l e f g =
    ap (λ h. term_faults ds (view h) ++ term_faults ds (view b) ++ fault (place_of (view c)) BadShape) e
    ∙ ap (λ h. term_faults ds (view x) ++ term_faults ds (view h) ++ fault (place_of (view c)) BadShape) f
    ∙ ap (λ h. term_faults ds (view x) ++ term_faults ds (view y) ++ fault (place_of (view h)) BadShape) g

pub each-event : (ds : List Declaration) (fs : List Form) → each_faults (event_faults ds) fs ≡ events_faults ds fs
each-event ds [] = refl
each-event ds (f ∷ fs) = ap (λ rs. event_faults ds f ++ rs) (each-event ds fs)

-- ---- terms with faults and without

no_fault : (o : Option Refusal) → is_none o ≡ true → o ≡ None
no_fault None h = refl
no_fault (Some r) h = absurd (cc)

stands_faultless : (rs : List Refusal) (o : Option Refusal) (t : Term) → o ≡ first_onto None rs → is_none o ≡ true → where_faultless rs t ≡ t
stands_faultless rs o t e h = ap (λ ss. where_faultless ss t) (none_found rs (sym e ∙ no_fault o h))

stands_faulty : (rs : List Refusal) (o : Option Refusal) (t : Term) → o ≡ first_onto None rs → is_none o ≡ false → where_faultless rs t ≡ tag_term []
stands_faulty [] o t e h = let n : is_none o ≡ true = ap is_none e in absurd (cc)
stands_faulty (r ∷ rs) o t e h = refl

-- a term, or none, by the test whether a fault was found
pub term_stands : {E : Type 0} (c : Bool) (r : Result Term E) (rs : List Refusal) (t : Term) (new o : Option Refusal) (b : Bool) → new ≡ None → o ≡ first_onto new rs → b ≡ is_none o → b ≡ c
    → IfOk r (λ u. u ≡ (if c then t else tag_term [])) → IfOk r (λ u. u ≡ where_faultless rs t)
term_stands true r rs t new o b e f g h is = IfOk-weaker r _ _ (λ u i. i ∙ sym (stands_faultless rs o t (f ∙ ap (λ p. first_onto p rs) e) (sym g ∙ h))) is
term_stands false r rs t new o b e f g h is = IfOk-weaker r _ _ (λ u i. i ∙ sym (stands_faulty rs o t (f ∙ ap (λ p. first_onto p rs) e) (sym g ∙ h))) is

-- ---- the events of a trace

same_events : (es : List (Event Term)) → map (λ e. e) es ≡ es
same_events [] = refl
same_events (e ∷ es) = ap (λ more. e ∷ more) (same_events es)

in_order : (ds : List Declaration) (fs : List program.Form) → map (λ f. event_of ds (headed (view f))) fs ≡ events_in ds (map view fs)
in_order ds [] = refl
in_order ds (f ∷ fs) = ap (λ es. event_of ds (headed (view f)) ∷ es) (in_order ds fs)

pub events_collected : (ds : List Declaration) (fs : List program.Form) (es : List (Event Term)) → map (λ e. e) es ≡ map (λ f. event_of ds (headed (view f))) fs → es ≡ events_in ds (map view fs)
events_collected ds fs es h = sym (same_events es) ∙ h ∙ in_order ds fs
