-- An instance, entry by entry.
use Rattle.std.proofs.Common.{◌≡◌, ◌-◌, ◌<◌, ◌≤◌, List, [], ◌∷◌, ◌++◌, length, get_or, map, take, drop, refl, ap, ◌∙◌, arith}
use Rattle.std.specs.Prelude.{Option}
use Rattle.std.proofs.lemmas.List.{take_all}
use Rattle.cp_base.specs.declared.place.Place.{Place}
use Rattle.cp_model.specs.Strand.{Role}
use Rattle.cp_sexpr.specs.Syntax.{Form}
use Rattle.cp_sexpr.specs.View.{view}
use Rattle.cp_sexpr.specs.declared.form.Form as program
use Rattle.cp_language.specs.Roles.{text_of_symbol}
use Rattle.cp_language.specs.Problems.{role_named, is_known, number_of}
use Rattle.cp_report.specs.Misfits.{misfit, unless_misfit, symbol_misfits}
use Rattle.cp_report.specs.Spelled.{Scope}
use Rattle.cp_report.specs.Skeletons.{height_misfits, prefix_misfits, instance_misfits}
use Rattle.cp_spelled.specs.FirstMisfit.{first_onto}

module _ (roles : List Role) (s : Scope) (at : Place) where
  pub few-entries : (fs : List program.Form) → length fs < 2 → misfit at ≡ instance_misfits roles s at (map view fs)
  few-entries [] l = refl
  few-entries (x ∷ []) l = refl
  few-entries (x ∷ y ∷ fs) l = absurd (omega arith)

  -- with the role that is named, the name, the height, and the maplets
  abbrev whole : Option Role → Form → Form → List program.Form → List Place
  whole role n h gs =
      unless_misfit (symbol_misfits (λ t. is_known (role_named roles t)) n ++ height_misfits role h) (prefix_misfits s role (number_of h) at (map view gs))

  pub instance-read : (fs : List program.Form) (n h : program.Form) → 2 ≤ length fs → n ≡ get_or fs 0 n → h ≡ get_or fs 1 h → (role : Option Role) → role ≡ role_named roles (text_of_symbol (view n))
      → (o r : Option Place) → r ≡ first_onto o (whole role (view n) (view h) (take (length fs - 2) (drop 2 fs))) → r ≡ first_onto o (instance_misfits roles s at (map view fs))
  instance-read [] n h l e f role i o r g = absurd (omega arith)
  instance-read (x ∷ []) n h l e f role i o r g = absurd (omega arith)
  instance-read (x ∷ y ∷ fs) n h l e f role i o r g =
      let rest = take (length (x ∷ y ∷ fs) - 2) fs in
      g ∙ ap (λ m. first_onto o (whole m (view n) (view h) rest)) i
      ∙ ap (λ k. first_onto o (whole (role_named roles (text_of_symbol (view k))) (view k) (view h) rest)) e
      ∙ ap (λ w. first_onto o (whole (role_named roles (text_of_symbol (view x))) (view x) (view w) rest)) f
      ∙ ap (λ gs. first_onto o (whole (role_named roles (text_of_symbol (view x))) (view x) (view y) gs)) (take_all (length (x ∷ y ∷ fs) - 2) fs (omega arith))
