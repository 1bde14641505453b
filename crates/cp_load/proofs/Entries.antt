-- The entries of forms have these forms, in the same order.
use Rattle.std.proofs.Common.{◌≡◌, List, [], ◌∷◌, map, refl, ap₂}
use Rattle.cp_model.specs.Strand.{Protocol}
use Rattle.cp_sexpr.specs.Syntax.{Form}
use Rattle.cp_language.specs.Roles.{headed}
use Rattle.cp_language.specs.Input.{protocols_behind, form_of, entries_from}
use Rattle.cp_language.proofs.Entries.{headed_form}

pub forms_entered : (above : List Protocol) (fs : List Form) → map form_of (entries_from above fs) ≡ fs
forms_entered above [] = refl
forms_entered above (f ∷ fs) = ap₂ (λ (g : Form) (gs : List Form). g ∷ gs) (headed_form above (headed f) f) (forms_entered (protocols_behind (headed f) above) fs)
