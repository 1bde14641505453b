-- What is asked of each form, where none does not fit.
use Rattle.std.proofs.Common.{◌≡◌, ℕ, ◌+◌, ◌<◌, List, [], length, get_or, map, drop, sym, ap, ◌∙◌}
use Rattle.cp_lists.proofs.Members.{drop_read}
use Rattle.cp_lists.proofs.Appended.{none_in_both}
use Rattle.cp_base.specs.declared.place.Place.{Place}
use Rattle.cp_sexpr.specs.Syntax.{Form}
use Rattle.cp_sexpr.specs.View.{view}
use Rattle.cp_sexpr.specs.declared.form.Form as program
use Rattle.cp_report.specs.Misfits.{each_misfits}

pub each-none : (inside : Form → List Place) (fs : List program.Form) (k : ℕ) (f : program.Form) → k < length fs → f ≡ get_or fs k f → each_misfits inside (map view (drop k fs)) ≡ []
    → (inside (view f) ≡ []) × (each_misfits inside (map view (drop (k + 1) fs)) ≡ [])
each-none inside fs k f h e i = none_in_both (inside (view f)) (each_misfits inside (map view (drop (k + 1) fs))) (sym (ap (λ gs. each_misfits inside (map view gs)) (drop_read fs k f h e)) ∙ i)
