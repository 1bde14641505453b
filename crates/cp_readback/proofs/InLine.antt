-- The items of a label form in their order.
use Rattle.std.proofs.Common.{◌≡◌, ℕ, ◌+◌, ◌<◌, ◌≤◌, List, length, get_or, map, drop, Bool, sym, ap, ◌∙◌}
use Rattle.std.specs.Prelude.{Option}
use Rattle.std.proofs.lemmas.List.{drop_all}
use Rattle.cp_lists.proofs.Members.{drop_read}
use Rattle.cp_base.specs.declared.place.Place.{Place}
use Rattle.cp_sexpr.specs.View.{view}
use Rattle.cp_sexpr.specs.declared.form.Form as program
use Rattle.cp_language.specs.Faults.{place_of}
use Rattle.cp_language.specs.Problems.{is_not_empty}
use Rattle.cp_report.specs.Misfits.{place_before, misfit_unless}
use Rattle.cp_report.specs.Heads.{Line, lines_from, lines_behind, order_misfits}
use Rattle.cp_spelled.specs.FirstMisfit.{first_onto}
use Rattle.cp_scope.proofs.FirstOf.{first_onto-append}

module _ (fs : List program.Form) (k : ℕ) where
  pub line-taken : (f : program.Form) → k < length fs → f ≡ get_or fs k f → (lines own behind : List Line) (stands : Bool) (o p all : Option Place)
      → own ≡ lines_from (view f) lines → behind ≡ lines_behind lines own → stands ≡ is_not_empty own → p ≡ first_onto o (misfit_unless stands (place_of (view f)))
      → first_onto o (order_misfits lines (map view (drop k fs))) ≡ all → first_onto p (order_misfits behind (map view (drop (k + 1) fs))) ≡ all
  line-taken f h e lines own behind stands o p all is_own is_behind is_standing noted i =
      let rest = map view (drop (k + 1) fs) in
      let here = misfit_unless (is_not_empty (lines_from (view f) lines)) (place_of (view f)) in
      let next = lines_behind lines (lines_from (view f) lines) in
      ap (λ ls. first_onto p (order_misfits ls rest)) (is_behind ∙ ap (lines_behind lines) is_own)
      ∙ ap (λ q. first_onto q (order_misfits next rest)) (noted ∙ ap (λ b. first_onto o (misfit_unless b (place_of (view f)))) (is_standing ∙ ap is_not_empty is_own))
      ∙ sym (first_onto-append place_before o here (order_misfits next rest))
      ∙ sym (ap (λ gs. first_onto o (order_misfits lines (map view gs))) (drop_read fs k f h e)) ∙ i

  pub lines-done : length fs ≤ k → (lines : List Line) (o all : Option Place) → first_onto o (order_misfits lines (map view (drop k fs))) ≡ all → o ≡ all
  lines-done h lines o all i = sym (ap (λ gs. first_onto o (order_misfits lines (map view gs))) (drop_all k fs h)) ∙ i
