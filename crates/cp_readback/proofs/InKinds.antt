-- The entries of a list, each of the next kind.
use Rattle.std.proofs.Common.{◌≡◌, ℕ, ◌+◌, ◌<◌, ◌≤◌, List, [], ◌∷◌, length, get_or, map, drop, refl, sym, ap, ◌∙◌}
use Rattle.std.specs.Prelude.{Option}
use Rattle.std.proofs.lemmas.List.{drop_all, drop_more, nil_from_length}
use Rattle.cp_lists.proofs.Members.{first_left}
use Rattle.cp_base.specs.declared.place.Place.{Place}
use Rattle.cp_sexpr.specs.Syntax.{Form}
use Rattle.cp_sexpr.specs.View.{view}
use Rattle.cp_sexpr.specs.declared.form.Form as program
use Rattle.cp_report.specs.Misfits.{misfit, entries_misfits}
use Rattle.cp_spelled.specs.FirstMisfit.{first_onto}
use Rattle.cp_spelled.proofs.InOrder.{entry-missing, entry-taken}

module _ {K : Type 0} (asked : K → Form → List Place) (kinds : List K) (k : ℕ) (at : Place) (fs : List program.Form) (o all : Option Place)
    (so_far : first_onto o (entries_misfits (map asked (drop k kinds)) at (map view fs)) ≡ all) where
  abbrev from : List K → Option Place
  from ks = first_onto o (entries_misfits (map asked ks) at (map view fs))

  pub kind-taken : (kind : K) → k < length kinds → (gs : List program.Form) (f : program.Form) → fs ≡ f ∷ gs → (p : Option Place) → p ≡ first_onto o (asked (get_or kinds k kind) (view f))
      → first_onto p (entries_misfits (map asked (drop (k + 1) kinds)) at (map view gs)) ≡ all
  kind-taken kind h gs f split p g =
      entry-taken (asked (get_or kinds k kind)) (map asked (drop (k + 1) kinds)) at fs gs f o p (first_onto p (entries_misfits (map asked (drop (k + 1) kinds)) at (map view gs))) split g refl
      ∙ sym (ap from (drop_more kinds k kind h)) ∙ so_far

  pub kind-missing : k < length kinds → length fs ≡ 0 → (p : Option Place) → p ≡ first_onto o (misfit at) → p ≡ all
  kind-missing h none p g =
      let one = first_left kinds k h in
      entry-missing (asked one.0) (map asked (drop (k + 1) kinds)) at fs o p (nil_from_length fs none) g ∙ sym (ap from one.1) ∙ so_far

  pub kinds-done : length kinds ≤ k → (p : Option Place) → p ≡ first_onto o (entries_misfits [] at (map view fs)) → p ≡ all
  kinds-done h p g = g ∙ sym (ap from (drop_all k kinds h)) ∙ so_far
