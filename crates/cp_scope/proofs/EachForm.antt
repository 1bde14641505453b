-- The first of what the forms of a list have, form by form.
use Rattle.std.proofs.Common.{◌≡◌, ℕ, ◌+◌, ◌<◌, ◌≤◌, List, [], ◌∷◌, ◌++◌, Bool, length, get_or, map, drop, sym, ap, ◌∙◌}
use Rattle.std.specs.Prelude.{Option}
use Rattle.std.proofs.lemmas.List.{drop_all}
use Rattle.cp_lists.proofs.Members.{drop_read}
use Rattle.cp_sexpr.specs.Syntax.{Form}
use Rattle.cp_sexpr.specs.View.{view}
use Rattle.cp_sexpr.specs.declared.form.Form as program
use Rattle.cp_scope.specs.FirstOf.{first_onto}
use Rattle.cp_scope.proofs.FirstOf.{first_onto-append}

module _ {A : Type 0} (comes_before : A → A → Bool) (each : List Form → List A) (own : Form → List A) (fs : List program.Form) (k : ℕ) where
  -- Once the next form is asked, what the forms behind it have is left.
  pub next_asked : ((f : Form) (gs : List Form) → each (f ∷ gs) ≡ own f ++ each gs) → (f : program.Form) → k < length fs → f ≡ get_or fs k f → (o p all : Option A) → p ≡ first_onto comes_before o (own (view f))
      → first_onto comes_before o (each (map view (drop k fs))) ≡ all → first_onto comes_before p (each (map view (drop (k + 1) fs))) ≡ all
  next_asked goes f h e o p all g i =
      let rest = map view (drop (k + 1) fs) in
      ap (λ q. first_onto comes_before q (each rest)) g ∙ sym (first_onto-append comes_before o (own (view f)) (each rest))
      ∙ sym (ap (first_onto comes_before o) (ap (λ gs. each (map view gs)) (drop_read fs k f h e) ∙ goes (view f) rest)) ∙ i

  -- Behind the last form nothing is left.
  pub all_asked : each [] ≡ [] → length fs ≤ k → (o all : Option A) → first_onto comes_before o (each (map view (drop k fs))) ≡ all → o ≡ all
  all_asked ends h o all i = sym (ap (first_onto comes_before o) (ap (λ gs. each (map view gs)) (drop_all k fs h) ∙ ends)) ∙ i
