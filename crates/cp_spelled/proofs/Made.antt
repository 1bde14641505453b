-- A pattern that is made where no misfit was found.
use Rattle.std.proofs.Common.{◌≡◌, ℕ, List, [], length, Bool, true, false, is_none, refl, sym, ap, ◌∙◌}
use Rattle.std.specs.Prelude.{◌≢◌, Option, Some, None}
use Rattle.cp_base.specs.declared.place.Place.{Place}
use Rattle.cp_model.specs.Term.{Term}
use Rattle.cp_model.specs.Tree.{Pattern}
use Rattle.cp_model.specs.declared.variable.Variable.{Variable}
use Rattle.cp_model.specs.declared.variable.Declaration.{Declaration}
use Rattle.cp_sexpr.specs.Syntax.{Form}
use Rattle.cp_report.specs.Spelled.{term_in, pattern_scope, pattern_of, variables_of_locals}
use Rattle.cp_spelled.specs.FirstMisfit.{first_onto}
use Rattle.cp_report.specs.Misfits.{place_before}
use Rattle.cp_scope.proofs.FirstOf.{none_found}
use Rattle.cp_spelled.proofs.ReadPatterns.{differ}

none_is : {A : Type 0} (o : Option A) → is_none o ≡ true → o ≡ None
none_is None e = refl
none_is (Some x) e = absurd (cc)

pub fits : (ms : List Place) (o p : Option Place) (b : Bool) → o ≡ None → p ≡ first_onto o ms → b ≡ is_none p → b ≡ true → ms ≡ []
fits ms o p b e g h i = none_found place_before ms (sym (g ∙ ap (λ x. first_onto x ms) e) ∙ none_is p (sym h ∙ i))

pub unfit : (ms : List Place) (o p : Option Place) (b : Bool) → o ≡ None → p ≡ first_onto o ms → b ≡ is_none p → b ≡ false → ms ≢ []
unfit ms o p b e g h i k = differ (sym i ∙ h ∙ ap is_none (g ∙ ap (λ x. first_onto x ms) e ∙ ap (first_onto None) k))

module _ (ds : List Declaration) (f : Form) where
  pub made : (t : Term) (found ls : List Variable) (count : ℕ) (items : List Variable) → ls ≡ (pattern_scope ds f).locals → count ≡ length ds → items ≡ ls
      → t ≡ term_in (record { variables = ds; in_pattern = true; locals = ls }) f → found ≡ variables_of_locals count items
      → (let p : Pattern = record { term = t; locals = found } in p) ≡ pattern_of ds f
  made t found ls count items e n i g h =
      let terms = g ∙ ap (λ ks. term_in (record { variables = ds; in_pattern = true; locals = ks }) f) e in
      let locals = h ∙ ap (λ c. variables_of_locals c items) n ∙ ap (variables_of_locals (length ds)) (i ∙ e) in
      λ k. record { term = terms k; locals = locals k }
