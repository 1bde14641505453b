-- The misfits of a pattern, those of its locals first.
use Rattle.std.proofs.Common.{◌≡◌, List, [], ◌∷◌, ◌++◌, Bool, true, ap, ◌∙◌}
use Rattle.std.specs.Prelude.{Option, codes}
use Rattle.std.proofs.lemmas.List.{append_assoc}
use Rattle.cp_base.specs.declared.place.Place.{Place}
use Rattle.cp_model.specs.declared.variable.Declaration.{Declaration}
use Rattle.cp_model.specs.declared.variable.Variable.{Variable}
use Rattle.cp_sexpr.specs.Syntax.{Form}
use Rattle.cp_language.specs.Faults.{place_of}
use Rattle.cp_report.specs.declared.locals.LocalAt.{LocalAt}
use Rattle.cp_report.specs.Misfits.{place_before, misfit_unless}
use Rattle.cp_report.specs.Heads.{has_head}
use Rattle.cp_report.specs.Spelled.{term_misfits, clash_misfits, locals_in, locals_onto, pattern_scope, pattern_misfits}
use Rattle.cp_spelled.specs.FirstMisfit.{first_onto}
use Rattle.cp_scope.proofs.FirstOf.{first_then_three, first_onto-swap}
use Rattle.cp_spelled.proofs.Firsts.{in_order}

pub locals-noted : (ds : List Declaration) (f : Form) (found : List LocalAt) (ls : List Variable) → found ≡ locals_in f → ls ≡ locals_onto [] found → ls ≡ (pattern_scope ds f).locals
locals-noted ds f found ls e g = g ∙ ap (locals_onto []) e

pub pattern-noted : (ds : List Declaration) (f : Form) (found : List LocalAt) (ls : List Variable) (o p q r : Option Place) (head : Bool) (at : Place)
    → found ≡ locals_in f → ls ≡ locals_onto [] found → head ≡ has_head (codes "enc" ∷ []) f → at ≡ place_of f
    → p ≡ first_onto o (clash_misfits [] found) → q ≡ first_onto p (misfit_unless head at)
    → r ≡ first_onto q (term_misfits (record { variables = ds; in_pattern = true; locals = ls }) f) → r ≡ first_onto o (pattern_misfits ds f)
pattern-noted ds f found ls o p q r head at e g h i hp hq hr =
    let clash = clash_misfits [] (locals_in f) in
    let first = misfit_unless (has_head (codes "enc" ∷ []) f) (place_of f) in
    let inside = term_misfits (pattern_scope ds f) f in
    first_then_three place_before o p q r clash first inside
    (hp ∙ ap (λ all. first_onto o (clash_misfits [] all)) e)
    (hq ∙ ap (λ b. first_onto p (misfit_unless b at)) h ∙ ap (λ x. first_onto p (misfit_unless (has_head (codes "enc" ∷ []) f) x)) i)
    (hr ∙ ap (λ all. first_onto q (term_misfits (record { variables = ds; in_pattern = true; locals = all }) f)) (locals-noted ds f found ls e g))
    ∙ ap (first_onto o) (append_assoc clash first inside)
    ∙ first_onto-swap place_before in_order o clash (first ++ inside)
