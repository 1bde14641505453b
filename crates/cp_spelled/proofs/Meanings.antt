-- What lists in terms stand for.
use Rattle.std.proofs.Common.{◌≡◌, ℕ, ◌≤◌, List, ◌++◌, length, map, drop, sym, ap, ◌∙◌}
use Rattle.std.specs.Prelude.{Some}
use Rattle.std.proofs.lemmas.List.{drop_all, append-nil}
use Rattle.cp_model.specs.Term.{Term}
use Rattle.cp_sexpr.specs.Syntax.{Form, forms_of}
use Rattle.cp_sexpr.specs.View.{view}
use Rattle.cp_sexpr.specs.declared.form.Form as program
use Rattle.cp_language.specs.Roles.{Headed, headed}
use Rattle.cp_scope.proofs.Views.{headed_is, items_of-forms_of}
use Rattle.cp_report.specs.Spelled.{Scope, term_in, terms_in}
use Rattle.cp_spelled.specs.Own.{headed_term}

pub term-headed : (s : Scope) (f : Form) (h : Headed) → Some h ≡ headed f → headed_term s h.head h.items (terms_in s (forms_of h.items)) ≡ term_in s f
term-headed s f h e =
    sym (ap (term_in s) (headed_is f h (sym e)).whole ∙ ap (λ fs. headed_term s h.head fs (terms_in s (forms_of h.items))) (items_of-forms_of h.items))

pub terms-done : (s : Scope) (fs : List program.Form) (k : ℕ) → length fs ≤ k → (done all : List Term) → done ++ terms_in s (forms_of (map view (drop k fs))) ≡ all → done ≡ all
terms-done s fs k h done all e =
    sym (append-nil done) ∙ ap (λ gs. done ++ terms_in s (forms_of (map view gs))) (sym (drop_all k fs h)) ∙ e
