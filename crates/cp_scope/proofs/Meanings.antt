-- What lists in terms stand for.
use Rattle.std.proofs.Common.{◌≡◌, ℕ, ◌≤◌, List, [], ◌∷◌, ◌++◌, length, map, drop, Bool, refl, sym, ap, ◌∙◌}
use Rattle.std.specs.Prelude.{Some}
use Rattle.std.proofs.lemmas.List.{drop_all, append-nil}
use Rattle.cp_model.specs.Term.{Term}
use Rattle.cp_model.specs.declared.variable.Declaration.{Declaration}
use Rattle.cp_sexpr.specs.Syntax.{Form, symbol, string, number, list, forms_of}
use Rattle.cp_sexpr.specs.View.{view}
use Rattle.cp_sexpr.specs.declared.form.Form as program
use Rattle.cp_language.specs.Words.{term_head}
use Rattle.cp_language.specs.Roles.{Headed, headed}
use Rattle.cp_language.specs.Terms.{applied, term_of, terms_of, key_of_name}
use Rattle.cp_scope.specs.Applied.{purpose_in, key_of_purpose}
use Rattle.cp_scope.proofs.Views.{headed_is, items_of-forms_of}

pub term-applied : (ds : List Declaration) (f : Form) (h : Headed) → Some h ≡ headed f → applied (term_head h.head) h.items (terms_of ds (forms_of h.items)) ≡ term_of ds f
term-applied ds f h e =
    sym (ap (term_of ds) (headed_is f h (sym e)).whole ∙ ap (λ fs. applied (term_head h.head) fs (terms_of ds (forms_of h.items))) (items_of-forms_of h.items))

pub terms-done : (ds : List Declaration) (fs : List program.Form) (k : ℕ) → length fs ≤ k → (done all : List Term) → done ++ terms_of ds (forms_of (map view (drop k fs))) ≡ all → done ≡ all
terms-done ds fs k h done all e =
    sym (append-nil done) ∙ ap (λ gs. done ++ terms_of ds (forms_of (map view gs))) (sym (drop_all k fs h)) ∙ e

pub key-purpose : (private : Bool) (fs : List Form) (ts : List Term) → key_of_purpose private (purpose_in fs) ts ≡ key_of_name private fs ts
key-purpose private [] [] = refl
key-purpose private [] (t ∷ ts) = refl
key-purpose private (symbol at x ∷ fs) [] = refl
key-purpose private (symbol at x ∷ fs) (t ∷ ts) = refl
key-purpose private (string at x ∷ fs) [] = refl
key-purpose private (string at x ∷ fs) (t ∷ []) = refl
key-purpose private (string at x ∷ fs) (t ∷ u ∷ ts) = refl
key-purpose private (number at n ∷ fs) [] = refl
key-purpose private (number at n ∷ fs) (t ∷ ts) = refl
key-purpose private (list at gs ∷ fs) [] = refl
key-purpose private (list at gs ∷ fs) (t ∷ ts) = refl
