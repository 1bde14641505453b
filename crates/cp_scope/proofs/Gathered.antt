-- Atoms that are gathered from the items of lists.
use Rattle.std.proofs.Common.{◌≡◌, ℕ, ◌+◌, ◌<◌, List, [], ◌∷◌, ◌++◌, length, get_or, drop, map, refl, sym, ap, ◌∙◌, Bool, true, false, if◌then◌else◌}
use Rattle.std.proofs.lemmas.List.{append_assoc}
use Rattle.cp_lists.proofs.Members.{drop_read}
use Rattle.cp_model.specs.Term.{AtomTerm}
use Rattle.cp_model.specs.declared.variable.Declaration.{Declaration}
use Rattle.cp_sexpr.specs.Syntax.{Form}
use Rattle.cp_sexpr.specs.View.{view}
use Rattle.cp_sexpr.specs.declared.form.Form as program
use Rattle.cp_language.specs.declared.words.ItemHead.{ItemHead}
use Rattle.cp_language.specs.Terms.{as_atom, term_of}
use Rattle.cp_language.specs.Roles.{headed, atoms_in, forms_under, item_or_none, items_behind}

atoms_in-append : (ds : List Declaration) (fs gs : List Form) → atoms_in ds (fs ++ gs) ≡ atoms_in ds fs ++ atoms_in ds gs
atoms_in-append ds [] gs = refl
atoms_in-append ds (f ∷ fs) gs = ap (λ vs. as_atom (term_of ds f) ∷ vs) (atoms_in-append ds fs gs)

module _ (ds : List Declaration) (test : ItemHead → Bool) (fs : List program.Form) (k : ℕ) (f : program.Form) (lt : k < length fs) (is : f ≡ get_or fs k f) (vs ws all : List AtomTerm)
    (h : vs ++ atoms_in ds (forms_under test (map view (drop k fs))) ≡ all) where
  under : (b : Bool) → b ≡ test (item_or_none (headed (view f))) → forms_under test (map view (drop k fs))
      ≡ (if b then items_behind (headed (view f)) ++ forms_under test (map view (drop (k + 1) fs)) else forms_under test (map view (drop (k + 1) fs)))
  under b e = ap (λ gs. forms_under test (map view gs)) (drop_read fs k f lt is)
      ∙ ap (λ c. if c then items_behind (headed (view f)) ++ forms_under test (map view (drop (k + 1) fs)) else forms_under test (map view (drop (k + 1) fs))) (sym e)

  pub atoms-taken : true ≡ test (item_or_none (headed (view f))) → ws ≡ vs ++ atoms_in ds (items_behind (headed (view f))) → ws ++ atoms_in ds (forms_under test (map view (drop (k + 1) fs))) ≡ all
  atoms-taken e g =
      let rest = forms_under test (map view (drop (k + 1) fs)) in
      ap (λ us. us ++ atoms_in ds rest) g ∙ append_assoc vs (atoms_in ds (items_behind (headed (view f)))) (atoms_in ds rest)
      ∙ ap (λ us. vs ++ us) (sym (atoms_in-append ds (items_behind (headed (view f))) rest))
      ∙ ap (λ us. vs ++ atoms_in ds us) (sym (under true e)) ∙ h

  pub atoms-left : false ≡ test (item_or_none (headed (view f))) → ws ≡ vs → ws ++ atoms_in ds (forms_under test (map view (drop (k + 1) fs))) ≡ all
  atoms-left e g =
      ap (λ us. us ++ atoms_in ds (forms_under test (map view (drop (k + 1) fs)))) g ∙ ap (λ us. vs ++ atoms_in ds us) (sym (under false e)) ∙ h
