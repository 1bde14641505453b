-- Variables that are declared one after another.
use Rattle.std.proofs.Common.{◌≡◌, ℕ, ◌+◌, ◌<◌, ◌≤◌, List, [], ◌∷◌, ◌++◌, length, get_or, map, drop, Bool, ◌||◌, refl, sym, ap, ◌∙◌}
use Rattle.std.specs.Prelude.{Option, not}
use Rattle.std.proofs.lemmas.List.{drop_all, append_assoc, append-nil}
use Rattle.cp_lists.proofs.Members.{drop_read}
use Rattle.cp_base.specs.declared.place.Place.{Place}
use Rattle.cp_model.specs.declared.variable.Declaration.{Declaration}
use Rattle.cp_model.specs.Same.{same_text}
use Rattle.cp_sexpr.specs.Syntax.{Form}
use Rattle.cp_sexpr.specs.View.{view}
use Rattle.cp_sexpr.specs.declared.form.Form as program
use Rattle.cp_language.specs.Words.{is_one_of}
use Rattle.cp_language.specs.Names.{identifiers_in}
use Rattle.cp_scope.proofs.DeclaredIdentifiers.{AreSameNames, names-swap, identifiers_in-append}
use Rattle.cp_report.specs.Misfits.{place_before, list_misfits, entries_misfits, symbol_misfits}
use Rattle.cp_report.specs.Spelled.{names_sort}
use Rattle.cp_report.specs.Skeletons.{vars_misfits, declaration_of, identifier_of}
use Rattle.cp_spelled.specs.FirstMisfit.{first_onto}
use Rattle.cp_scope.proofs.FirstOf.{first_onto-append}

abbrev pub declaration_misfits : List (List ℕ) → Form → List Place
declaration_misfits before f = list_misfits (entries_misfits (symbol_misfits (λ t. not (is_one_of t before)) ∷ symbol_misfits names_sort ∷ [])) f

vars-names : (b c : List (List ℕ)) (fs : List Form) → AreSameNames b c → vars_misfits b fs ≡ vars_misfits c fs
vars-names b c [] h = refl
vars-names b c (f ∷ fs) h =
    ap (λ (test : List ℕ → Bool). list_misfits (entries_misfits (symbol_misfits test ∷ symbol_misfits names_sort ∷ [])) f ++ vars_misfits (identifier_of f ∷ b) fs) (λ i t. not (h t i))
    ∙ ap (λ rest. declaration_misfits c f ++ rest) (vars-names (identifier_of f ∷ b) (identifier_of f ∷ c) fs (λ t. ap (λ d. same_text t (identifier_of f) || d) (h t)))

module _ (forms : List program.Form) (k : ℕ) where
  pub vars-taken : (f : program.Form) → k < length forms → f ≡ get_or forms k f → (ds es : List Declaration) (o p all : Option Place)
      → es ≡ ds ++ declaration_of (view f) ∷ [] → p ≡ first_onto o (declaration_misfits (identifiers_in ds) (view f))
      → first_onto o (vars_misfits (identifiers_in ds) (map view (drop k forms))) ≡ all
      → first_onto p (vars_misfits (identifiers_in es) (map view (drop (k + 1) forms))) ≡ all
  vars-taken f h e ds es o p all g q i =
      let names : identifiers_in es ≡ identifiers_in ds ++ identifier_of (view f) ∷ [] = ap identifiers_in g ∙ identifiers_in-append ds (declaration_of (view f) ∷ []) in
      let rest = map view (drop (k + 1) forms) in
      ap (λ b. first_onto p (vars_misfits b rest)) names
      ∙ ap (first_onto p) (vars-names (identifiers_in ds ++ identifier_of (view f) ∷ []) (identifier_of (view f) ∷ identifiers_in ds) rest (names-swap (identifiers_in ds) (identifier_of (view f) ∷ [])))
      ∙ ap (λ x. first_onto x (vars_misfits (identifier_of (view f) ∷ identifiers_in ds) rest)) q
      ∙ sym (first_onto-append place_before o (declaration_misfits (identifiers_in ds) (view f)) (vars_misfits (identifier_of (view f) ∷ identifiers_in ds) rest))
      ∙ sym (ap (λ fs. first_onto o (vars_misfits (identifiers_in ds) (map view fs))) (drop_read forms k f h e)) ∙ i

  pub vars-done : length forms ≤ k → (b : List (List ℕ)) (o all : Option Place) → first_onto o (vars_misfits b (map view (drop k forms))) ≡ all → o ≡ all
  vars-done h b o all i = ap (λ fs. first_onto o (vars_misfits b (map view fs))) (sym (drop_all k forms h)) ∙ i

  -- what each entry becomes, behind those that were taken
  pub each-made : {A : Type 0} (make : Form → A) (f : program.Form) → k < length forms → f ≡ get_or forms k f → (xs ys all : List A) → ys ≡ xs ++ make (view f) ∷ []
      → xs ++ map make (map view (drop k forms)) ≡ all → ys ++ map make (map view (drop (k + 1) forms)) ≡ all
  each-made make f h e xs ys all g i =
      ap (λ zs. zs ++ map make (map view (drop (k + 1) forms))) g ∙ append_assoc xs (make (view f) ∷ []) (map make (map view (drop (k + 1) forms)))
      ∙ sym (ap (λ fs. xs ++ map make (map view fs)) (drop_read forms k f h e)) ∙ i

  pub all-made : {A : Type 0} (make : Form → A) → length forms ≤ k → (xs all : List A) → xs ++ map make (map view (drop k forms)) ≡ all → xs ≡ all
  all-made make h xs all i = sym (append-nil xs) ∙ ap (λ fs. xs ++ map make (map view fs)) (sym (drop_all k forms h)) ∙ i
