-- Maplets one after another, and the term of an identifier.
use Rattle.std.proofs.Common.{◌≡◌, ℕ, suc, ◌+◌, ◌<◌, ◌≤◌, List, [], ◌∷◌, ◌++◌, length, get_or, map, drop, Bool, true, false, ◌&&◌, ◌||◌, if◌then◌else◌, refl, sym, ap, ◌∙◌}
use Rattle.std.specs.Prelude.{Option, Some, None, option_map, not}
use Rattle.std.proofs.lemmas.List.{drop_all}
use Rattle.cp_lists.specs.Lists.{item_at}
use Rattle.cp_lists.proofs.Members.{drop_read}
use Rattle.cp_base.specs.declared.place.Place.{Place}
use Rattle.cp_model.specs.Term.{Term, tag_term}
use Rattle.cp_model.specs.declared.variable.Declaration.{Declaration}
use Rattle.cp_model.specs.Same.{same_text}
use Rattle.cp_sexpr.specs.Syntax.{Form}
use Rattle.cp_sexpr.specs.View.{view}
use Rattle.cp_sexpr.specs.declared.form.Form as program
use Rattle.cp_language.specs.Terms.{variable_named}
use Rattle.cp_language.specs.Roles.{list_items}
use Rattle.cp_language.specs.Problems.{is_known, name_in_front, second_form}
use Rattle.cp_scope.proofs.DeclaredIdentifiers.{AreSameNames, names-swap}
use Rattle.cp_report.specs.Misfits.{place_before, list_misfits, entries_misfits, symbol_misfits}
use Rattle.cp_report.specs.Spelled.{Scope, value_misfits}
use Rattle.cp_report.specs.Skeletons.{identifier_of, maplet_misfits, maplets_misfits, term_or_tag, value_mapped, values_mapped}
use Rattle.cp_spelled.specs.FirstMisfit.{first_onto}
use Rattle.cp_spelled.specs.Own.{value_of_item}
use Rattle.cp_scope.specs.Places.{place_from}
use Rattle.cp_scope.proofs.FirstOf.{first_onto-append}

-- ---- maplets

module _ (s : Scope) (wanted : List Declaration) where
  maplets-names : (b c : List (List ℕ)) (fs : List Form) → AreSameNames b c → maplets_misfits s wanted b fs ≡ maplets_misfits s wanted c fs
  maplets-names b c [] h = refl
  maplets-names b c (f ∷ fs) h =
      ap (λ (test : List ℕ → Bool). list_misfits (λ at gs. entries_misfits (symbol_misfits test ∷ value_misfits s (variable_named wanted (name_in_front gs)) ∷ []) at gs) f ++ maplets_misfits s wanted (identifier_of f ∷ b) fs)
      (λ i t. is_known (variable_named wanted t) && not (h t i))
      ∙ ap (λ rest. list_misfits (maplet_misfits s wanted c) f ++ rest) (maplets-names (identifier_of f ∷ b) (identifier_of f ∷ c) fs (λ t. ap (λ d. same_text t (identifier_of f) || d) (h t)))

  pub maplets-taken : (forms : List program.Form) (k : ℕ) (f : program.Form) → k < length forms → f ≡ get_or forms k f → (before names : List (List ℕ)) (o p all : Option Place)
      → names ≡ before ++ identifier_of (view f) ∷ [] → p ≡ first_onto o (list_misfits (maplet_misfits s wanted before) (view f))
      → first_onto o (maplets_misfits s wanted before (map view (drop k forms))) ≡ all
      → first_onto p (maplets_misfits s wanted names (map view (drop (k + 1) forms))) ≡ all
  maplets-taken forms k f h e before names o p all g q i =
      let rest = map view (drop (k + 1) forms) in
      ap (λ b. first_onto p (maplets_misfits s wanted b rest)) g
      ∙ ap (first_onto p) (maplets-names (before ++ identifier_of (view f) ∷ []) (identifier_of (view f) ∷ before) rest (names-swap before (identifier_of (view f) ∷ [])))
      ∙ ap (λ x. first_onto x (maplets_misfits s wanted (identifier_of (view f) ∷ before) rest)) q
      ∙ sym (first_onto-append place_before o (list_misfits (maplet_misfits s wanted before) (view f)) (maplets_misfits s wanted (identifier_of (view f) ∷ before) rest))
      ∙ sym (ap (λ fs. first_onto o (maplets_misfits s wanted before (map view fs))) (drop_read forms k f h e)) ∙ i

  pub maplets-done : (forms : List program.Form) (k : ℕ) → length forms ≤ k → (b : List (List ℕ)) (o all : Option Place) → first_onto o (maplets_misfits s wanted b (map view (drop k forms))) ≡ all → o ≡ all
  maplets-done forms k h b o all i = ap (λ fs. first_onto o (maplets_misfits s wanted b (map view fs))) (sym (drop_all k forms h)) ∙ i

-- ---- the term of an identifier

place-shift : (n : ℕ) (xs : List (List ℕ)) (t : List ℕ) → place_from (suc n) xs t ≡ option_map suc (place_from n xs t)
place-shift n [] t = refl
place-shift n (x ∷ xs) t = by_test (same_text t x) (place-shift (suc n) xs t)
  where
    by_test : (b : Bool) → place_from (suc (suc n)) xs t ≡ option_map suc (place_from (suc n) xs t)
        → (if b then Some (suc n) else place_from (suc (suc n)) xs t) ≡ option_map suc (if b then Some n else place_from (suc n) xs t)
    by_test true e = refl
    by_test false e = e

module _ (s : Scope) (t : List ℕ) where
  abbrev value_at : Option ℕ → List Form → Term
  value_at None fs = tag_term []
  value_at (Some p) fs = value_of_item s (item_at fs p)

  value_behind : (o : Option ℕ) (f : Form) (fs : List Form) → value_at o fs ≡ value_at (option_map suc o) (f ∷ fs)
  value_behind None f fs = refl
  value_behind (Some p) f fs = refl

  value-by : (fs : List Form) → value_mapped s t fs ≡ value_at (place_from 0 (map identifier_of fs) t) fs
  value-by [] = refl
  value-by (f ∷ fs) = by_test (same_text t (identifier_of f)) (value-by fs)
    where
      by_test : (b : Bool) → value_mapped s t fs ≡ value_at (place_from 0 (map identifier_of fs) t) fs
          → (if b then term_or_tag s (second_form (list_items f)) else value_mapped s t fs) ≡ value_at (if b then Some 0 else place_from 1 (map identifier_of fs) t) (f ∷ fs)
      by_test true e = refl
      by_test false e = e ∙ value_behind (place_from 0 (map identifier_of fs) t) f fs ∙ ap (λ o. value_at o (f ∷ fs)) (sym (place-shift 0 (map identifier_of fs) t))

  pub value-missing : (fs : List Form) (names : List (List ℕ)) → names ≡ map identifier_of fs → None ≡ place_from 0 names t → tag_term [] ≡ value_mapped s t fs
  value-missing fs names g e = ap (λ o. value_at o fs) (e ∙ ap (λ ns. place_from 0 ns t) g) ∙ sym (value-by fs)

  pub value-found : (fs : List Form) (names : List (List ℕ)) (p : ℕ) → names ≡ map identifier_of fs → Some p ≡ place_from 0 names t → value_of_item s (item_at fs p) ≡ value_mapped s t fs
  value-found fs names p g e = ap (λ o. value_at o fs) (e ∙ ap (λ ns. place_from 0 ns t) g) ∙ sym (value-by fs)

-- the terms of several identifiers
pub each-value : (s : Scope) (maplets : List Form) (ds : List Declaration) → map (λ (d : Declaration). value_mapped s d.identifier maplets) (map (λ d. d) ds) ≡ values_mapped s maplets ds
each-value s maplets [] = refl
each-value s maplets (d ∷ ds) = ap (λ ts. value_mapped s d.identifier maplets ∷ ts) (each-value s maplets ds)
