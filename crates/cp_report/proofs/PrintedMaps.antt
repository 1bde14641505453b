-- The map item as a report prints it fits, and gives strands and terms back.
use Rattle.std.proofs.Common.{◌≡◌, ℕ, ◌<◌, List, [], ◌∷◌, ◌++◌, length, Bool, refl, ap, ◌∙◌, arith, lt-ltb}
use Rattle.std.specs.Prelude.{map}
use Rattle.cp_base.specs.declared.place.Place.{Place}
use Rattle.cp_lists.specs.Lists.{IsIn, here, there}
use Rattle.cp_lists.proofs.Members.{in_append_left, in_append_right}
use Rattle.cp_model.specs.Senders.{ArePaired}
use Rattle.cp_model.specs.Term.{Term, variables_of, apply_to}
use Rattle.cp_model.specs.declared.variable.Variable.{Variable}
use Rattle.cp_model.specs.declared.variable.Declaration.{Declaration}
use Rattle.cp_model.specs.Skeleton.{SkeletonStrand}
use Rattle.cp_sexpr.specs.Syntax.{Form, forms_of}
use Rattle.cp_language.specs.Faults.{items_of}
use Rattle.cp_language.specs.Problems.{number_of}
use Rattle.cp_language.specs.Names.{identifiers_in}
use Rattle.cp_language.specs.Printed.{word, numeral, plain_list, no_place, term_form}
use Rattle.cp_language.specs.Report.{variables_of_terms, value_forms}
use Rattle.cp_report.specs.Misfits.{misfit_unless, list_misfits, entries_misfits}
use Rattle.cp_report.specs.Spelled.{Scope, term_in}
use Rattle.cp_report.specs.Skeletons.{mapping_misfits, values_mapped, named_declarations, strand_number_misfits}
use Rattle.cp_report.specs.FittingTrees.{HasSortOf}
use Rattle.cp_report.specs.UpToNames.{renamed, renaming}
use Rattle.cp_report.proofs.SpelledTerms.{StandsFor, printed_term_fits}
use Rattle.cp_report.proofs.CoveringPairs.{AreApart}
use Rattle.cp_report.proofs.PrintedMaplets.{maplets_of, ValuesFit, mapping_fits, values_back}
use Rattle.cp_report.proofs.ApartIdentifiers.{all_found}
use Rattle.cp_report.proofs.PrintedStrands.{items_back, sorted_value}

-- ---- strands

numbers_fit : (strands ks : List SkeletonStrand) (ns : List ℕ) (at : Place) → length ns ≡ length ks → ((n : ℕ) → IsIn n ns → n < length strands) → entries_misfits (map (λ k. strand_number_misfits strands) ks) at (map numeral ns) ≡ []
numbers_fit strands [] [] at e within = refl
numbers_fit strands [] (n ∷ ns) at e within = absurd (omega (arith, e))
numbers_fit strands (k ∷ ks) [] at e within = absurd (omega (arith, e))
numbers_fit strands (k ∷ ks) (n ∷ ns) at e within =
    let less : length ns ≡ length ks = omega (arith, e) in
    ap (λ (b : Bool). misfit_unless b no_place ++ entries_misfits (map (λ c. strand_number_misfits strands) ks) at (map numeral ns)) (lt-ltb n (length strands) (within n here))
    ∙ numbers_fit strands ks ns at less (λ m i. within m (there i))

-- An entry for each strand of the problem, each of them a strand here, fits.
pub strands_fit : (strands ks : List SkeletonStrand) (ns : List ℕ) → length ns ≡ length ks → ((n : ℕ) → IsIn n ns → n < length strands)
    → list_misfits (entries_misfits (map (λ k. strand_number_misfits strands) ks)) (plain_list (map numeral ns)) ≡ []
strands_fit strands ks ns e within =
    ap (entries_misfits (map (λ k. strand_number_misfits strands) ks) no_place) (items_back (map numeral ns)) ∙ numbers_fit strands ks ns no_place e within

pub numbers_same : (ns : List ℕ) → map number_of (map numeral ns) ≡ ns
numbers_same [] = refl
numbers_same (n ∷ ns) = ap (λ ms. n ∷ ms) (numbers_same ns)

pub numbers_back : (ns : List ℕ) → map number_of (items_of (forms_of (map numeral ns))) ≡ ns
numbers_back ns = ap (map number_of) (items_back (map numeral ns)) ∙ numbers_same ns

-- ---- terms

pub named_identifiers : (names : List (List ℕ)) (ds : List Declaration) → length names ≡ length ds → identifiers_in (named_declarations names ds) ≡ names
named_identifiers [] ds e = refl
named_identifiers (x ∷ xs) [] e = absurd (omega (arith, e))
named_identifiers (x ∷ xs) (d ∷ ds) e = let less : length xs ≡ length ds = omega (arith, e) in ap (λ ts. x ∷ ts) (named_identifiers xs ds less)

module _ (s : Scope) (named : Variable → Form) (number : Variable → ℕ) where
  abbrev Stand : List Variable → Type 0
  Stand xs = (x : Variable) → IsIn x xs → StandsFor s (named x) (renamed number x)

  maplets_are : (names : List (List ℕ)) (ds : List Declaration) (ts : List Term) → length names ≡ length ds → value_forms named names ts ≡ maplets_of (named_declarations names ds) (map (term_form named) ts)
  maplets_are [] ds ts e = refl
  maplets_are (x ∷ xs) [] ts e = absurd (omega (arith, e))
  maplets_are (x ∷ xs) (d ∷ ds) [] e = refl
  maplets_are (x ∷ xs) (d ∷ ds) (t ∷ ts) e =
      let less : length xs ≡ length ds = omega (arith, e) in
      ap (λ (fs : List Form). plain_list (word x ∷ term_form named t ∷ []) ∷ fs) (maplets_are xs ds ts less)

  terms_fit : (names : List (List ℕ)) (ds : List Declaration) (ts : List Term) → length names ≡ length ds → ArePaired HasSortOf ds ts → Stand (variables_of_terms ts)
      → ValuesFit s (named_declarations names ds) (map (term_form named) ts)
  terms_fit [] [] [] e paired h = tt
  terms_fit [] [] (t ∷ ts) e paired h = absurd paired
  terms_fit [] (d ∷ ds) ts e paired h = absurd (omega (arith, e))
  terms_fit (x ∷ xs) [] ts e paired h = absurd (omega (arith, e))
  terms_fit (x ∷ xs) (d ∷ ds) [] e paired h = absurd paired
  terms_fit (x ∷ xs) (d ∷ ds) (t ∷ ts) e paired h =
      let less : length xs ≡ length ds = omega (arith, e) in
      let first : Stand (variables_of t) = λ y m. h y (in_append_left (variables_of_terms ts) m) in
      (((printed_term_fits s named number t first).0, sorted_value s named number d.sort t first paired.0), terms_fit xs ds ts less paired.1 (λ y m. h y (in_append_right (variables_of t) m)))

  -- The maplets of the problem's variables fit,
  pub values_fit : (at : Place) (names : List (List ℕ)) (ds : List Declaration) (ts : List Term) → length names ≡ length ds → AreApart (identifiers_in (named_declarations names ds)) → ArePaired HasSortOf ds ts
      → Stand (variables_of_terms ts) → mapping_misfits s (named_declarations names ds) at (value_forms named names ts) ≡ []
  values_fit at names ds ts e apart paired h =
      let wanted = named_declarations names ds in
      ap (mapping_misfits s wanted at) (maplets_are names ds ts e)
      ∙ mapping_fits s at wanted (map (term_form named) ts) (all_found wanted apart) apart (terms_fit names ds ts e paired h)

  terms_back : (ts : List Term) → Stand (variables_of_terms ts) → map (term_in s) (map (term_form named) ts) ≡ map (apply_to (renaming number)) ts
  terms_back [] h = refl
  terms_back (t ∷ ts) h =
      ap (λ (u : Term). u ∷ map (term_in s) (map (term_form named) ts)) (printed_term_fits s named number t (λ y m. h y (in_append_left (variables_of_terms ts) m))).1
      ∙ ap (λ (us : List Term). apply_to (renaming number) t ∷ us) (terms_back ts (λ y m. h y (in_append_right (variables_of t) m)))

  -- and give the terms back under the renaming.
  pub values_return : (names : List (List ℕ)) (ds : List Declaration) (ts : List Term) → length names ≡ length ds → AreApart (identifiers_in (named_declarations names ds)) → ArePaired HasSortOf ds ts
      → Stand (variables_of_terms ts) → values_mapped s (value_forms named names ts) (named_declarations names ds) ≡ map (apply_to (renaming number)) ts
  values_return names ds ts e apart paired h =
      let wanted = named_declarations names ds in
      ap (λ (fs : List Form). values_mapped s fs wanted) (maplets_are names ds ts e)
      ∙ values_back s wanted (map (term_form named) ts) apart (terms_fit names ds ts e paired h) ∙ terms_back ts h
