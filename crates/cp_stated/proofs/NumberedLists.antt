-- Strands of a problem, variables of a prefix and names of variables, one after another.
use Rattle.std.proofs.Common.{◌≡◌, ℕ, ◌+◌, ◌<◌, ◌≤◌, List, [], ◌∷◌, ◌++◌, length, get_or, map, drop, Bool, true, false, if◌then◌else◌, refl, sym, ap, ◌∙◌, add-one, arith, ltb-true}
use Rattle.std.specs.Prelude.{Option, Some, slice_get, nat_lt, not}
use Rattle.std.proofs.lemmas.Bool.{ltb-false}
use Rattle.std.proofs.lemmas.List.{drop_all, append_assoc, append-nil}
use Rattle.cp_lists.specs.Lists.{item_at}
use Rattle.cp_lists.proofs.Members.{drop_read}
use Rattle.cp_lists.proofs.Items.{slice_get_item, map_of_item}
use Rattle.cp_lists.proofs.Fronts.{next_of}
use Rattle.cp_base.specs.declared.place.Place.{Place}
use Rattle.cp_model.specs.declared.variable.Variable.{Variable}
use Rattle.cp_model.specs.declared.variable.Declaration.{Declaration}
use Rattle.cp_model.specs.Skeleton.{SkeletonStrand}
use Rattle.cp_model.specs.Same.{has_variable}
use Rattle.cp_model.specs.Data.{sorts}
use Rattle.cp_model.specs.declared.sort.Sort.{Sort}
use Rattle.cp_sexpr.specs.View.{view}
use Rattle.cp_sexpr.specs.declared.form.Form as program
use Rattle.cp_language.specs.Faults.{place_of}
use Rattle.cp_report.specs.Misfits.{place_before, misfit, misfit_unless}
use Rattle.cp_report.specs.Skeletons.{declared_in_prefix, named_declarations, strand_number_misfits}
use Rattle.cp_spelled.specs.FirstMisfit.{first_onto}
use Rattle.cp_scope.proofs.FirstOf.{first_onto-append}
use Rattle.cp_stated.specs.ProblemMap.{strands_of_problem_misfits}

-- ---- a strand for each of the problem's

module _ (problem : List SkeletonStrand) (strands : List SkeletonStrand) (at : Place) (items : List program.Form) (k : ℕ) where
  abbrev asked : ℕ → List Place
  asked n = strands_of_problem_misfits (drop n problem) strands at (map view (drop n items))

  both_read : (f : program.Form) → k < length items → f ≡ get_or items k f → (ps : List SkeletonStrand) → drop k problem ≡ ps → asked k ≡ strands_of_problem_misfits ps strands at (view f ∷ map view (drop (k + 1) items))
  both_read f h e ps d = ap (λ ks. strands_of_problem_misfits ks strands at (map view (drop k items))) d ∙ ap (λ fs. strands_of_problem_misfits ps strands at (map view fs)) (drop_read items k f h e)

  pub number-taken : (f : program.Form) → k < length items → f ≡ get_or items k f → k < length problem → (o p all : Option Place) → p ≡ first_onto o (strand_number_misfits strands (view f))
      → first_onto o (asked k) ≡ all → first_onto p (asked (k + 1)) ≡ all
  number-taken f h e g o p all q i =
      let next = next_of problem k g in
      ap (λ x. first_onto x (asked (k + 1))) q ∙ sym (first_onto-append place_before o (strand_number_misfits strands (view f)) (asked (k + 1)))
      ∙ sym (ap (first_onto o) (both_read f h e (next.0 ∷ drop (k + 1) problem) next.2)) ∙ i

  pub number-too-many : (f : program.Form) → k < length items → f ≡ get_or items k f → length problem ≤ k → (o p all : Option Place) → p ≡ first_onto o (misfit (place_of (view f)))
      → first_onto o (asked k) ≡ all → p ≡ all
  number-too-many f h e g o p all q i = q ∙ sym (ap (first_onto o) (both_read f h e [] (drop_all k problem g))) ∙ i

  none_read : length items ≤ k → (ps : List SkeletonStrand) → drop k problem ≡ ps → asked k ≡ strands_of_problem_misfits ps strands at []
  none_read h ps d = ap (λ ks. strands_of_problem_misfits ks strands at (map view (drop k items))) d ∙ ap (λ fs. strands_of_problem_misfits ps strands at (map view fs)) (drop_all k items h)

  ended : (b : Bool) → b ≡ nat_lt (length items) (length problem) → length items ≤ k → k ≤ length items → (o p all : Option Place) → p ≡ first_onto o (misfit_unless (not b) at) → first_onto o (asked k) ≡ all → p ≡ all
  ended true t h g o p all q i =
      let less : length items < length problem = ltb-true (length items) (length problem) (sym t) in
      let next = next_of problem k (omega arith) in
      q ∙ sym (ap (first_onto o) (none_read h (next.0 ∷ drop (k + 1) problem) next.2)) ∙ i
  ended false t h g o p all q i =
      let more : length problem ≤ length items = ltb-false (length items) (length problem) (sym t) in
      q ∙ sym (ap (first_onto o) (none_read h [] (drop_all k problem (omega arith)))) ∙ i

  pub numbers-done : length items ≤ k → k ≤ length items → (b : Bool) → b ≡ nat_lt (length items) (length problem) → (o p all : Option Place) → p ≡ first_onto o (misfit_unless (not b) at) → first_onto o (asked k) ≡ all → p ≡ all
  numbers-done h g b t o p all q i = ended b t h g o p all q i

-- ---- variables of a prefix

module _ (prefix : List Variable) (vars : List Declaration) (k : ℕ) where
  abbrev wanted : ℕ → List Declaration
  wanted n = declared_in_prefix prefix n (drop n vars)

  by_test : (d : Declaration) → k < length vars → d ≡ get_or vars k d → (b : Bool) → b ≡ has_variable prefix (record { sort = d.sort; number = k })
      → wanted k ≡ (if b then d ∷ wanted (k + 1) else wanted (k + 1))
  by_test d h e b t =
      ap (λ ds. declared_in_prefix prefix k ds) (drop_read vars k d h e)
      ∙ ap (λ n. if has_variable prefix (record { sort = d.sort; number = k }) then d ∷ declared_in_prefix prefix n (drop (k + 1) vars) else declared_in_prefix prefix n (drop (k + 1) vars)) (sym (add-one k))
      ∙ ap (λ c. if c then d ∷ wanted (k + 1) else wanted (k + 1)) (sym t)

  pub variable-wanted : (d : Declaration) → k < length vars → d ≡ get_or vars k d → (b : Bool) → b ≡ has_variable prefix (record { sort = d.sort; number = k }) → b ≡ true
      → (ds es all : List Declaration) → es ≡ ds ++ d ∷ [] → ds ++ wanted k ≡ all → es ++ wanted (k + 1) ≡ all
  variable-wanted d h e b t is ds es all q i =
      ap (λ xs. xs ++ wanted (k + 1)) q ∙ append_assoc ds (d ∷ []) (wanted (k + 1))
      ∙ sym (ap (λ c. ds ++ (if c then d ∷ wanted (k + 1) else wanted (k + 1))) is) ∙ sym (ap (λ xs. ds ++ xs) (by_test d h e b t)) ∙ i

  pub variable-passed : (d : Declaration) → k < length vars → d ≡ get_or vars k d → (b : Bool) → b ≡ has_variable prefix (record { sort = d.sort; number = k }) → b ≡ false
      → (ds all : List Declaration) → ds ++ wanted k ≡ all → ds ++ wanted (k + 1) ≡ all
  variable-passed d h e b t is ds all i =
      sym (ap (λ c. ds ++ (if c then d ∷ wanted (k + 1) else wanted (k + 1))) is) ∙ sym (ap (λ xs. ds ++ xs) (by_test d h e b t)) ∙ i

  pub variables-wanted : length vars ≤ k → (ds all : List Declaration) → ds ++ wanted k ≡ all → ds ≡ all
  variables-wanted h ds all i = sym (append-nil ds) ∙ sym (ap (λ xs. ds ++ declared_in_prefix prefix k xs) (drop_all k vars h)) ∙ i

-- ---- variables under their names

module _ (names : List (List ℕ)) (table : List Declaration) (k : ℕ) where
  abbrev left : ℕ → List Declaration
  left n = named_declarations (drop n names) (drop n table)

  sort_there : (d : Declaration) (s : Sort) → item_at table k ≡ Some d → slice_get (sorts table) k ≡ Some s → d.sort ≡ s
  sort_there d s e g = let same : Some d.sort ≡ Some s = sym (map_of_item (λ x. x.sort) table k d e) ∙ sym (slice_get_item (sorts table) k) ∙ g in cc

  pub name-taken : (x : List ℕ) → k < length names → x ≡ get_or names k x → k < length table → (s : Sort) → slice_get (sorts table) k ≡ Some s
      → (ds es all : List Declaration) → es ≡ ds ++ record { identifier = x; sort = s } ∷ [] → ds ++ left k ≡ all → es ++ left (k + 1) ≡ all
  name-taken x h e g s t ds es all q i =
      let next = next_of table k g in
      let d = next.0 in
      let sort : s ≡ d.sort = sym (sort_there d s next.1 t) in
      let this : Declaration = record { identifier = x; sort = d.sort } in
      ap (λ xs. xs ++ left (k + 1)) (q ∙ ap (λ r. ds ++ record { identifier = x; sort = r } ∷ []) sort) ∙ append_assoc ds (this ∷ []) (left (k + 1))
      ∙ sym (ap (λ xs. ds ++ named_declarations xs (drop k table)) (drop_read names k x h e) ∙ ap (λ xs. ds ++ named_declarations (x ∷ drop (k + 1) names) xs) next.2) ∙ i

  no_variables : (xs : List (List ℕ)) → named_declarations xs [] ≡ []
  no_variables [] = refl
  no_variables (x ∷ xs) = refl

  pub names-past : length table ≤ k → (ds all : List Declaration) → ds ++ left k ≡ all → ds ≡ all
  names-past h ds all i = sym (append-nil ds) ∙ sym (ap (λ xs. ds ++ named_declarations (drop k names) xs) (drop_all k table h) ∙ ap (λ xs. ds ++ xs) (no_variables (drop k names))) ∙ i

  pub names-done : length names ≤ k → (ds all : List Declaration) → ds ++ left k ≡ all → ds ≡ all
  names-done h ds all i = sym (append-nil ds) ∙ sym (ap (λ xs. ds ++ named_declarations xs (drop k table)) (drop_all k names h)) ∙ i
