-- Maplets that fit give each wanted variable an atom of its sort, and a map that fits is one from the problem.
use Rattle.std.proofs.Common.{◌≡◌, ℕ, suc, List, [], ◌∷◌, ◌++◌, length, Bool, true, false, ◌&&◌, ◌||◌, not, refl, sym, ap, ◌∙◌, subst, arith, if◌then◌else◌}
use Rattle.std.specs.Prelude.{Option, Some, None, map}
use Rattle.std.proofs.lemmas.Bool.{and_parts}
use Rattle.cp_base.specs.declared.place.Place.{Place}
use Rattle.cp_lists.specs.Lists.{IsIn, here, there}
use Rattle.cp_lists.proofs.Appended.{none_before, none_behind, some_behind}
use Rattle.cp_model.specs.declared.sort.Sort.{Sort}
use Rattle.cp_model.specs.declared.variable.Variable.{Variable}
use Rattle.cp_model.specs.declared.variable.Declaration.{Declaration}
use Rattle.cp_model.specs.Same.{same_text}
use Rattle.cp_model.specs.Senders.{ArePaired}
use Rattle.cp_model.specs.Skeleton.{SkeletonStrand}
use Rattle.cp_model.proofs.SameTests.{text_is}
use Rattle.cp_sexpr.specs.Syntax.{Form, Forms, none, more, symbol, string, number, list}
use Rattle.cp_language.specs.Words.{is_one_of}
use Rattle.cp_language.specs.Faults.{place_of, items_of}
use Rattle.cp_language.specs.Roles.{list_items, text_of_symbol}
use Rattle.cp_language.specs.Terms.{variable_named}
use Rattle.cp_language.specs.Names.{identifiers_in, problem_names}
use Rattle.cp_language.specs.Problems.{Problem, is_known, number_of, name_in_front, second_form}
use Rattle.cp_report.specs.Misfits.{misfit_unless, entries_misfits, list_misfits, symbol_misfits}
use Rattle.cp_report.specs.Heads.{forms_after_head, entries_or_none, optional_misfits}
use Rattle.cp_report.specs.Spelled.{Scope, plain_scope, value_misfits}
use Rattle.cp_report.specs.Skeletons.{identifier_of, maplet_misfits, maplets_misfits, are_mapped, mapping_misfits, term_or_tag, value_mapped, values_mapped, named_declarations, problem_variables, strand_number_misfits, map_misfits, strands_mapped, values_of_map}
use Rattle.cp_report.specs.FittingTrees.{HasSortOf}
use Rattle.cp_report.proofs.CoveringPairs.{AreApart}
use Rattle.cp_report.proofs.ApartIdentifiers.{apart_named, all_found}
use Rattle.cp_report.proofs.DistinctNames.{AreDifferent, as_many_names}
use Rattle.cp_report.proofs.PrintedMaps.{named_identifiers}
use Rattle.cp_report.proofs.NoMisfits.{none_of_unless, holds}
use Rattle.cp_readback.proofs.PlainTerms.{IsValue, value_fits}

-- The entries behind the first.
abbrev pub behind_first : List Form → List Form
behind_first [] = []
behind_first (f ∷ fs) = fs

module _ (ds : List Declaration) where
  abbrev s : Scope
  s = plain_scope ds

  -- ---- one maplet

  module _ (wanted : List Declaration) where
    -- The entries of a maplet give the wanted variable that they name an atom of its sort.
    of_entries : (x : Variable) (before : List (List ℕ)) (at : Place) (fs : Forms) → maplet_misfits s wanted before at (items_of fs) ≡ [] → variable_named wanted (name_in_front (items_of fs)) ≡ Some x
        → IsValue ds x.sort (term_or_tag s (second_form (items_of fs)))
    of_entries x before at none e q = absurd (cc)
    of_entries x before at (more f none) e q = absurd (some_behind (symbol_misfits (λ t. is_known (variable_named wanted t) && not (is_one_of t before)) f) at e)
    of_entries x before at (more f (more g gs)) e q =
        let behind = none_behind (symbol_misfits (λ t. is_known (variable_named wanted t) && not (is_one_of t before)) f) (value_misfits s (variable_named wanted (text_of_symbol f)) g ++ entries_misfits [] at (items_of gs)) e in
        let value : value_misfits s (Some x) g ≡ [] = subst (λ (o : Option Variable). value_misfits s o g ≡ []) q (none_before (value_misfits s (variable_named wanted (text_of_symbol f)) g) (entries_misfits [] at (items_of gs)) behind) in
        value_fits ds x.sort g value

    -- So does a maplet.
    of_maplet : (x : Variable) (before : List (List ℕ)) (f : Form) → list_misfits (maplet_misfits s wanted before) f ≡ [] → variable_named wanted (identifier_of f) ≡ Some x → IsValue ds x.sort (term_or_tag s (second_form (list_items f)))
    of_maplet x before (symbol at t) e q = absurd (cc)
    of_maplet x before (string at t) e q = absurd (cc)
    of_maplet x before (number at n) e q = absurd (cc)
    of_maplet x before (list at fs) e q = of_entries x before at fs e q

    -- A variable that is mapped gets an atom of its sort.
    value_given : (t : List ℕ) (x : Variable) → variable_named wanted t ≡ Some x → (before : List (List ℕ)) (fs : List Form) → maplets_misfits s wanted before fs ≡ [] → is_one_of t (map identifier_of fs) ≡ true → IsValue ds x.sort (value_mapped s t fs)
    value_given t x found before [] e h = absurd (cc)
    value_given t x found before (f ∷ fs) e h =
        by (same_text t (identifier_of f)) refl h (value_given t x found (identifier_of f ∷ before) fs (none_behind (list_misfits (maplet_misfits s wanted before) f) (maplets_misfits s wanted (identifier_of f ∷ before) fs) e))
      where
        by : (b : Bool) → same_text t (identifier_of f) ≡ b → (b || is_one_of t (map identifier_of fs)) ≡ true → (is_one_of t (map identifier_of fs) ≡ true → IsValue ds x.sort (value_mapped s t fs))
            → IsValue ds x.sort (if b then term_or_tag s (second_form (list_items f)) else value_mapped s t fs)
        by true q i rest =
            of_maplet x before f (none_before (list_misfits (maplet_misfits s wanted before) f) (maplets_misfits s wanted (identifier_of f ∷ before) fs) e)
            (sym (ap (variable_named wanted) (text_is t (identifier_of f) q)) ∙ found)
        by false q i rest = rest i

    -- Each of the wanted variables is mapped.
    is_mapped : (cs : List Declaration) (names : List (List ℕ)) → are_mapped cs names ≡ true → (d : Declaration) → IsIn d cs → is_one_of d.identifier names ≡ true
    is_mapped [] names e d m = elim m [ ]
    is_mapped (c ∷ cs) names e d here = (and_parts (is_one_of d.identifier names) (are_mapped cs names) e).0
    is_mapped (c ∷ cs) names e d (there m) = is_mapped cs names (and_parts (is_one_of c.identifier names) (are_mapped cs names) e).1 d m

    -- So each of the wanted variables, if their identifiers are different, gets an atom of its sort.
    pub mapping_values : AreApart (identifiers_in wanted) → (at : Place) (fs : List Form) → mapping_misfits s wanted at fs ≡ [] → (d : Declaration) → IsIn d wanted → IsValue ds d.sort (value_mapped s d.identifier fs)
    mapping_values apart at fs e d m =
        let parts = none_of_unless (maplets_misfits s wanted [] fs) (misfit_unless (are_mapped wanted (map identifier_of fs)) at) e in
        let found = all_found wanted apart d m in
        subst (λ (r : Sort). IsValue ds r (value_mapped s d.identifier fs)) found.2
        (value_given d.identifier found.0 found.1 [] fs parts.0 (is_mapped wanted (map identifier_of fs) (holds (are_mapped wanted (map identifier_of fs)) at parts.1) d m))

  -- ---- the map from the problem

  -- The values of declarations under other names are those of the declarations.
  paired_values : (fs : List Form) (names : List (List ℕ)) (cs : List Declaration) → length names ≡ length cs → ((d : Declaration) → IsIn d (named_declarations names cs) → IsValue ds d.sort (value_mapped s d.identifier fs))
      → ArePaired HasSortOf cs (values_mapped s fs (named_declarations names cs))
  paired_values fs [] [] e h = tt
  paired_values fs [] (c ∷ cs) e h = absurd (omega (arith, e))
  paired_values fs (x ∷ xs) [] e h = absurd (omega (arith, e))
  paired_values fs (x ∷ xs) (c ∷ cs) e h =
      let less : length xs ≡ length cs = omega (arith, e) in
      let v = h (record { identifier = x; sort = c.sort }) here in
      ((v.atom, v.is, v.sort), paired_values fs xs cs less (λ d m. h d (there m)))

  module _ (p : Problem) (differ : AreDifferent (problem_names p.declared p.variables)) (strands : List SkeletonStrand) where
    -- The identifiers of the problem's variables in a report are different.
    apart_variables : AreApart (identifiers_in (problem_variables p))
    apart_variables = apart_named (problem_variables p) (problem_names p.declared p.variables) (named_identifiers (problem_names p.declared p.variables) p.variables (as_many_names p.declared p.variables)) differ

    -- As many numbers as strands stand in a list.
    as_many_numbers : (ks : List SkeletonStrand) (at : Place) (fs : List Form) → entries_misfits (map (λ k. strand_number_misfits strands) ks) at fs ≡ [] → length (map number_of fs) ≡ length ks
    as_many_numbers [] at [] e = refl
    as_many_numbers [] at (f ∷ fs) e = absurd (cc)
    as_many_numbers (k ∷ ks) at [] e = absurd (cc)
    as_many_numbers (k ∷ ks) at (f ∷ fs) e = ap suc (as_many_numbers ks at fs (none_behind (strand_number_misfits strands f) (entries_misfits (map (λ c. strand_number_misfits strands) ks) at fs) e))

    -- The same of the list.
    as_many_listed : (ks : List SkeletonStrand) (f : Form) → list_misfits (entries_misfits (map (λ k. strand_number_misfits strands) ks)) f ≡ [] → length (map number_of (list_items f)) ≡ length ks
    as_many_listed ks (symbol at t) e = absurd (cc)
    as_many_listed ks (string at t) e = absurd (cc)
    as_many_listed ks (number at n) e = absurd (cc)
    as_many_listed ks (list at fs) e = as_many_numbers ks at (items_of fs) e

    -- What holds of the entries of a map.
    pub record IsMap (fs : List Form) : Type 0 where
      pub as_many : length (strands_mapped fs) ≡ length p.skeleton.strands
      pub paired : ArePaired HasSortOf p.variables (values_of_map p s fs)
      pub each : (d : Declaration) → IsIn d (problem_variables p) → IsValue ds d.sort (value_mapped s d.identifier (behind_first fs))

    -- Entries that fit are a map.
    map_of_entries : (at : Place) (fs : List Form) → map_misfits p s strands at fs ≡ [] → IsMap fs
    map_of_entries at [] e = absurd (cc)
    map_of_entries at (f ∷ fs) e =
        let shape = list_misfits (entries_misfits (map (λ k. strand_number_misfits strands) p.skeleton.strands)) f in
        let each = mapping_values (problem_variables p) apart_variables at fs (none_behind shape (mapping_misfits s (problem_variables p) at fs) e) in
        record {
          as_many = as_many_listed p.skeleton.strands f (none_before shape (mapping_misfits s (problem_variables p) at fs) e);
          paired = paired_values fs (problem_names p.declared p.variables) p.variables (as_many_names p.declared p.variables) each;
          each = each;
        }

    -- The same of the item, which has to be there.
    pub map_is : (o : Option Form) → is_known o ≡ true → optional_misfits (map_misfits p s strands) o ≡ [] → IsMap (entries_or_none o)
    map_is None known e = absurd (cc)
    map_is (Some f) known e = map_of_entries (place_of f) (forms_after_head f) e
