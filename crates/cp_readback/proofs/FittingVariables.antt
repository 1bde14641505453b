-- The variables that occur in a label that fits are declared in it.
use Rattle.std.proofs.Common.{◌≡◌, ℕ, zero, suc, ◌+◌, List, [], ◌∷◌, ◌++◌, length, Bool, true, false, refl, sym, ap, ◌∙◌, subst, arith, if◌then◌else◌}
use Rattle.std.specs.Prelude.{Option, Some, None, map}
use Rattle.std.proofs.lemmas.Bool.{both_ways}
use Rattle.cp_base.specs.declared.place.Place.{Place}
use Rattle.cp_lists.specs.Lists.{item_at, IsIn, here, there}
use Rattle.cp_lists.proofs.Appended.{none_before, none_behind, none_of_three}
use Rattle.cp_lists.proofs.Items.{at_place, item_of_map}
use Rattle.cp_lists.proofs.Members.{at_head}
use Rattle.cp_model.specs.Term.{Substitution, apply_to, variable_term, AtomTerm, Term, variables_of, variables_of_atom}
use Rattle.cp_model.specs.declared.sort.Sort.{Sort}
use Rattle.cp_model.specs.declared.variable.Variable.{Variable}
use Rattle.cp_model.specs.Strand.{Role, event_map, prefix_of, variables_of_trace, variables_of_prefix}
use Rattle.cp_model.specs.declared.variable.Declaration.{Declaration}
use Rattle.cp_model.specs.Homomorphism.{substitution_by}
use Rattle.cp_model.specs.Problem.{IsDeclared, variables_of_strands, variables_of_atoms, variables_of_uniques, variables_of_terms}
use Rattle.cp_model.specs.Same.{has_variable}
use Rattle.cp_model.specs.Skeleton.{SkeletonStrand, listener, skeleton_trace, UniqueAt}
use Rattle.cp_model.proofs.DeclaredTerms.{bindings_are}
use Rattle.cp_model.proofs.LawPrefixes.{in_front_of_trace}
use Rattle.cp_model.proofs.OccurringVariables.{strand_with}
use Rattle.cp_model.proofs.SameTests.{in_has_variable}
use Rattle.cp_model.proofs.UnderVariables.{of_trace}
use Rattle.cp_sexpr.specs.Syntax.{Form, none, more, symbol, string, number, list}
use Rattle.cp_language.specs.Faults.{place_of, items_of}
use Rattle.cp_language.specs.Roles.{text_of_symbol}
use Rattle.cp_language.specs.Problems.{Problem, role_named, is_known, first_form, second_form, number_of}
use Rattle.cp_language.specs.Report.{variables_of_test, variables_but, variables_of_patterns}
use Rattle.cp_language.specs.Role.{IsWellFormedRole}
use Rattle.cp_language.proofs.Strands.{role_listed}
use Rattle.cp_language.proofs.Terms.{AreDeclared, none_declared, both_declared, named_is_declared}
use Rattle.cp_report.specs.Misfits.{misfit_unless, lacking, each_misfits, entries_misfits, list_misfits, symbol_misfits}
use Rattle.cp_report.specs.Heads.{forms_after_head, entries_or_none, optional_misfits}
use Rattle.cp_report.specs.Spelled.{Scope, plain_scope, term_misfits, term_in, atom_misfits, atom_in, locals_in, locals_onto, clash_misfits, place_of_local, variables_of_locals, pattern_scope, pattern_misfits, pattern_of}
use Rattle.cp_report.specs.Skeletons.{node_misfits, height_misfits, declared_in_prefix, prefix_misfits, instance_misfits, states_instance, strand_misfits, instance_with, instance_of_entries, strand_of, term_or_tag, value_mapped, values_mapped, atoms_misfits, unique_of, unique_misfits, uniques_misfits, problem_variables, values_of_map}
use Rattle.cp_report.specs.Labels.{test_misfits, test_of}
use Rattle.cp_report.proofs.ApartIdentifiers.{apart_identifiers, apart_in_prefix}
use Rattle.cp_report.proofs.PrintedStrands.{value_taken}
use Rattle.cp_report.proofs.PrintedVariables.{declared_there}
use Rattle.cp_spelled.proofs.Gathered.{each-found}
use Rattle.cp_spelled.proofs.Patterned.{IsOf, named, stated, term-agrees}
use Rattle.cp_report.proofs.NoMisfits.{none_of_unless, none_of_each}
use Rattle.cp_readback.proofs.FittingTests.{patterns_misfits}
use Rattle.cp_readback.proofs.PlainTerms.{IsValue, term_sound, atom_declared}
use Rattle.cp_readback.proofs.FittingMaps.{mapping_values, behind_first}

-- ---- the variables of a prefix

-- A variable of the prefix that is declared is among those that have maplets.
prefix_listed : (prefix : List Variable) (n : ℕ) (ds : List Declaration) (i : ℕ) (d : Declaration) → item_at ds i ≡ Some d → has_variable prefix (record { sort = d.sort; number = n + i }) ≡ true → IsIn d (declared_in_prefix prefix n ds)
prefix_listed prefix n [] i d e h = absurd (cc)
prefix_listed prefix n (c ∷ ds) zero d e h =
    let same : c ≡ d = cc in
    let z : n + 0 ≡ n = omega arith in
    first (subst (λ (k : ℕ). has_variable prefix (record { sort = c.sort; number = k }) ≡ true) z (subst (λ (x : Declaration). has_variable prefix (record { sort = x.sort; number = n + 0 }) ≡ true) (sym same) h)) (sym same)
  where
    first : has_variable prefix (record { sort = c.sort; number = n }) ≡ true → d ≡ c → IsIn d (declared_in_prefix prefix n (c ∷ ds))
    first t same = subst (λ (b : Bool). IsIn d (if b then c ∷ declared_in_prefix prefix (suc n) ds else declared_in_prefix prefix (suc n) ds)) (sym t) (at_head same)
prefix_listed prefix n (c ∷ ds) (suc i) d e h =
    let z : n + suc i ≡ suc n + i = omega arith in
    by (has_variable prefix (record { sort = c.sort; number = n })) (prefix_listed prefix (suc n) ds i d e (subst (λ (k : ℕ). has_variable prefix (record { sort = d.sort; number = k }) ≡ true) z h))
  where
    by : (b : Bool) → IsIn d (declared_in_prefix prefix (suc n) ds) → IsIn d (if b then c ∷ declared_in_prefix prefix (suc n) ds else declared_in_prefix prefix (suc n) ds)
    by true m = there m
    by false m = m

module _ (ds : List Declaration) where
  abbrev s : Scope
  s = plain_scope ds

  -- The term of a variable stands at its place.
  value_at : (fs : List Form) (cs : List Declaration) (i : ℕ) (d : Declaration) → item_at cs i ≡ Some d → item_at (values_mapped s fs cs) i ≡ Some (value_mapped s d.identifier fs)
  value_at fs [] i d e = absurd (cc)
  value_at fs (c ∷ cs) zero d e = let same : c ≡ d = cc in ap (λ (x : Declaration). Some (value_mapped s x.identifier fs)) same
  value_at fs (c ∷ cs) (suc i) d e = value_at fs cs i d e

  -- ---- strands

  -- An instance of a well-formed role, with maplets that fit.
  instance_declared : (role : Role) → IsWellFormedRole role → (height : ℕ) (at : Place) (maplets : List Form) → prefix_misfits s (Some role) height at maplets ≡ []
      → AreDeclared ds (variables_of_trace (skeleton_trace (instance_with s (Some role) height maplets)))
  instance_declared role well height at maplets e =
      subst (λ (f : Substitution). AreDeclared ds (variables_of_trace (map (event_map (apply_to f)) (prefix_of role height)))) (sym (bindings_are (values_mapped s maplets role.variables)))
      (of_trace (IsDeclared ds) (substitution_by (values_mapped s maplets role.variables)) (prefix_of role height) gives)
    where
      prefix : List Variable
      prefix = variables_of_prefix role height

      gives : (x : Variable) → IsIn x (variables_of_prefix role height) → (y : Variable) → IsIn y (variables_of (apply_to (substitution_by (values_mapped s maplets role.variables)) (variable_term x))) → IsDeclared ds y
      gives x m y i =
          let d = declared_there role.variables x (well.trace x (in_front_of_trace height role.trace x m)) in
          let z : 0 + x.number ≡ x.number = omega arith in
          let there_it : has_variable prefix (record { sort = d.0.sort; number = 0 + x.number }) ≡ true =
          subst (λ (r : Sort). has_variable prefix (record { sort = r; number = 0 + x.number }) ≡ true) (sym d.2)
          (subst (λ (k : ℕ). has_variable prefix (record { sort = x.sort; number = k }) ≡ true) (sym z) (in_has_variable prefix x m)) in
          let wanted = declared_in_prefix prefix 0 role.variables in
          let v = mapping_values ds wanted (apart_in_prefix prefix 0 role.variables (apart_identifiers role.variables well.identifiers)) at maplets e d.0 (prefix_listed prefix 0 role.variables x.number d.0 d.1 there_it) in
          let taken = value_taken (values_mapped s maplets role.variables) x.sort x.number v.atom (value_at maplets role.variables x.number d.0 d.1 ∙ ap (λ (t : Term). Some t) v.is) (v.sort ∙ d.2) in
          v.declared y (subst (λ (t : Term). IsIn y (variables_of t)) taken i)

  module _ (roles : List Role) (well : (role : Role) → IsIn role roles → IsWellFormedRole role) where
    -- An instance of a role that is found, if one is.
    by_role : (o : Option Role) → ((r : Role) → o ≡ Some r → IsIn r roles) → (height : ℕ) (at : Place) (maplets : List Form) → prefix_misfits s o height at maplets ≡ [] → AreDeclared ds (variables_of_trace (skeleton_trace (instance_with s o height maplets)))
    by_role None listed height at maplets e = both_declared ds [] [] (none_declared ds) (none_declared ds)
    by_role (Some role) listed height at maplets e = instance_declared role (well role (listed role refl)) height at maplets e

    -- The entries of an instance.
    of_instance : (at : Place) (fs : List Form) → instance_misfits roles s at fs ≡ [] → AreDeclared ds (variables_of_trace (skeleton_trace (instance_of_entries roles s fs)))
    of_instance at [] e = absurd (cc)
    of_instance at (f ∷ []) e = absurd (cc)
    of_instance at (name ∷ h ∷ maplets) e =
        let found = role_named roles (text_of_symbol name) in
        by_role found (λ r q. role_listed roles (text_of_symbol name) r q) (number_of h) at maplets
        (none_of_unless (symbol_misfits (λ t. is_known (role_named roles t)) name ++ height_misfits found h) (prefix_misfits s found (number_of h) at maplets) e).1

    -- The entries of a listener.
    of_listener : (at : Place) (fs : List Form) → entries_misfits (term_misfits s ∷ []) at fs ≡ [] → AreDeclared ds (variables_of_trace (skeleton_trace (listener (term_or_tag s (first_form fs)))))
    of_listener at [] e = absurd (cc)
    of_listener at (f ∷ fs) e =
        let d = (term_sound ds f (none_before (term_misfits s f) (entries_misfits [] at fs) e)).declared in
        both_declared ds (variables_of (term_in s f)) (variables_of (term_in s f) ++ []) d (both_declared ds (variables_of (term_in s f)) [] d (none_declared ds))

    -- One strand.
    of_strand : (f : Form) → strand_misfits roles s f ≡ [] → AreDeclared ds (variables_of_trace (skeleton_trace (strand_of roles s f)))
    of_strand f e = by (states_instance f) e
      where
        by : (b : Bool) → (if b then instance_misfits roles s (place_of f) (forms_after_head f) else entries_misfits (term_misfits s ∷ []) (place_of f) (forms_after_head f)) ≡ []
            → AreDeclared ds (variables_of_trace (skeleton_trace (if b then instance_of_entries roles s (forms_after_head f) else listener (term_or_tag s (first_form (forms_after_head f))))))
        by true h = of_instance (place_of f) (forms_after_head f) h
        by false h = of_listener (place_of f) (forms_after_head f) h

    -- All strands.
    pub strands_declared : (fs : List Form) → each_misfits (strand_misfits roles s) fs ≡ [] → AreDeclared ds (variables_of_strands (map (strand_of roles s) fs))
    strands_declared fs e x m =
        let st = strand_with (map (strand_of roles s) fs) x m in
        let f = item_of_map (strand_of roles s) fs st.0 st.1 st.2 in
        of_strand f.0 (none_of_each (strand_misfits roles s) fs e f.0 (at_place fs st.0 f.0 f.1)) x (subst (λ (k : SkeletonStrand). IsIn x (variables_of_trace (skeleton_trace k))) (sym f.2) st.3)

  -- ---- assumptions

  -- Atoms that fit.
  pub atoms_declared : (before : List AtomTerm) (fs : List Form) → atoms_misfits s before fs ≡ [] → AreDeclared ds (variables_of_atoms (map (atom_in s) fs))
  atoms_declared before [] e = none_declared ds
  atoms_declared before (f ∷ fs) e =
      both_declared ds (variables_of_atom (atom_in s f)) (variables_of_atoms (map (atom_in s) fs)) (atom_declared ds f (none_of_unless (atom_misfits s f) _ (none_before _ (atoms_misfits s (before ++ atom_in s f ∷ []) fs) e)).0)
      (atoms_declared (before ++ atom_in s f ∷ []) fs (none_behind _ (atoms_misfits s (before ++ atom_in s f ∷ []) fs) e))

  -- The value of a list with an atom and a node.
  of_unique : (strands : List SkeletonStrand) (f : Form) → list_misfits (entries_misfits (atom_misfits s ∷ node_misfits strands ∷ [])) f ≡ [] → AreDeclared ds (variables_of_atom (unique_of s f).value)
  of_unique strands (symbol at t) e = absurd (cc)
  of_unique strands (string at t) e = absurd (cc)
  of_unique strands (number at n) e = absurd (cc)
  of_unique strands (list at none) e = absurd (cc)
  of_unique strands (list at (more f fs)) e = atom_declared ds f (none_before (atom_misfits s f) (entries_misfits (node_misfits strands ∷ []) at (items_of fs)) e)

  -- Unique values that fit.
  pub uniques_declared : (strands : List SkeletonStrand) (before : List UniqueAt) (fs : List Form) → uniques_misfits s strands before fs ≡ [] → AreDeclared ds (variables_of_uniques (map (unique_of s) fs))
  uniques_declared strands before [] e = none_declared ds
  uniques_declared strands before (f ∷ fs) e =
      both_declared ds (variables_of_atom (unique_of s f).value) (variables_of_uniques (map (unique_of s) fs))
      (of_unique strands f (none_of_unless (list_misfits (entries_misfits (atom_misfits s ∷ node_misfits strands ∷ [])) f) _ (none_before (unique_misfits s strands before f) (uniques_misfits s strands (before ++ unique_of s f ∷ []) fs) e)).0)
      (uniques_declared strands (before ++ unique_of s f ∷ []) fs (none_behind (unique_misfits s strands before f) (uniques_misfits s strands (before ++ unique_of s f ∷ []) fs) e))

  -- ---- the map and the test

  -- The values of these declarations.
  values_declared : (fs : List Form) (cs : List Declaration) → ((d : Declaration) → IsIn d cs → IsValue ds d.sort (value_mapped s d.identifier fs)) → AreDeclared ds (variables_of_terms (values_mapped s fs cs))
  values_declared fs [] h = none_declared ds
  values_declared fs (c ∷ cs) h =
      let v = h c here in
      both_declared ds (variables_of (value_mapped s c.identifier fs)) (variables_of_terms (values_mapped s fs cs)) (subst (λ (t : Term). AreDeclared ds (variables_of t)) (sym v.is) v.declared) (values_declared fs cs (λ d m. h d (there m)))

  -- The values of the map.
  pub map_declared : (p : Problem) (fs : List Form) → ((d : Declaration) → IsIn d (problem_variables p) → IsValue ds d.sort (value_mapped s d.identifier (behind_first fs))) → AreDeclared ds (variables_of_terms (values_of_map p s fs))
  map_declared p [] h = none_declared ds
  map_declared p (f ∷ fs) h = values_declared fs (problem_variables p) h

  -- The critical term of a test.
  pub test_declared : (strands : List SkeletonStrand) (o : Option Form) → optional_misfits (test_misfits s strands) o ≡ [] → AreDeclared ds (variables_of_test (test_of s o))
  test_declared strands None e = none_declared ds
  test_declared strands (Some f) e = by (place_of f) (forms_after_head f) e
    where
      by : (at : Place) (fs : List Form) → test_misfits s strands at fs ≡ [] → AreDeclared ds (variables_of (term_or_tag s (second_form fs)))
      by at [] h = absurd (cc)
      by at (g ∷ []) h = none_declared ds
      by at (g ∷ k ∷ fs) h =
          (term_sound ds k (none_before (term_misfits s k) (entries_misfits [] at fs) (none_behind (node_misfits strands g) (entries_misfits (term_misfits s ∷ []) at (k ∷ fs)) h))).declared

  -- ---- patterns

  -- The local at a place is the variable at that place.
  local_listed : (n : ℕ) (ls : List Variable) (i : ℕ) (l : Variable) → item_at ls i ≡ Some l → IsIn (record { sort = l.sort; number = n + i }) (variables_of_locals n ls)
  local_listed n [] i l e = absurd (cc)
  local_listed n (k ∷ ls) zero l e = let same : l ≡ k = cc in let z : n + 0 ≡ n = omega arith in at_head (λ j. record { sort = (same j).sort; number = z j })
  local_listed n (k ∷ ls) (suc i) l e =
      let z : suc n + i ≡ n + suc i = omega arith in
      there (subst (λ (m : ℕ). IsIn (record { sort = l.sort; number = m }) (variables_of_locals (suc n) ls)) z (local_listed (suc n) ls i l e))

  -- A variable of a pattern is a local or declared.
  of_variable : (f : Form) → pattern_misfits ds f ≡ [] → (x : Variable) → IsIn x (variables_of (pattern_of ds f).term) → has_variable (pattern_of ds f).locals x ≡ false → IsDeclared ds x
  of_variable f e x m h =
      let parts = none_of_three (misfit_unless _ (place_of f)) (term_misfits (pattern_scope ds f) f) (clash_misfits [] (locals_in f)) e in
      by parts.2 ((term-agrees ds (locals_onto [] (locals_in f)) f parts.1).origin x m)
    where
      by : clash_misfits [] (locals_in f) ≡ [] → IsOf ds (locals_onto [] (locals_in f)) (locals_in f) x → IsDeclared ds x
      by c (named t q) = named_is_declared ds t x q
      by c (stated l i q) =
          let ls = locals_onto [] (locals_in f) in
          let y = local_listed (length ds) ls (place_of_local ls l.local.number) l.local (each-found (locals_in f) l c i) in
          absurd (both_ways (has_variable (pattern_of ds f).locals x) h (in_has_variable (pattern_of ds f).locals x (subst (λ (z : Variable). IsIn z (pattern_of ds f).locals) (sym q) y)))

  -- The variables that are no locals.
  others_declared : (locals xs : List Variable) → ((x : Variable) → IsIn x xs → has_variable locals x ≡ false → IsDeclared ds x) → AreDeclared ds (variables_but locals xs)
  others_declared locals [] h = none_declared ds
  others_declared locals (x ∷ xs) h = by (has_variable locals x) refl (others_declared locals xs (λ y m. h y (there m)))
    where
      by : (b : Bool) → has_variable locals x ≡ b → AreDeclared ds (variables_but locals xs) → AreDeclared ds (if b then variables_but locals xs else x ∷ variables_but locals xs)
      by true q rest = rest
      by false q rest = both_declared ds (x ∷ []) (variables_but locals xs) (λ y m. one y m) rest
        where
          one : (y : Variable) → IsIn y (x ∷ []) → IsDeclared ds y
          one y here = h x here q
          one y (there m) = elim m [ ]

  -- Patterns that fit.
  each_declared : (fs : List Form) → each_misfits (pattern_misfits ds) fs ≡ [] → AreDeclared ds (variables_of_patterns (map (pattern_of ds) fs))
  each_declared [] e = none_declared ds
  each_declared (f ∷ fs) e =
      both_declared ds (variables_but (pattern_of ds f).locals (variables_of (pattern_of ds f).term)) (variables_of_patterns (map (pattern_of ds) fs))
      (others_declared (pattern_of ds f).locals (variables_of (pattern_of ds f).term) (of_variable f (none_before (pattern_misfits ds f) (each_misfits (pattern_misfits ds) fs) e)))
      (each_declared fs (none_behind (pattern_misfits ds f) (each_misfits (pattern_misfits ds) fs) e))

  -- The same of the item; it may be missing.
  pub patterns_declared : (tested : Bool) (o : Option Form) → optional_misfits (patterns_misfits ds tested) o ≡ [] → AreDeclared ds (variables_of_patterns (map (pattern_of ds) (entries_or_none o)))
  patterns_declared tested None e = none_declared ds
  patterns_declared tested (Some f) e =
      each_declared (forms_after_head f) (none_of_three (misfit_unless tested (place_of f)) (lacking 1 (place_of f) (forms_after_head f)) (each_misfits (pattern_misfits ds) (forms_after_head f)) e).2
