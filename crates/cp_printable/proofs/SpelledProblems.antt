-- The strings and identifiers of a problem that proper forms state are proper, where those of its protocol and its own
-- declarations are.
use Rattle.std.proofs.Common.{◌≡◌, ℕ, suc, List, [], ◌∷◌, ◌++◌, length, Bool, true, false, nat_lt, Option, Some, None, refl, sym, subst, ⊎_elim, if◌then◌else◌}
use Rattle.cp_lists.specs.Lists.{IsIn, here, there}
use Rattle.cp_model.specs.Term.{variable_term, AtomTerm, atom_term, apply_to_atom, variables_of_atom}
use Rattle.cp_model.specs.Bindings.{Binding, as_substitution}
use Rattle.cp_model.specs.Strand.{Role, Protocol, variables_of_prefix}
use Rattle.cp_model.specs.declared.variable.Declaration.{Declaration}
use Rattle.cp_model.specs.Bundle.{node_at}
use Rattle.cp_model.specs.Skeleton.{SkeletonStrand, instance, listener, skeleton_trace, UniqueAt, Assumptions}
use Rattle.cp_model.specs.Same.{origin_in, has_variables}
use Rattle.cp_model.specs.Problem.{variable_terms}
use Rattle.cp_model.specs.Given.{atoms_onto, uniques_onto, applying, unique_if_below, applying_uniques, given_non, given_penetrator_non, given_uniques, with_given}
use Rattle.cp_model.proofs.Gathered.{onto-only, atoms, uniques}
use Rattle.cp_sexpr.specs.Syntax.{Form}
use Rattle.cp_language.specs.Roles.{forms_under, is_non_item, is_penetrator_non_item, is_unique_item, atoms_in}
use Rattle.cp_language.specs.Problems.{before_items, problem_strands, origins_on, origins_from, own_uniques, own_assumptions, own_skeleton, problem_with}
use Rattle.cp_language.proofs.Atoms.{given, non_given, penetrator_non_given}
use Rattle.cp_printable.specs.Proper.{IsStringText, IsSymbolText}
use Rattle.cp_printable.specs.Spelled.{IsSpelledTerm, IsSpelledAtom, AreSpelledAtoms, AreSpelledDeclarations, IsSpelledRole, AreSpelledAssumptions, IsSpelledSkeleton, IsSpelledProblem}
use Rattle.cp_printable.proofs.SpelledTerms.{Each, each_of_none, each_more, each_of_both, variable_strings}
use Rattle.cp_printable.proofs.SpelledRoles.{AllProper, under_proper, atoms_strings, AreSpelledRoles}
use Rattle.cp_printable.proofs.SpelledStrands.{both_symbols, HaveStrings, GivesStrings, atom_applied, AreProperStrands, strand_spelled, strands_proper, before_proper}

-- ---- what roles give

one_applying : (b : Bool) (v : AtomTerm) (vs : List AtomTerm) → IsSpelledAtom IsStringText v → AreSpelledAtoms IsStringText vs → AreSpelledAtoms IsStringText (if b then v ∷ vs else vs)
one_applying true v vs h hs = each_more (IsSpelledAtom IsStringText) v vs h hs
one_applying false v vs h hs = hs

applying_strings : (role : Role) (height : ℕ) (terms : List Binding) → GivesStrings (as_substitution terms) → (vs : List AtomTerm) → AreSpelledAtoms IsStringText vs → AreSpelledAtoms IsStringText (applying role height terms vs)
applying_strings role height terms gives [] h = each_of_none (IsSpelledAtom IsStringText)
applying_strings role height terms gives (v ∷ vs) h =
    one_applying (has_variables (variables_of_prefix role height) (variables_of_atom v)) (apply_to_atom (as_substitution terms) v) (applying role height terms vs)
    (atom_applied (as_substitution terms) gives v (h v here)) (applying_strings role height terms gives vs (λ w i. h w (there i)))

-- The values of one kind that roles give.
module _ (of_kind : Role → List AtomTerm) (spelled : (role : Role) → IsSpelledRole IsStringText IsSymbolText role → AreSpelledAtoms IsStringText (of_kind role)) where
  given_strings : (ks : List SkeletonStrand) → AreProperStrands ks → AreSpelledAtoms IsStringText (given of_kind ks)
  given_strings [] h = each_of_none (IsSpelledAtom IsStringText)
  given_strings (listener t ∷ ks) h = given_strings ks (λ s i. h s (there i))
  given_strings (instance role height terms ∷ ks) h =
      let p = h (instance role height terms) here in
      each_of_both (IsSpelledAtom IsStringText) (applying role height terms (of_kind role)) (given of_kind ks)
      (applying_strings role height terms p.1 (of_kind role) (spelled role p.0)) (given_strings ks (λ s i. h s (there i)))

-- ---- unique values

abbrev HasStrings : UniqueAt → Type 0
HasStrings u = IsSpelledAtom IsStringText u.value

unique_if : (b : Bool) (u : UniqueAt) → HasStrings u → Each HasStrings (if b then u ∷ [] else [])
unique_if true u h = each_more HasStrings u [] h (each_of_none HasStrings)
unique_if false u h = each_of_none HasStrings

below_strings : (height s : ℕ) (v : AtomTerm) (o : Option ℕ) → IsSpelledAtom IsStringText v → Each HasStrings (unique_if_below height s v o)
below_strings height s v None h = each_of_none HasStrings
below_strings height s v (Some i) h = unique_if (nat_lt i height) (record { value = v; origin = node_at s i }) h

applying_uniques_strings : (role : Role) (height : ℕ) (terms : List Binding) (s : ℕ) → GivesStrings (as_substitution terms) → (vs : List AtomTerm) → AreSpelledAtoms IsStringText vs → Each HasStrings (applying_uniques role height terms s vs)
applying_uniques_strings role height terms s gives [] h = each_of_none HasStrings
applying_uniques_strings role height terms s gives (v ∷ vs) h =
    each_of_both HasStrings (unique_if_below height s (apply_to_atom (as_substitution terms) v) (origin_in role.trace (atom_term v))) (applying_uniques role height terms s vs)
    (below_strings height s (apply_to_atom (as_substitution terms) v) (origin_in role.trace (atom_term v)) (atom_applied (as_substitution terms) gives v (h v here)))
    (applying_uniques_strings role height terms s gives vs (λ w i. h w (there i)))

given_uniques_strings : (n : ℕ) (ks : List SkeletonStrand) → AreProperStrands ks → Each HasStrings (given_uniques n ks)
given_uniques_strings n [] h = each_of_none HasStrings
given_uniques_strings n (listener t ∷ ks) h = given_uniques_strings (suc n) ks (λ s i. h s (there i))
given_uniques_strings n (instance role height terms ∷ ks) h =
    let p = h (instance role height terms) here in
    each_of_both HasStrings (applying_uniques role height terms n role.uniquely_originating) (given_uniques (suc n) ks)
    (applying_uniques_strings role height terms n p.1 role.uniquely_originating p.0.unique) (given_uniques_strings (suc n) ks (λ s i. h s (there i)))

-- a value at its origin on a strand
origin_strings : (role : Role) (height : ℕ) (terms : List Binding) (s : ℕ) (v : AtomTerm) (o : Option ℕ) → origin_in (skeleton_trace (instance role height terms)) (atom_term v) ≡ o → IsSpelledAtom IsStringText v →
    Each HasStrings (origins_on (instance role height terms) s v)
origin_strings role height terms s v None e h u i = let q : IsIn u [] = rw e at i in elim q [ ]
origin_strings role height terms s v (Some j) e h u i =
    let q : IsIn u (record { value = v; origin = node_at s j } ∷ []) = rw e at i in each_more HasStrings (record { value = v; origin = node_at s j }) [] h (each_of_none HasStrings) u q

origins_strings : (s : ℕ) (ks : List SkeletonStrand) (v : AtomTerm) → IsSpelledAtom IsStringText v → Each HasStrings (origins_from s ks v)
origins_strings s [] v h = each_of_none HasStrings
origins_strings s (listener t ∷ ks) v h = origins_strings (suc s) ks v h
origins_strings s (instance role height terms ∷ ks) v h =
    each_of_both HasStrings (origins_on (instance role height terms) s v) (origins_from (suc s) ks v)
    (origin_strings role height terms s v (origin_in (skeleton_trace (instance role height terms)) (atom_term v)) refl h) (origins_strings (suc s) ks v h)

own_uniques_strings : (strands : List SkeletonStrand) (vs : List AtomTerm) → AreSpelledAtoms IsStringText vs → Each HasStrings (own_uniques strands vs)
own_uniques_strings strands [] h = each_of_none HasStrings
own_uniques_strings strands (v ∷ vs) h =
    each_of_both HasStrings (origins_from 0 strands v) (own_uniques strands vs) (origins_strings 0 strands v (h v here)) (own_uniques_strings strands vs (λ w i. h w (there i)))

-- ---- assumptions

atoms_each : (before vs : List AtomTerm) → AreSpelledAtoms IsStringText before → AreSpelledAtoms IsStringText vs → AreSpelledAtoms IsStringText (atoms_onto before vs)
atoms_each before vs h k v i = ⊎_elim (h v) (k v) (onto-only atoms before vs v i)

uniques_each : (before us : List UniqueAt) → Each HasStrings before → Each HasStrings us → Each HasStrings (uniques_onto before us)
uniques_each before us h k u i = ⊎_elim (h u) (k u) (onto-only uniques before us u i)

-- what the problem states itself
own_spelled : (ds : List Declaration) (strands : List SkeletonStrand) (body : List Form) → AllProper body → AreSpelledAssumptions IsStringText (own_assumptions ds strands body)
own_spelled ds strands body p = record {
  non = atoms_each [] (atoms_in ds (forms_under is_non_item body)) (each_of_none (IsSpelledAtom IsStringText))
      (atoms_strings ds (forms_under is_non_item body) (under_proper is_non_item body p));
  penetrator_non = atoms_each [] (atoms_in ds (forms_under is_penetrator_non_item body)) (each_of_none (IsSpelledAtom IsStringText))
      (atoms_strings ds (forms_under is_penetrator_non_item body) (under_proper is_penetrator_non_item body p));
  unique = uniques_each [] (own_uniques strands (atoms_in ds (forms_under is_unique_item body))) (each_of_none HasStrings)
      (own_uniques_strings strands (atoms_in ds (forms_under is_unique_item body)) (atoms_strings ds (forms_under is_unique_item body) (under_proper is_unique_item body p)));
}

-- and with what the strands' roles give
given_spelled : (strands : List SkeletonStrand) (own : Assumptions) → AreProperStrands strands → AreSpelledAssumptions IsStringText own → AreSpelledAssumptions IsStringText (with_given strands own)
given_spelled strands own h k = record {
  non = atoms_each own.non_originating (given_non strands) k.non
      (subst (AreSpelledAtoms IsStringText) (sym (non_given strands)) (given_strings (λ r. r.non_originating) (λ r s. s.non) strands h));
  penetrator_non = atoms_each own.penetrator_non_originating (given_penetrator_non strands) k.penetrator_non
      (subst (AreSpelledAtoms IsStringText) (sym (penetrator_non_given strands)) (given_strings (λ r. r.penetrator_non_originating) (λ r s. s.penetrator_non) strands h));
  unique = uniques_each own.uniquely_originating (given_uniques 0 strands) k.unique (given_uniques_strings 0 strands h);
}

-- ---- problems

-- the variables as terms
variables_strings : (n : ℕ) (ds : List Declaration) → HaveStrings (variable_terms n ds)
variables_strings n [] = each_of_none (IsSpelledTerm IsStringText)
variables_strings n (d ∷ ds) =
    each_more (IsSpelledTerm IsStringText) (variable_term (record { sort = d.sort; number = n })) (variable_terms (suc n) ds)
    (variable_strings (record { sort = d.sort; number = n })) (variables_strings (suc n) ds)

skeleton_spelled : (ds : List Declaration) (strands : List SkeletonStrand) (body : List Form) (variables : List Declaration) → AreProperStrands strands → AllProper body →
    IsSpelledSkeleton IsStringText IsSymbolText (own_skeleton ds strands body variables)
skeleton_spelled ds strands body variables h p = record {
  strands = λ s i. strand_spelled s (h s i);
  assumptions = given_spelled strands (own_assumptions ds strands body) h (own_spelled ds strands body p);
  values = variables_strings 0 variables;
  own = own_spelled ds strands body p;
}

-- The strings and identifiers of a problem whose roles and declarations are proper, and whose body is of proper forms.
pub problem_with_spelled : (p : Protocol) (ds : List Declaration) (body : List Form) → AreSpelledRoles p.roles → AreSpelledDeclarations IsSymbolText ds → AllProper body →
    IsSpelledProblem IsStringText IsSymbolText (problem_with p ds body (problem_strands p.roles ds body))
problem_with_spelled p ds body roles named proper =
    let s = problem_strands p.roles ds body in
    let ones = strands_proper p.roles ds (length ds) (before_items body) roles (before_proper body proper) in
    record {
      roles = roles;
      variables = both_symbols ds s.fresh named ones.fresh;
      skeleton = skeleton_spelled ds s.strands body (ds ++ s.fresh) ones.strands proper;
    }
