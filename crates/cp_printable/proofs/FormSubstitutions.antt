-- The substitution by which a normal form comes gives variables admitted strings, where the normal form has them: it changes
-- the skeleton's own variables alone, and all that it gives them stands in the normal form.
use Rattle.std.proofs.Common.{◌≡◌, ℕ, List, [], ◌++◌, Bool, true, false, refl, sym, ◌∙◌, subst, ⊎_elim}
use Rattle.cp_lists.specs.Lists.{IsIn}
use Rattle.cp_lists.proofs.Items.{at_place}
use Rattle.cp_lists.proofs.Members.{not_in_none, in_append, into_map}
use Rattle.cp_model.specs.Term.{Term, variable_term, AtomTerm, variables_of, Substitution, apply_to, apply_to_atom}
use Rattle.cp_model.specs.Bindings.{Binding, as_substitution}
use Rattle.cp_model.specs.declared.sort.Sort.TheVariants.{Akey as akey_sort}
use Rattle.cp_model.specs.declared.variable.Variable.{Variable}
use Rattle.cp_model.specs.Strand.{Role, prefix_of, variables_of_trace, variables_of_prefix}
use Rattle.cp_model.specs.Skeleton.{SkeletonStrand, instance, listener, skeleton_trace, Skeleton}
use Rattle.cp_model.specs.Problem.{variables_of_strands, variables_of_atoms, variables_of_uniques, variables_of_assumptions, variables_of_skeleton}
use Rattle.cp_model.specs.Same.{has_variable}
use Rattle.cp_model.proofs.LawTerms.{term_composed}
use Rattle.cp_model.proofs.SameTests.{variable_in, in_has_variable}
use Rattle.cp_theory.specs.Normal.{strand_under, unique_under, skeleton_under, with_pairs, variables_of_terms}
use Rattle.cp_theory.proofs.Under.{terms_kept}
use Rattle.cp_collapse.specs.SameSkeletons.{IsSameStrand, same_instance, same_listener, AreSameStrands, no_strands, same_strands, SaysTheSame}
use Rattle.cp_model.proofs.OccurringVariables.{strand_with, atom_with, unique_with, term_with}
use Rattle.cp_model.proofs.UnderVariables.{of_trace}
use Rattle.cp_normal.specs.BySubstitution.{all_variables, ComesBySubstitution}
use Rattle.cp_normal.specs.Formed.{Formed, AreFormedNormalForms}
use Rattle.cp_printable.specs.Strings.{strings_of, strings_of_atom}
use Rattle.cp_printable.specs.Spelled.{IsSpelledStrand, IsSpelledSkeleton}
use Rattle.cp_printable.proofs.Under.{GivesStrings, same_spelled}
use Rattle.cp_printable.proofs.Applied.{variable_has_none, GivesAdmitted, in_atom, in_term}

-- ---- to say the same goes both ways

same_back : {s t : SkeletonStrand} → IsSameStrand s t → IsSameStrand t s
same_back (same_instance agree) = same_instance (λ x i. sym (agree x i))
same_back same_listener = same_listener

all_back : {ss ts : List SkeletonStrand} → AreSameStrands ss ts → AreSameStrands ts ss
all_back no_strands = no_strands
all_back (same_strands one rest) = same_strands (same_back one) (all_back rest)

says_back : (k l : Skeleton) → SaysTheSame k l → SaysTheSame l k
says_back k l same = record { strands = all_back same.strands; pairs = sym same.pairs; assumptions = sym same.assumptions; from_problem = sym same.from_problem }

module _ (S I : List ℕ → Type 0) where
  -- ---- what stands in a skeleton under a substitution

  module _ (f : Substitution) where
    abbrev Gives : Variable → Type 0
    Gives = GivesAdmitted S f

    of_instance : (role : Role) (height : ℕ) (terms : List Binding) → IsSpelledStrand S I (strand_under f (instance role height terms)) → (x : Variable) → IsIn x (variables_of_trace (skeleton_trace (instance role height terms))) → Gives x
    of_instance role height terms is = of_trace Gives (as_substitution terms) (prefix_of role height) each
      where
        each : (z : Variable) → IsIn z (variables_of_prefix role height) → (y : Variable) → IsIn y (variables_of (apply_to (as_substitution terms) (variable_term z))) → Gives y
        each z i y j s m = is.1 z i s (subst (λ (t : Term). IsIn s (strings_of t)) (sym (terms_kept f role height terms z i ∙ term_composed (as_substitution terms) f (variable_term z))) (in_term f y s m (apply_to (as_substitution terms) (variable_term z)) j))

    of_strand : (st : SkeletonStrand) → IsSpelledStrand S I (strand_under f st) → (x : Variable) → IsIn x (variables_of_trace (skeleton_trace st)) → Gives x
    of_strand (instance role height terms) is x i s j = of_instance role height terms is x i s j
    of_strand (listener t) is x i s j = is s (in_term f x s j t (⊎_elim (λ m. m) (λ m. ⊎_elim (λ n. n) (λ n. absurd (not_in_none n)) (in_append (variables_of t) [] m)) (in_append (variables_of t) (variables_of t ++ []) i)))

    module _ (k : Skeleton) (is : IsSpelledSkeleton S I (skeleton_under f k)) where
      in_strand : (x : Variable) → IsIn x (variables_of_strands k.strands) → Gives x
      in_strand x i = let r = strand_with k.strands x i in of_strand r.1 (is.strands (strand_under f r.1) (into_map (strand_under f) (at_place k.strands r.0 r.1 r.2))) x r.3

      in_atoms : (vs : List AtomTerm) → ((v : AtomTerm) → IsIn v vs → (s : List ℕ) → IsIn s (strings_of_atom (apply_to_atom f v)) → S s) → (x : Variable) → IsIn x (variables_of_atoms vs) → Gives x
      in_atoms vs are x i s j = let r = atom_with vs x i in are r.0 r.1 s (in_atom f x s j r.0 r.2)

      in_unique : (x : Variable) → IsIn x (variables_of_uniques k.assumptions.uniquely_originating) → Gives x
      in_unique x i s j = let r = unique_with k.assumptions.uniquely_originating x i in is.assumptions.unique (unique_under f r.0) (into_map (unique_under f) r.1) s (in_atom f x s j r.0.value r.2)

      in_assumption : (x : Variable) → IsIn x (variables_of_assumptions k.assumptions) → Gives x
      in_assumption x i =
          let non = k.assumptions.non_originating in
          let penetrator = k.assumptions.penetrator_non_originating in
          ⊎_elim
          (λ l.
          ⊎_elim (λ m. in_atoms non (λ v n. is.assumptions.non (apply_to_atom f v) (into_map (apply_to_atom f) n)) x m)
          (λ m. in_atoms penetrator (λ v n. is.assumptions.penetrator_non (apply_to_atom f v) (into_map (apply_to_atom f) n)) x m) (in_append (variables_of_atoms non) (variables_of_atoms penetrator) l))
          (λ r. in_unique x r) (in_append (variables_of_atoms non ++ variables_of_atoms penetrator) (variables_of_uniques k.assumptions.uniquely_originating) i)

      in_value : (x : Variable) → IsIn x (variables_of_terms k.from_problem.values) → Gives x
      in_value x i s j = let r = term_with k.from_problem.values x i in is.values (apply_to f r.0) (into_map (apply_to f) r.1) s (in_term f x s j r.0 r.2)

      -- Each variable of a skeleton is given admitted strings, where the skeleton has them under the substitution.
      pub all_given : (x : Variable) → IsIn x (all_variables k) → Gives x
      all_given x i =
          ⊎_elim (λ l. ⊎_elim (λ m. in_strand x m) (λ m. in_assumption x m) (in_append (variables_of_strands k.strands) (variables_of_assumptions k.assumptions) l)) (λ r. in_value x r)
          (in_append (variables_of_skeleton k) (variables_of_terms k.from_problem.values) i)

  -- ---- what a normal form comes by

  module _ (k r : Skeleton) (c : ComesBySubstitution k r) (is : IsSpelledSkeleton S I r) where
    abbrev under : Skeleton
    under = skeleton_under c.substitution k

    before : IsSpelledSkeleton S I under
    before =
        let h = same_spelled S I r (with_pairs under r.pairs) (says_back (with_pairs under r.pairs) r c.same) is in
        record { strands = h.strands; assumptions = h.assumptions; values = h.values; own = h.own }

    each_gives : (x : Variable) (b : Bool) → has_variable (all_variables k) x ≡ b → GivesAdmitted S c.substitution x
    each_gives x true e s i = all_given c.substitution k before x (variable_in (all_variables k) x e) s i
    each_gives x false e s i =
        let left : apply_to c.substitution (variable_term x) ≡ variable_term x = c.stays_within.leaves x (λ m. let has : has_variable (all_variables k) x ≡ true = in_has_variable (all_variables k) x m in absurd (cc)) in
        absurd (variable_has_none x s (subst (λ (t : Term). IsIn s (strings_of t)) left i))

    pub comes_gives : GivesStrings S c.substitution
    comes_gives n s i = each_gives (record { sort = akey_sort; number = n }) (has_variable (all_variables k) (record { sort = akey_sort; number = n })) refl s i

  pub form_gives : (k : Skeleton) (forms : List Formed) → AreFormedNormalForms k forms → (f : Formed) → IsIn f forms → IsSpelledSkeleton S I f.skeleton → GivesStrings S f.substitution
  form_gives k forms are f i is = let o = are.formed f i in subst (λ (s : Substitution). GivesStrings S s) o.by (comes_gives k f.skeleton o.comes is)
