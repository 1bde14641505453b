-- Added and grown strands have the strings of their roles.
use Rattle.std.proofs.Common.{◌≡◌, ◌≢◌, ◌≤◌, ◌⊎◌, inl, inr, ℕ, suc, List, [], ◌∷◌, ◌++◌, Some, length, Bool, true, false, refl, sym, ap, ◌∙◌, subst, ⊎_elim}
use Rattle.std.proofs.lemmas.Bool.{cases_eq}
use Rattle.cp_lists.specs.Lists.{item_at, IsIn, here, there}
use Rattle.cp_lists.proofs.Members.{not_in_none, in_append, in_pushed, into_map}
use Rattle.cp_lists.proofs.Items.{place_of, at_place}
use Rattle.cp_model.specs.Term.{apply_to, variable_term, AtomTerm, Term, Substitution}
use Rattle.cp_model.specs.Bindings.{Binding, as_substitution}
use Rattle.cp_model.specs.declared.variable.Variable.{Variable}
use Rattle.cp_model.specs.Strand.{Role, variables_of_prefix}
use Rattle.cp_model.specs.declared.node.Node.{Node}
use Rattle.cp_model.specs.Skeleton.{SkeletonStrand, instance, listener, UniqueAt, Assumptions, FromProblem, Skeleton}
use Rattle.cp_model.specs.Same.{has_variable}
use Rattle.cp_model.proofs.SameTests.{variable_in, in_has_variable}
use Rattle.cp_model.proofs.LawPrefixes.{in_front_of_trace}
use Rattle.cp_model.specs.PrefixVariables.{prefix_variables, added_variables, terms_of}
use Rattle.cp_model.specs.Extensions.{AddsListener, AddsStrand, Extends}
use Rattle.cp_model.specs.GivenAssumptions.{IsGivenFrom, IsOriginFrom, AddsOnce, AddsGiven}
use Rattle.cp_model.specs.Declares.{DeclaresItsVariables}
use Rattle.cp_model.proofs.PrefixVariables.{in-prefix, in-added}
use Rattle.cp_model.proofs.UnderVariables.{applies_at}
use Rattle.cp_theory.specs.Fresh.{fresh_terms}
use Rattle.cp_theory.specs.Covering.{put_before}
use Rattle.cp_printable.specs.Strings.{strings_of}
use Rattle.cp_printable.specs.Spelled.{IsSpelledTerm, IsSpelledAtom, AreSpelledAtoms, IsSpelledRole, IsSpelledStrand, AreSpelledAssumptions, IsSpelledSkeleton}
use Rattle.cp_printable.proofs.Applied.{variable_has_none, of_atom}

-- ---- new variables

fresh_has_none : (n : ℕ) (xs : List Variable) (t : Term) → IsIn t (fresh_terms n xs) → (s : List ℕ) → IsIn s (strings_of t) → ⊥
fresh_has_none n [] t i s j = not_in_none i
fresh_has_none n (x ∷ xs) t here s j = variable_has_none (record { sort = x.sort; number = n }) s j
fresh_has_none n (x ∷ xs) t (there i) s j = fresh_has_none (suc n) xs t i s j

-- What is new for the variables has no strings.
new_has_none : (terms : Substitution) (xs : List Variable) (n : ℕ) (among : List Variable) → terms_of terms xs ≡ fresh_terms n among → (x : Variable) → IsIn x xs → (s : List ℕ) → IsIn s (strings_of (apply_to terms (variable_term x))) → ⊥
new_has_none terms xs n among gives x i =
    fresh_has_none n among (apply_to terms (variable_term x)) (subst (IsIn (apply_to terms (variable_term x))) gives (into_map (λ (z : Variable). apply_to terms (variable_term z)) i))

module _ (S I : List ℕ → Type 0) where
  -- ---- lists that grow

  grown_atoms : (given : AtomTerm → Type 0) (old new : List AtomTerm) → AddsOnce given old new → AreSpelledAtoms S old → ((v : AtomTerm) → given v → IsSpelledAtom S v) → AreSpelledAtoms S new
  grown_atoms given old new a before of_given v i = ⊎_elim (λ m. before v m) (λ m. of_given v (a.only_given v m)) (in_append old a.more (subst (IsIn v) a.behind i))

  grown_uniques : (given : UniqueAt → Type 0) (old new : List UniqueAt) → AddsOnce given old new → ((u : UniqueAt) → IsIn u old → IsSpelledAtom S u.value) → ((u : UniqueAt) → given u → IsSpelledAtom S u.value) →
      (u : UniqueAt) → IsIn u new → IsSpelledAtom S u.value
  grown_uniques given old new a before of_given u i = ⊎_elim (λ m. before u m) (λ m. of_given u (a.only_given u m)) (in_append old a.more (subst (IsIn u) a.behind i))

  -- ---- what an instance gives

  module _ (role : Role) (height : ℕ) (terms : List Binding) (of_role : IsSpelledRole S I role) (each : (z : Variable) → IsIn z (variables_of_prefix role height) → IsSpelledTerm S (apply_to (as_substitution terms) (variable_term z))) where
    given_spelled : (stated : List AtomTerm) → AreSpelledAtoms S stated → (v : AtomTerm) → IsGivenFrom stated role height terms v → IsSpelledAtom S v
    given_spelled stated are v g = subst (λ (w : AtomTerm). IsSpelledAtom S w) (sym g.same) (of_atom S (as_substitution terms) g.atom (are g.atom g.listed) (λ z m. each z (g.applies z m)))

    origin_spelled : (stated : List AtomTerm) → AreSpelledAtoms S stated → (s : ℕ) (u : UniqueAt) → IsOriginFrom stated role height terms s u → IsSpelledAtom S u.value
    origin_spelled stated are s u g =
        subst (λ (w : UniqueAt). IsSpelledAtom S w.value) (sym g.same) (of_atom S (as_substitution terms) g.atom (are g.atom g.listed) (λ z m. each z (applies_at role height g.atom g.index g.applies z m)))

    grown_assumptions : (s : ℕ) (old new : Assumptions) → AddsGiven role height terms s old new → AreSpelledAssumptions S old → AreSpelledAssumptions S new
    grown_assumptions s old new a before = record {
      non = grown_atoms (IsGivenFrom role.non_originating role height terms) old.non_originating new.non_originating a.non before.non (given_spelled role.non_originating of_role.non);
      penetrator_non = grown_atoms (IsGivenFrom role.penetrator_non_originating role height terms) old.penetrator_non_originating new.penetrator_non_originating a.penetrator_non before.penetrator_non
          (given_spelled role.penetrator_non_originating of_role.penetrator_non);
      unique = grown_uniques (IsOriginFrom role.uniquely_originating role height terms s) old.uniquely_originating new.uniquely_originating a.unique before.unique (origin_spelled role.uniquely_originating of_role.unique s);
    }

  -- ---- changes

  -- A strand more, and assumptions that are admitted.
  behind : (old new : Skeleton) (strand : SkeletonStrand) → IsSpelledSkeleton S I old → new.strands ≡ old.strands ++ strand ∷ [] → new.from_problem ≡ old.from_problem → IsSpelledStrand S I strand → AreSpelledAssumptions S new.assumptions →
      IsSpelledSkeleton S I new
  behind old new strand is e from_problem of_strand of_assumptions = record {
    strands = λ st i. ⊎_elim (λ m. is.strands st m) (λ same. subst (IsSpelledStrand S I) same of_strand) (in_pushed old.strands strand st (subst (IsIn st) e i));
    assumptions = of_assumptions;
    values = λ t i. is.values t (subst (λ (f : FromProblem). IsIn t f.values) from_problem i);
    own = subst (λ (f : FromProblem). AreSpelledAssumptions S f.assumptions) (sym from_problem) is.own;
  }

  pub listener_spelled : (t : Term) (k l : Skeleton) → AddsListener t k l → IsSpelledTerm S t → IsSpelledSkeleton S I k → IsSpelledSkeleton S I l
  listener_spelled t k l adds of_term is =
      behind k l (listener t) is (ap (λ (x : Skeleton). x.strands) adds) (ap (λ (x : Skeleton). x.from_problem) adds) of_term (subst (λ (x : Skeleton). AreSpelledAssumptions S x.assumptions) (sym adds) is.assumptions)

  pub strand_spelled : (role : Role) (height n : ℕ) (k l : Skeleton) → DeclaresItsVariables role → IsSpelledRole S I role → AddsStrand role height (fresh_terms n (prefix_variables role height)) k l → IsSpelledSkeleton S I k → IsSpelledSkeleton S I l
  strand_spelled role height n k l declares of_role adds is =
      behind k l (instance role height adds.terms) is adds.strands adds.from_problem (of_role, each) (grown_assumptions role height adds.terms of_role each (length k.strands) k.assumptions l.assumptions adds.assumptions is.assumptions)
    where
      each : (z : Variable) → IsIn z (variables_of_prefix role height) → IsSpelledTerm S (apply_to (as_substitution adds.terms) (variable_term z))
      each z i s j = absurd (new_has_none (as_substitution adds.terms) (prefix_variables role height) n (prefix_variables role height) adds.gives z ((in-prefix role z height).1 (declares z (in_front_of_trace height role.trace z i), i)) s j)

  module _ (s height n : ℕ) (k l : Skeleton) (role : Role) (before : ℕ) (declares : DeclaresItsVariables role) (ext : Extends s height (fresh_terms n (added_variables role before height)) k l) (same_role : ext.role ≡ role) (same_before : ext.before ≡ before)
      (is : IsSpelledSkeleton S I k) where
    declares_too : DeclaresItsVariables ext.role
    declares_too = subst DeclaresItsVariables (sym same_role) declares

    gives_new : terms_of (as_substitution ext.terms) (added_variables ext.role ext.before height) ≡ fresh_terms n (added_variables role before height)
    gives_new = ext.gives

    was : IsSpelledStrand S I (instance ext.role ext.before ext.old_terms)
    was = is.strands (instance ext.role ext.before ext.old_terms) (at_place k.strands s (instance ext.role ext.before ext.old_terms) ext.was_instance)

    each_term : (z : Variable) → IsIn z (variables_of_prefix ext.role height) → IsSpelledTerm S (apply_to (as_substitution ext.terms) (variable_term z))
    each_term z i = by_test (has_variable (variables_of_prefix ext.role ext.before) z) refl
      where
        by_test : (b : Bool) → has_variable (variables_of_prefix ext.role ext.before) z ≡ b → IsSpelledTerm S (apply_to (as_substitution ext.terms) (variable_term z))
        by_test true e = let m = variable_in (variables_of_prefix ext.role ext.before) z e in subst (λ (t : Term). IsSpelledTerm S t) (ext.keeps z m) (was.1 z m)
        by_test false e = λ t j.
            absurd (new_has_none (as_substitution ext.terms) (added_variables ext.role ext.before height) n (added_variables role before height) gives_new z
            ((in-added ext.role z ext.before height).1 (
              declares_too z (in_front_of_trace height ext.role.trace z i),
              i,
              λ m. let f : has_variable (variables_of_prefix ext.role ext.before) z ≡ true = in_has_variable (variables_of_prefix ext.role ext.before) z m in absurd (cc),
            )) t j)

    each_strand : (m : ℕ) (st : SkeletonStrand) → (m ≡ s) ⊎ (m ≢ s) → item_at l.strands m ≡ Some st → IsSpelledStrand S I st
    each_strand m st (inl is_s) at =
        let both : Some (instance ext.role height ext.terms) ≡ Some st = sym ext.on_instance ∙ ap (item_at l.strands) (sym is_s) ∙ at in
        let same : instance ext.role height ext.terms ≡ st = cc in
        subst (IsSpelledStrand S I) same (was.0, each_term)
    each_strand m st (inr other) at = is.strands st (at_place k.strands m st (sym (ext.others m other) ∙ at))

    grown : IsSpelledSkeleton S I l
    grown = record {
      strands = λ st i. let p = place_of i in each_strand p.0 st (cases_eq p.0 s) p.1;
      assumptions = grown_assumptions ext.role height ext.terms was.0 each_term s k.assumptions l.assumptions ext.assumptions is.assumptions;
      values = λ t i. is.values t (subst (λ (f : FromProblem). IsIn t f.values) ext.from_problem i);
      own = subst (λ (f : FromProblem). AreSpelledAssumptions S f.assumptions) (sym ext.from_problem) is.own;
    }

  pub extended_spelled : (s : ℕ) (role : Role) (height before n : ℕ) (k l : Skeleton) → DeclaresItsVariables role → before ≤ height → (ext : Extends s height (fresh_terms n (added_variables role before height)) k l) → ext.role ≡ role → ext.before ≡ before
      → IsSpelledSkeleton S I k → IsSpelledSkeleton S I l
  extended_spelled s role height before n k l declares higher ext same_role same_before is = grown s height n k l role before declares ext same_role same_before is

  pub put_spelled : (x y : Node) (k : Skeleton) → IsSpelledSkeleton S I k → IsSpelledSkeleton S I (put_before x y k)
  put_spelled x y k is = record { strands = is.strands; assumptions = is.assumptions; values = is.values; own = is.own }
