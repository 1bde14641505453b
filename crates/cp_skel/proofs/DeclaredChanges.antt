-- Skeletons that are changed have declared variables, where what is added has.
use Rattle.std.proofs.Common.{◌≡◌, ◌≢◌, ◌⊎◌, inl, inr, ℕ, List, [], ◌∷◌, ◌++◌, length, refl, sym, ap, ◌∙◌, subst, ⊎_elim, Bool, true, false}
use Rattle.std.specs.Prelude.{Some}
use Rattle.std.proofs.lemmas.Bool.{cases_eq}
use Rattle.cp_lists.specs.Lists.{item_at, IsIn, here, there}
use Rattle.cp_model.specs.Term.{AtomTerm, Term, variable_term, variables_of_atom, variables_of, Substitution, apply_to}
use Rattle.cp_model.specs.Bindings.{Binding, as_substitution}
use Rattle.cp_model.specs.declared.variable.Variable.{Variable}
use Rattle.cp_model.specs.Strand.{Role, prefix_of, variables_of_trace, variables_of_prefix}
use Rattle.cp_model.specs.declared.variable.Declaration.{Declaration}
use Rattle.cp_model.specs.Skeleton.{SkeletonStrand, instance, listener, skeleton_trace, UniqueAt, Assumptions, FromProblem, Skeleton}
use Rattle.cp_model.specs.declared.node.OrderPair.{OrderPair}
use Rattle.cp_model.specs.Same.{has_variable}
use Rattle.cp_model.specs.Problem.{IsDeclared, variables_of_strands, variables_of_atoms, variables_of_uniques, variables_of_assumptions}
use Rattle.cp_model.specs.PointOfView.{HasDeclaredVariables}
use Rattle.cp_model.proofs.SameTests.{variable_in, in_has_variable}
use Rattle.cp_model.proofs.DeclaredVariables.{still_declared}
use Rattle.cp_lists.proofs.Members.{in_append, in_append_left, in_append_right}
use Rattle.cp_lists.proofs.Items.{item_of_push}
use Rattle.cp_model.specs.Extensions.{AddsListener, IsClosedPrefix, AddsStrand, Extends}
use Rattle.cp_model.specs.GivenAssumptions.{IsGivenFrom, IsOriginFrom, AddsOnce, AddsGiven}
use Rattle.cp_model.specs.PrefixVariables.{prefix_variables, added_variables, terms_of}
use Rattle.cp_skel.specs.Ordered.{ordered_by}
use Rattle.cp_model.proofs.PrefixVariables.{in-prefix, in-added}
use Rattle.cp_model.proofs.OccurringVariables.{in_trace_under, strand_with, in_strands, atom_with, in_atoms, unique_with, in_uniques}
use Rattle.cp_model.proofs.UnderVariables.{applies_at, of_atom, of_trace}

-- ---- more declarations

pub more_declared : (ds more : List Declaration) (k : Skeleton) → HasDeclaredVariables ds k → HasDeclaredVariables (ds ++ more) k
more_declared ds more k h = record {
  occurring = λ x i. still_declared ds more x.number x.sort (h.occurring x i);
  mapped = λ t x i j. still_declared ds more x.number x.sort (h.mapped t x i j);
}

-- ---- lists that grow

in_terms : (s : Substitution) (xs : List Variable) (x : Variable) → IsIn x xs → IsIn (apply_to s (variable_term x)) (terms_of s xs)
in_terms s (y ∷ xs) x here = here
in_terms s (y ∷ xs) x (there i) = there (in_terms s xs x i)
in_terms s [] x i = elim i [ ]

module _ (ds : List Declaration) where
  abbrev IsOne : Variable → Type 0
  IsOne = IsDeclared ds

  grown_atoms : (given : AtomTerm → Type 0) (old new : List AtomTerm) → AddsOnce given old new → ((x : Variable) → IsIn x (variables_of_atoms old) → IsOne x) → ((v : AtomTerm) → given v → (x : Variable) → IsIn x (variables_of_atom v) → IsOne x) →
      (x : Variable) → IsIn x (variables_of_atoms new) → IsOne x
  grown_atoms given old new a before of_given x i =
      let r = atom_with new x i in
      ⊎_elim (λ m. before x (in_atoms old r.0 x m r.2)) (λ m. of_given r.0 (a.only_given r.0 m) x r.2) (in_append old a.more (subst (IsIn r.0) a.behind r.1))

  grown_uniques : (given : UniqueAt → Type 0) (old new : List UniqueAt) → AddsOnce given old new → ((x : Variable) → IsIn x (variables_of_uniques old) → IsOne x) → ((u : UniqueAt) → given u → (x : Variable) → IsIn x (variables_of_atom u.value) → IsOne x) →
      (x : Variable) → IsIn x (variables_of_uniques new) → IsOne x
  grown_uniques given old new a before of_given x i =
      let r = unique_with new x i in
      ⊎_elim (λ m. before x (in_uniques old r.0 x m r.2)) (λ m. of_given r.0 (a.only_given r.0 m) x r.2) (in_append old a.more (subst (IsIn r.0) a.behind r.1))

  -- ---- what an instance has

  module _ (role : Role) (height : ℕ) (terms : List Binding) (each : (z : Variable) → IsIn z (variables_of_prefix role height) → (y : Variable) → IsIn y (variables_of (apply_to (as_substitution terms) (variable_term z))) → IsOne y) where
    instance_declared : (y : Variable) → IsIn y (variables_of_trace (skeleton_trace (instance role height terms))) → IsOne y
    instance_declared = of_trace IsOne (as_substitution terms) (prefix_of role height) each

    given_declared : (stated : List AtomTerm) (v : AtomTerm) → IsGivenFrom stated role height terms v → (y : Variable) → IsIn y (variables_of_atom v) → IsOne y
    given_declared stated v g y i = of_atom IsOne (as_substitution terms) g.atom (λ z m. each z (g.applies z m)) y (subst (λ (w : AtomTerm). IsIn y (variables_of_atom w)) g.same i)

    origin_declared : (stated : List AtomTerm) (s : ℕ) (u : UniqueAt) → IsOriginFrom stated role height terms s u → (y : Variable) → IsIn y (variables_of_atom u.value) → IsOne y
    origin_declared stated s u g y i =
        of_atom IsOne (as_substitution terms) g.atom (λ z m. each z (applies_at role height g.atom g.index g.applies z m)) y (subst (λ (w : UniqueAt). IsIn y (variables_of_atom w.value)) g.same i)

    grown_assumptions : (s : ℕ) (old new : Assumptions) → AddsGiven role height terms s old new → ((x : Variable) → IsIn x (variables_of_assumptions old) → IsOne x) → (x : Variable) → IsIn x (variables_of_assumptions new) → IsOne x
    grown_assumptions s old new a before x i =
        let non = variables_of_atoms old.non_originating in
        let penetrator = variables_of_atoms old.penetrator_non_originating in
        let unique = variables_of_uniques old.uniquely_originating in
        let non' = variables_of_atoms new.non_originating in
        let penetrator' = variables_of_atoms new.penetrator_non_originating in
        ⊎_elim
        (λ l.
        ⊎_elim
        (λ m. grown_atoms (IsGivenFrom role.non_originating role height terms) old.non_originating new.non_originating a.non (λ y j. before y (in_append_left unique (in_append_left penetrator j))) (given_declared role.non_originating) x m)
        (λ m. grown_atoms (IsGivenFrom role.penetrator_non_originating role height terms) old.penetrator_non_originating new.penetrator_non_originating a.penetrator_non (λ y j. before y (in_append_left unique (in_append_right non j))) (given_declared role.penetrator_non_originating) x m)
        (in_append non' penetrator' l))
        (λ r. grown_uniques (IsOriginFrom role.uniquely_originating role height terms s) old.uniquely_originating new.uniquely_originating a.unique (λ y j. before y (in_append_right (non ++ penetrator) j)) (origin_declared role.uniquely_originating s) x r)
        (in_append (non' ++ penetrator') (variables_of_uniques new.uniquely_originating) i)

  -- ---- changes

  abbrev AreOfDeclared : List Term → Type 0
  AreOfDeclared values = (t : Term) (x : Variable) → IsIn t values → IsIn x (variables_of t) → IsOne x

  module _ (old new : Skeleton) (h : HasDeclaredVariables ds old) (from_problem : new.from_problem ≡ old.from_problem) where
    old_strand : (n : ℕ) (st : SkeletonStrand) → item_at old.strands n ≡ Some st → (x : Variable) → IsIn x (variables_of_trace (skeleton_trace st)) → IsOne x
    old_strand n st at x i = h.occurring x (in_append_left (variables_of_assumptions old.assumptions) (in_strands old.strands n st x at i))

    old_assumptions : (x : Variable) → IsIn x (variables_of_assumptions old.assumptions) → IsOne x
    old_assumptions x i = h.occurring x (in_append_right (variables_of_strands old.strands) i)

    by_parts : ((n : ℕ) (st : SkeletonStrand) → item_at new.strands n ≡ Some st → (x : Variable) → IsIn x (variables_of_trace (skeleton_trace st)) → IsOne x) → ((x : Variable) → IsIn x (variables_of_assumptions new.assumptions) → IsOne x) → HasDeclaredVariables ds new
    by_parts strands assumptions = record {
      occurring = λ x i. ⊎_elim (λ j. let r = strand_with new.strands x j in strands r.0 r.1 r.2 x r.3) (λ j. assumptions x j) (in_append (variables_of_strands new.strands) (variables_of_assumptions new.assumptions) i);
      mapped = λ t x i j. h.mapped t x (subst (λ (f : FromProblem). IsIn t f.values) from_problem i) j;
    }

    -- A strand more.
    behind : (strand : SkeletonStrand) → new.strands ≡ old.strands ++ strand ∷ [] → ((x : Variable) → IsIn x (variables_of_trace (skeleton_trace strand)) → IsOne x) →
        (n : ℕ) (st : SkeletonStrand) → item_at new.strands n ≡ Some st → (x : Variable) → IsIn x (variables_of_trace (skeleton_trace st)) → IsOne x
    behind strand e of_new n st at x i =
        ⊎_elim (λ was. old_strand n st was x i) (λ p. of_new x (subst (λ (d : SkeletonStrand). IsIn x (variables_of_trace (skeleton_trace d))) (sym p.1) i))
        (item_of_push old.strands strand n st (ap (λ (ss : List SkeletonStrand). item_at ss n) (sym e) ∙ at))

  pub listener_declared : (t : Term) (old new : Skeleton) → AddsListener t old new → ((x : Variable) → IsIn x (variables_of t) → IsOne x) → HasDeclaredVariables ds old → HasDeclaredVariables ds new
  listener_declared t old new adds of_t h =
      by_parts old new h (ap (λ (k : Skeleton). k.from_problem) adds)
      (behind old new h (ap (λ (k : Skeleton). k.from_problem) adds) (listener t) (ap (λ (k : Skeleton). k.strands) adds) heard)
      (λ x i. old_assumptions old new h (ap (λ (k : Skeleton). k.from_problem) adds) x (subst (λ (k : Skeleton). IsIn x (variables_of_assumptions k.assumptions)) adds i))
    where
      none : (x : Variable) → IsIn x [] → IsOne x
      none x i = elim i [ ]

      heard : (x : Variable) → IsIn x (variables_of_trace (skeleton_trace (listener t))) → IsOne x
      heard x i = ⊎_elim (of_t x) (λ j. ⊎_elim (of_t x) (none x) (in_append (variables_of t) [] j)) (in_append (variables_of t) (variables_of t ++ []) i)

  pub strand_declared : (role : Role) (height : ℕ) (values : List Term) (old new : Skeleton) → IsClosedPrefix role height → AddsStrand role height values old new → AreOfDeclared values → HasDeclaredVariables ds old → HasDeclaredVariables ds new
  strand_declared role height values old new closed adds of_values h =
      by_parts old new h adds.from_problem (behind old new h adds.from_problem (instance role height adds.terms) adds.strands (instance_declared role height adds.terms each))
      (grown_assumptions role height adds.terms each (length old.strands) old.assumptions new.assumptions adds.assumptions (old_assumptions old new h adds.from_problem))
    where
      each : (z : Variable) → IsIn z (variables_of_prefix role height) → (y : Variable) → IsIn y (variables_of (apply_to (as_substitution adds.terms) (variable_term z))) → IsOne y
      each z i y j =
          of_values (apply_to (as_substitution adds.terms) (variable_term z)) y
          (subst (IsIn (apply_to (as_substitution adds.terms) (variable_term z))) adds.gives (in_terms (as_substitution adds.terms) (prefix_variables role height) z ((in-prefix role z height).1 (closed z i, i)))) j

  module _ (s height : ℕ) (values : List Term) (old new : Skeleton) (x : Extends s height values old new) (closed : IsClosedPrefix x.role height) (of_values : AreOfDeclared values) (h : HasDeclaredVariables ds old) where
    of_old : (z : Variable) → IsIn z (variables_of_prefix x.role x.before) → (y : Variable) → IsIn y (variables_of (apply_to (as_substitution x.terms) (variable_term z))) → IsOne y
    of_old z i y j =
        old_strand old new h x.from_problem s (instance x.role x.before x.old_terms) x.was_instance y
        (in_trace_under (as_substitution x.old_terms) (prefix_of x.role x.before) z y i (subst (λ (t : Term). IsIn y (variables_of t)) (sym (x.keeps z i)) j))

    of_new : (z : Variable) → IsIn z (variables_of_prefix x.role height) → (IsIn z (variables_of_prefix x.role x.before) → ⊥) → (y : Variable) → IsIn y (variables_of (apply_to (as_substitution x.terms) (variable_term z))) → IsOne y
    of_new z i never y j =
        of_values (apply_to (as_substitution x.terms) (variable_term z)) y
        (subst (IsIn (apply_to (as_substitution x.terms) (variable_term z))) x.gives (in_terms (as_substitution x.terms) (added_variables x.role x.before height) z ((in-added x.role z x.before height).1 (closed z i, i, never)))) j

    each_term : (z : Variable) → IsIn z (variables_of_prefix x.role height) → (y : Variable) → IsIn y (variables_of (apply_to (as_substitution x.terms) (variable_term z))) → IsOne y
    each_term z i y j = by_test (has_variable (variables_of_prefix x.role x.before) z) refl
      where
        by_test : (b : Bool) → has_variable (variables_of_prefix x.role x.before) z ≡ b → IsOne y
        by_test true e = of_old z (variable_in (variables_of_prefix x.role x.before) z e) y j
        by_test false e = of_new z i (λ m. let f : has_variable (variables_of_prefix x.role x.before) z ≡ true = in_has_variable (variables_of_prefix x.role x.before) z m in absurd (cc)) y j

    each_strand : (n : ℕ) (st : SkeletonStrand) → (n ≡ s) ⊎ (n ≢ s) → item_at new.strands n ≡ Some st → (y : Variable) → IsIn y (variables_of_trace (skeleton_trace st)) → IsOne y
    each_strand n st (inl is_s) at y i =
        let both : Some (instance x.role height x.terms) ≡ Some st = sym x.on_instance ∙ ap (item_at new.strands) (sym is_s) ∙ at in
        let same : st ≡ instance x.role height x.terms = cc in
        instance_declared x.role height x.terms each_term y (subst (λ (d : SkeletonStrand). IsIn y (variables_of_trace (skeleton_trace d))) same i)
    each_strand n st (inr other) at y i = old_strand old new h x.from_problem n st (sym (x.others n other) ∙ at) y i

    pub extended_declared : HasDeclaredVariables ds new
    extended_declared =
        by_parts old new h x.from_problem (λ n st at y i. each_strand n st (cases_eq n s) at y i)
        (grown_assumptions x.role height x.terms each_term s old.assumptions new.assumptions x.assumptions (old_assumptions old new h x.from_problem))

  pub ordered_declared : (k : Skeleton) (pairs : List OrderPair) → HasDeclaredVariables ds k → HasDeclaredVariables ds (ordered_by k pairs)
  ordered_declared k pairs h = record { occurring = h.occurring; mapped = h.mapped }
