-- The variables of collapses are declared.
use Rattle.std.proofs.Common.{◌≡◌, ℕ, List, [], ◌∷◌, ◌++◌, Some, map, refl, sym, ap, ◌∙◌, subst, ⊎_elim}
use Rattle.cp_lists.specs.Lists.{item_at, IsIn, here, there}
use Rattle.cp_model.specs.Term.{AtomTerm, Term, variables_of_atom, variables_of, after, Substitution, apply_to_atom, apply_to, composed, variable_term, value_of}
use Rattle.cp_model.specs.Bindings.{Binding, as_substitution}
use Rattle.cp_model.specs.declared.variable.Variable.{Variable}
use Rattle.cp_model.specs.Strand.{payload, event_map, Role, prefix_of, variables_of_trace, variables_of_prefix}
use Rattle.cp_model.specs.declared.variable.Declaration.{Declaration}
use Rattle.cp_model.specs.declared.strand.Event.{Event}
use Rattle.cp_model.specs.declared.strand.Event.TheVariants.{Send as send, Receive as recv}
use Rattle.cp_model.specs.Skeleton.{SkeletonStrand, instance, listener, skeleton_trace, UniqueAt, Skeleton}
use Rattle.cp_model.specs.Problem.{IsDeclared, variables_of_strands, variables_of_atoms, variables_of_uniques, variables_of_assumptions, variables_of_skeleton}
use Rattle.cp_model.specs.PointOfView.{HasDeclaredVariables}
use Rattle.cp_lists.proofs.Members.{in_append, in_append_left, in_append_right, from_map}
use Rattle.cp_model.proofs.LawTerms.{value_after, term_composed}
use Rattle.cp_model.proofs.LawAgreement.{agree_term}
use Rattle.cp_model.proofs.DeclaredTerms.{by_bindings}
use Rattle.cp_model.proofs.OccurringVariables.{in_trace_under, in_strands, in_atoms, in_uniques, strand_with, atom_with, unique_with}
use Rattle.cp_theory.specs.Normal.{terms_under}
use Rattle.cp_theory.proofs.Under.{trace_under}
use Rattle.cp_unify.proofs.Free.{free}
use Rattle.cp_collapse.specs.SameSkeletons.{same_instance}
use Rattle.cp_collapse.specs.Partitions.{IsPartitionByRole, IdentifiesValues}
use Rattle.cp_collapse.specs.Collapses.{IsCollapsed, AreCollapsesBy, no_collapses, collapse_by}
use Rattle.cp_collapse.proofs.AssumptionImages.{assumptions_are}
use Rattle.cp_collapse.proofs.SameStrands.{same_trace}
use Rattle.cp_collapse.proofs.StrandsOfCollapses.{strand_comes}
use Rattle.cp_collapse.proofs.NoNewVariables.{KeepsDeclared, AgreeOnDeclared, no_new, of_atom, of_term}

-- ---- traces under a substitution that keeps declared variables

module _ (variables : List Declaration) (s : Substitution) (keeps : KeepsDeclared variables s) where
  event_declared : (e : Event Term) → ((x : Variable) → IsIn x (variables_of (payload e)) → IsDeclared variables x) → (y : Variable) → IsIn y (variables_of (payload (event_map (apply_to s) e))) → IsDeclared variables y
  event_declared (send t) h y i = of_term variables s keeps t h y i
  event_declared (recv t) h y i = of_term variables s keeps t h y i

  trace_declared : (es : List (Event Term)) → ((x : Variable) → IsIn x (variables_of_trace es) → IsDeclared variables x) → (y : Variable) → IsIn y (variables_of_trace (map (event_map (apply_to s)) es)) → IsDeclared variables y
  trace_declared [] h y i = elim i [ ]
  trace_declared (e ∷ es) h y i =
      ⊎_elim (λ j. event_declared e (λ x m. h x (in_append_left (variables_of_trace es) m)) y j) (λ j. trace_declared es (λ x m. h x (in_append_right (variables_of (payload e)) m)) y j)
      (in_append (variables_of (payload (event_map (apply_to s) e))) (variables_of_trace (map (event_map (apply_to s)) es)) i)

-- ---- the parts of a skeleton

-- What is true of the variables of the strands, and of those of each kind of assumption, is true of all variables of a skeleton.
pub of_each_part : (P : Variable → Type 0) (k : Skeleton) → ((x : Variable) → IsIn x (variables_of_strands k.strands) → P x) → ((x : Variable) → IsIn x (variables_of_atoms k.assumptions.non_originating) → P x)
    → ((x : Variable) → IsIn x (variables_of_atoms k.assumptions.penetrator_non_originating) → P x) → ((x : Variable) → IsIn x (variables_of_uniques k.assumptions.uniquely_originating) → P x) → (x : Variable) → IsIn x (variables_of_skeleton k) → P x
of_each_part P k strands nons penetrator_nons uniques x i =
    let non = variables_of_atoms k.assumptions.non_originating in
    let penetrator = variables_of_atoms k.assumptions.penetrator_non_originating in
    let unique = variables_of_uniques k.assumptions.uniquely_originating in
    ⊎_elim (strands x) (λ a. ⊎_elim (λ b. ⊎_elim (nons x) (penetrator_nons x) (in_append non penetrator b)) (uniques x) (in_append (non ++ penetrator) unique a)) (in_append (variables_of_strands k.strands) (non ++ penetrator ++ unique) i)

-- ---- the parts of a skeleton whose variables are declared

module _ (variables : List Declaration) (k : Skeleton) (h : HasDeclaredVariables variables k) where
  strand_declared : (n : ℕ) (st : SkeletonStrand) → item_at k.strands n ≡ Some st → (x : Variable) → IsIn x (variables_of_trace (skeleton_trace st)) → IsDeclared variables x
  strand_declared n st at x i = h.occurring x (in_append_left (variables_of_assumptions k.assumptions) (in_strands k.strands n st x at i))

  assumption_declared : (x : Variable) → IsIn x (variables_of_assumptions k.assumptions) → IsDeclared variables x
  assumption_declared x i = h.occurring x (in_append_right (variables_of_strands k.strands) i)

  pub non_declared : (v : AtomTerm) → IsIn v k.assumptions.non_originating → (x : Variable) → IsIn x (variables_of_atom v) → IsDeclared variables x
  non_declared v i x j =
      let a = k.assumptions in
      assumption_declared x (in_append_left (variables_of_uniques a.uniquely_originating) (in_append_left (variables_of_atoms a.penetrator_non_originating) (in_atoms a.non_originating v x i j)))

  pub penetrator_non_declared : (v : AtomTerm) → IsIn v k.assumptions.penetrator_non_originating → (x : Variable) → IsIn x (variables_of_atom v) → IsDeclared variables x
  penetrator_non_declared v i x j =
      let a = k.assumptions in
      assumption_declared x (in_append_left (variables_of_uniques a.uniquely_originating) (in_append_right (variables_of_atoms a.non_originating) (in_atoms a.penetrator_non_originating v x i j)))

  pub unique_declared : (u : UniqueAt) → IsIn u k.assumptions.uniquely_originating → (x : Variable) → IsIn x (variables_of_atom u.value) → IsDeclared variables x
  unique_declared u i x j =
      let a = k.assumptions in
      assumption_declared x (in_append_right (variables_of_atoms a.non_originating ++ variables_of_atoms a.penetrator_non_originating) (in_uniques a.uniquely_originating u x i j))

  -- Its substitutions depend on what they give declared variables.
  instance_alike : (s t : Substitution) → AgreeOnDeclared variables s t → (n : ℕ) (role : Role) (height : ℕ) (terms : List Binding) → item_at k.strands n ≡ Some (instance role height terms) →
      (x : Variable) → IsIn x (variables_of_prefix role height) → apply_to (composed (as_substitution terms) s) (variable_term x) ≡ apply_to (composed (as_substitution terms) t) (variable_term x)
  instance_alike s t agree n role height terms at x i =
      term_composed (as_substitution terms) s (variable_term x)
      ∙ agree_term s t (apply_to (as_substitution terms) (variable_term x)) (λ y j. agree y (strand_declared n (instance role height terms) at y (in_trace_under (as_substitution terms) (prefix_of role height) x y i j)))
      ∙ sym (term_composed (as_substitution terms) t (variable_term x))

-- ---- collapses

-- The value of a variable under one substitution after another.
pub value_composed : (t d : Substitution) (x : Variable) → value_of (after (after free t) d) (variable_term x) ≡ value_of free (apply_to (composed d t) (variable_term x))
value_composed t d x =
    value_after (after free t) d (variable_term x)
    ∙ value_after free t (apply_to d (variable_term x))
    ∙ ap (value_of free) (sym (term_composed d t (variable_term x)))

module _ (variables : List Declaration) (k : Skeleton) (h : HasDeclaredVariables variables k) (p : List ℕ) (l : Skeleton) (part : IsPartitionByRole k p) (collapsed : IsCollapsed k p l) where
  abbrev f : Substitution
  f = collapsed.unifier

  -- What gives declared variables the same terms identifies the blocks too.
  identifies_too : (t : Substitution) → AgreeOnDeclared variables t f → IdentifiesValues k p (after free t)
  identifies_too t agree n m role height terms height' terms' at au together x i j =
      let one = instance_alike variables k h t f agree n role height terms at x i in
      let other = instance_alike variables k h t f agree m role height' terms' au x j in
      value_composed t (as_substitution terms) x
      ∙ ap (value_of free) (one ∙ collapsed.most_general.identifies n m role height terms height' terms' at au together x i j ∙ sym other)
      ∙ sym (value_composed t (as_substitution terms') x)

  keeps : KeepsDeclared variables f
  keeps = no_new variables (IdentifiesValues k p) f identifies_too collapsed.most_general.general

  -- ---- strands

  -- The strand has the trace of one of k under the substitution.
  abbrev ComesFrom : SkeletonStrand → Type 0
  ComesFrom st = (n : ℕ) × (own : SkeletonStrand) × (item_at k.strands n ≡ Some own) × (skeleton_trace st ≡ map (event_map (apply_to f)) (skeleton_trace own))

  comes_declared : (st : SkeletonStrand) → ComesFrom st → (x : Variable) → IsIn x (variables_of_trace (skeleton_trace st)) → IsDeclared variables x
  comes_declared st c x i =
      trace_declared variables f keeps (skeleton_trace c.1) (strand_declared variables k h c.0 c.1 c.2) x (subst (λ (es : List (Event Term)). IsIn x (variables_of_trace es)) c.3 i)

  comes : (place : ℕ) (st : SkeletonStrand) → item_at l.strands place ≡ Some st → ComesFrom st
  comes =
      strand_comes k l p part collapsed ComesFrom
      (λ n role height terms to at agree. (n, instance role height terms, at, sym (same_trace (same_instance {role = role} {height = height} {terms = terms_under f role height terms} {terms' = to} (λ x i. by_bindings (composed (as_substitution terms) f) (variables_of_prefix role height) x i ∙ agree x i))) ∙ trace_under f (instance role height terms ∷ []) 0))
      (λ n t at. (n, listener t, at, refl))

  strands_declared : (x : Variable) → IsIn x (variables_of_strands l.strands) → IsDeclared variables x
  strands_declared x i = let r = strand_with l.strands x i in comes_declared r.1 (comes r.0 r.1 r.2) x r.3

  -- ---- assumptions, and the way from the problem

  image_declared : (v w : AtomTerm) → apply_to_atom f v ≡ w → ((x : Variable) → IsIn x (variables_of_atom v) → IsDeclared variables x) → (x : Variable) → IsIn x (variables_of_atom w) → IsDeclared variables x
  image_declared v w e all x i = of_atom variables f keeps v all x (subst (λ (u : AtomTerm). IsIn x (variables_of_atom u)) (sym e) i)

  nons_declared : (x : Variable) → IsIn x (variables_of_atoms l.assumptions.non_originating) → IsDeclared variables x
  nons_declared x i =
      let r = atom_with l.assumptions.non_originating x i in
      let m = ((assumptions_are k l p collapsed).non r.0).0 r.1 in
      image_declared m.0 r.0 m.2 (non_declared variables k h m.0 m.1) x r.2

  penetrator_nons_declared : (x : Variable) → IsIn x (variables_of_atoms l.assumptions.penetrator_non_originating) → IsDeclared variables x
  penetrator_nons_declared x i =
      let r = atom_with l.assumptions.penetrator_non_originating x i in
      let m = ((assumptions_are k l p collapsed).penetrator_non r.0).0 r.1 in
      image_declared m.0 r.0 m.2 (penetrator_non_declared variables k h m.0 m.1) x r.2

  uniques_declared : (x : Variable) → IsIn x (variables_of_uniques l.assumptions.uniquely_originating) → IsDeclared variables x
  uniques_declared x i =
      let r = unique_with l.assumptions.uniquely_originating x i in
      let m = ((assumptions_are k l p collapsed).unique r.0).0 r.1 in
      image_declared m.0.value r.0.value (ap (λ (u : UniqueAt). u.value) m.2) (unique_declared variables k h m.0 m.1) x r.2

  pub collapse_declared : HasDeclaredVariables variables l
  collapse_declared = record {
    occurring = of_each_part (IsDeclared variables) l strands_declared nons_declared penetrator_nons_declared uniques_declared;
    mapped = λ t x i j.
        let m = from_map (apply_to f) k.from_problem.values (subst (IsIn t) collapsed.from_problem.values i) in
        of_term variables f keeps m.0 (λ z n. h.mapped m.0 z m.1 n) x (subst (λ (u : Term). IsIn x (variables_of u)) (sym m.2) j);
  }

pub collapses_declared : (variables : List Declaration) (k : Skeleton) → HasDeclaredVariables variables k → (ps : List (List ℕ)) (ls : List Skeleton) → AreCollapsesBy k ps ls → (l : Skeleton) → IsIn l ls → HasDeclaredVariables variables l
collapses_declared variables k h _ _ no_collapses l i = elim i [ ]
collapses_declared variables k h _ _ (collapse_by {p = p} {l = m} {ps = ps} {ls = ls} one more) l here = collapse_declared variables k h p m one.partition one.collapsed
collapses_declared variables k h _ _ (collapse_by {p = p} {l = m} {ps = ps} {ls = ls} one more) l (there i) = collapses_declared variables k h ps ls more l i
