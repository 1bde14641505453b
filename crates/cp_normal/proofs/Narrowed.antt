-- A skeleton under a most general unifier of two different atoms of it has fewer different variables.
use Rattle.std.proofs.Common.{◌≡◌, ◌<◌, List, [], ◌∷◌, ◌++◌, map, refl, ap, ap₂, subst, ⊎_elim}
use Rattle.cp_lists.specs.Lists.{IsIn}
use Rattle.cp_model.specs.Term.{AtomTerm, Term, atom_term, variables_of_atom, variables_of, Substitution, apply_to_atom, apply_to}
use Rattle.cp_model.specs.declared.variable.Variable.{Variable}
use Rattle.cp_model.specs.Strand.{payload, event_map, variables_of_trace}
use Rattle.cp_model.specs.declared.strand.Event.{Event}
use Rattle.cp_model.specs.declared.strand.Event.TheVariants.{Send as send, Receive as recv}
use Rattle.cp_model.specs.Skeleton.{SkeletonStrand, skeleton_trace, UniqueAt, Assumptions, Skeleton}
use Rattle.cp_model.specs.Problem.{variables_of_strands, variables_of_atoms, variables_of_uniques, variables_of_assumptions, variables_of_skeleton}
use Rattle.cp_lists.proofs.Members.{in_append, in_append_left, in_append_right}
use Rattle.cp_theory.specs.Normal.{strand_under, unique_under, assumptions_under, skeleton_under}
use Rattle.cp_theory.proofs.Under.{trace_under}
use Rattle.cp_unify.specs.Bindings.{Binding, as_substitution, variables_of_bindings}
use Rattle.cp_unify.specs.Unifiers.{AreVariablesAmong, IsMostGeneralUnifier}
use Rattle.cp_unify.proofs.Members.{among_append}
use Rattle.cp_unify.proofs.Steps.{applied_among}
use Rattle.cp_collapse.specs.SameSkeletons.{AreSameStrands, no_strands, same_strands, SaysTheSame}
use Rattle.cp_normal.specs.Branches.{HasFewerVariables}
use Rattle.cp_collapse.proofs.SameStrands.{same_trace}
use Rattle.cp_normal.proofs.Distinct.{distinct, fewer_distinct}
use Rattle.cp_collapse.proofs.Bound.{gone, some_taken}

-- Skeletons that say the same have the same variables.
same_of_strands : {ss ts : List SkeletonStrand} → AreSameStrands ss ts → variables_of_strands ss ≡ variables_of_strands ts
same_of_strands no_strands = refl
same_of_strands (same_strands p ps) = ap₂ ◌++◌ (ap variables_of_trace (same_trace p)) (same_of_strands ps)

pub same_variables : (k l : Skeleton) → SaysTheSame k l → variables_of_skeleton k ≡ variables_of_skeleton l
same_variables k l s = ap₂ ◌++◌ (same_of_strands s.strands) (ap variables_of_assumptions s.assumptions)

-- What holds of the variables of each term of a skeleton under a substitution holds of those of the skeleton under it.
module _ (s : Substitution) (zs : List Variable) (P : Variable → Type 0) (each : (t : Term) → AreVariablesAmong (variables_of t) zs → (x : Variable) → IsIn x (variables_of (apply_to s t)) → P x) where
  of_event : (e : Event Term) → AreVariablesAmong (variables_of (payload e)) zs → (x : Variable) → IsIn x (variables_of (payload (event_map (apply_to s) e))) → P x
  of_event (send t) h x i = each t h x i
  of_event (recv t) h x i = each t h x i

  of_trace : (es : List (Event Term)) → AreVariablesAmong (variables_of_trace es) zs → (x : Variable) → IsIn x (variables_of_trace (map (event_map (apply_to s)) es)) → P x
  of_trace [] h x i = elim i [ ]
  of_trace (e ∷ es) h x i =
      ⊎_elim (λ l. of_event e (λ y j. h y (in_append_left (variables_of_trace es) j)) x l) (λ r. of_trace es (λ y j. h y (in_append_right (variables_of (payload e)) j)) x r)
      (in_append (variables_of (payload (event_map (apply_to s) e))) (variables_of_trace (map (event_map (apply_to s)) es)) i)

  of_strands : (ss : List SkeletonStrand) → AreVariablesAmong (variables_of_strands ss) zs → (x : Variable) → IsIn x (variables_of_strands (map (strand_under s) ss)) → P x
  of_strands [] h x i = elim i [ ]
  of_strands (st ∷ ss) h x i =
      ⊎_elim
      (λ l. of_trace (skeleton_trace st) (λ y j. h y (in_append_left (variables_of_strands ss) j)) x (subst (λ (es : List (Event Term)). IsIn x (variables_of_trace es)) (trace_under s (st ∷ []) 0) l))
      (λ r. of_strands ss (λ y j. h y (in_append_right (variables_of_trace (skeleton_trace st)) j)) x r)
      (in_append (variables_of_trace (skeleton_trace (strand_under s st))) (variables_of_strands (map (strand_under s) ss)) i)

  of_atoms : (vs : List AtomTerm) → AreVariablesAmong (variables_of_atoms vs) zs → (x : Variable) → IsIn x (variables_of_atoms (map (apply_to_atom s) vs)) → P x
  of_atoms [] h x i = elim i [ ]
  of_atoms (v ∷ vs) h x i =
      ⊎_elim (λ l. each (atom_term v) (λ y j. h y (in_append_left (variables_of_atoms vs) j)) x l) (λ r. of_atoms vs (λ y j. h y (in_append_right (variables_of_atom v) j)) x r)
      (in_append (variables_of_atom (apply_to_atom s v)) (variables_of_atoms (map (apply_to_atom s) vs)) i)

  of_uniques : (us : List UniqueAt) → AreVariablesAmong (variables_of_uniques us) zs → (x : Variable) → IsIn x (variables_of_uniques (map (unique_under s) us)) → P x
  of_uniques [] h x i = elim i [ ]
  of_uniques (u ∷ us) h x i =
      ⊎_elim (λ l. each (atom_term u.value) (λ y j. h y (in_append_left (variables_of_uniques us) j)) x l) (λ r. of_uniques us (λ y j. h y (in_append_right (variables_of_atom u.value) j)) x r)
      (in_append (variables_of_atom (apply_to_atom s u.value)) (variables_of_uniques (map (unique_under s) us)) i)

  of_assumptions : (a : Assumptions) → AreVariablesAmong (variables_of_assumptions a) zs → (x : Variable) → IsIn x (variables_of_assumptions (assumptions_under s a)) → P x
  of_assumptions a h x i =
      let non = variables_of_atoms a.non_originating in
      let penetrator = variables_of_atoms a.penetrator_non_originating in
      let unique = variables_of_uniques a.uniquely_originating in
      let non' = variables_of_atoms (map (apply_to_atom s) a.non_originating) in
      let penetrator' = variables_of_atoms (map (apply_to_atom s) a.penetrator_non_originating) in
      let unique' = variables_of_uniques (map (unique_under s) a.uniquely_originating) in
      ⊎_elim
      (λ l.
      ⊎_elim
      (λ m. of_atoms a.non_originating (λ y j. h y (in_append_left unique (in_append_left penetrator j))) x m)
      (λ m. of_atoms a.penetrator_non_originating (λ y j. h y (in_append_left unique (in_append_right non j))) x m)
      (in_append non' penetrator' l))
      (λ r. of_uniques a.uniquely_originating (λ y j. h y (in_append_right (non ++ penetrator) j)) x r)
      (in_append (non' ++ penetrator') unique' i)

  pub of_skeleton : (k : Skeleton) → AreVariablesAmong (variables_of_skeleton k) zs → (x : Variable) → IsIn x (variables_of_skeleton (skeleton_under s k)) → P x
  of_skeleton k h x i =
      ⊎_elim
      (λ l. of_strands k.strands (λ y j. h y (in_append_left (variables_of_assumptions k.assumptions) j)) x l)
      (λ r. of_assumptions k.assumptions (λ y j. h y (in_append_right (variables_of_strands k.strands) j)) x r)
      (in_append (variables_of_strands (map (strand_under s) k.strands)) (variables_of_assumptions (assumptions_under s k.assumptions)) i)

-- A most general unifier of two different atoms, all of whose variables occur in the skeleton, leaves it fewer variables.
pub under_has_fewer : (k : Skeleton) (a b : AtomTerm) (r : List Binding) → IsMostGeneralUnifier (atom_term a) (atom_term b) [] r → (a ≡ b → ⊥) → AreVariablesAmong (variables_of_atom a) (variables_of_skeleton k) → AreVariablesAmong (variables_of_atom b) (variables_of_skeleton k) →
    HasFewerVariables k (skeleton_under (as_substitution r) k)
under_has_fewer k a b r m ne of_a of_b =
    let s : Substitution = as_substitution r in
    let zs : List Variable = variables_of_skeleton k in
    let e : atom_term (apply_to_atom s a) ≡ atom_term (apply_to_atom s b) = m.unifies in
    let same : apply_to_atom s a ≡ apply_to_atom s b = cc in
    let taken = some_taken s m.idempotent a b ne same in
    let within : AreVariablesAmong (variables_of_bindings r) zs = λ x i. among_append (variables_of_atom a) (variables_of_atom b ++ []) zs of_a (among_append (variables_of_atom b) [] zs of_b (λ y j. elim j [ ])) x (m.no_new x i) in
    record {
      among = of_skeleton s zs (λ x. IsIn x zs) (λ t h x i. applied_among r zs t within h x i) k (λ x i. i);
      taken = taken.0;
      was_there = among_append (variables_of_atom a) (variables_of_atom b) zs of_a of_b taken.0 taken.1;
      is_gone = λ j.
          of_skeleton s zs (λ x. x ≡ taken.0 → ⊥) (λ t h x i e. gone s m.idempotent taken.0 taken.2 t (subst (λ (y : Variable). IsIn y (variables_of (apply_to s t))) e i)) k (λ x i. i) taken.0 j refl;
    }

pub fewer_variables : (k : Skeleton) (a b : AtomTerm) (r : List Binding) → IsMostGeneralUnifier (atom_term a) (atom_term b) [] r → (a ≡ b → ⊥) → AreVariablesAmong (variables_of_atom a) (variables_of_skeleton k) → AreVariablesAmong (variables_of_atom b) (variables_of_skeleton k) →
    distinct (variables_of_skeleton (skeleton_under (as_substitution r) k)) < distinct (variables_of_skeleton k)
fewer_variables k a b r m ne of_a of_b =
    let f = under_has_fewer k a b r m ne of_a of_b in
    fewer_distinct (variables_of_skeleton (skeleton_under (as_substitution r) k)) (variables_of_skeleton k) f.taken f.among f.was_there f.is_gone
