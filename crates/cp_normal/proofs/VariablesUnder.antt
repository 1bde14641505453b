-- The variables of a skeleton, and of what it is under a substitution.
use Rattle.std.proofs.Common.{◌≡◌, List, Some, sym, subst, ⊎_elim}
use Rattle.cp_lists.specs.Lists.{IsIn}
use Rattle.cp_model.specs.Term.{AtomTerm, atom_term, Term, IsCarriedByTerm, variables_of_atom, variables_of, Substitution, apply_to, variable_term}
use Rattle.cp_model.specs.declared.variable.Variable.{Variable}
use Rattle.cp_model.specs.Strand.{payload}
use Rattle.cp_model.specs.declared.variable.Declaration.{Declaration}
use Rattle.cp_model.specs.declared.strand.Event.{Event}
use Rattle.cp_model.specs.declared.node.Node.{Node}
use Rattle.cp_model.specs.Skeleton.{skeleton_trace, FromProblem, Skeleton, term_event_at}
use Rattle.cp_model.specs.Problem.{IsDeclared, variables_of_assumptions, variables_of_skeleton}
use Rattle.cp_model.specs.PointOfView.{HasDeclaredVariables}
use Rattle.cp_lists.proofs.Members.{in_append, in_append_left, in_append_right, from_map}
use Rattle.cp_model.proofs.LawStandings.{strand_of_event, event_on}
use Rattle.cp_theory.specs.Normal.{skeleton_under, variables_of_terms}
use Rattle.cp_model.proofs.OccurringVariables.{in_strands, in_terms, term_with}
use Rattle.cp_model.proofs.LawPrefixes.{in_trace}
use Rattle.cp_unify.proofs.VariablesUnder.{given_term}
use Rattle.cp_model.proofs.UnderVariables.{carried_variables}
use Rattle.cp_collapse.specs.SameSkeletons.{SaysTheSame}
use Rattle.cp_normal.specs.BySubstitution.{all_variables}
use Rattle.cp_normal.proofs.Narrowed.{same_variables, of_skeleton}

-- The variables of what an event carries occur in the skeleton.
pub carried_occurs : (k : Skeleton) (n : Node) (e : Event Term) (v : AtomTerm) → term_event_at k.strands n ≡ Some e → IsCarriedByTerm (atom_term v) (payload e) → (x : Variable) → IsIn x (variables_of_atom v) → IsIn x (variables_of_skeleton k)
carried_occurs k n e v at carried x i =
    let st = strand_of_event k.strands n e at in
    in_append_left (variables_of_assumptions k.assumptions)
    (in_strands k.strands n.strand st.0 x st.1
    (in_trace (skeleton_trace st.0) n.index e x (event_on k n st.0 e st.1 at) (carried_variables carried x i)))

module _ (ds : List Declaration) where
  pub all_declared : (k : Skeleton) → HasDeclaredVariables ds k → (x : Variable) → IsIn x (all_variables k) → IsDeclared ds x
  all_declared k h x i =
      ⊎_elim (λ j. h.occurring x j) (λ j. let t = term_with k.from_problem.values x j in h.mapped t.0 x t.1 t.2) (in_append (variables_of_skeleton k) (variables_of_terms k.from_problem.values) i)

  -- Where each variable of a skeleton becomes a term of declared variables, it has declared variables then.
  module _ (s : Substitution) (k : Skeleton) (gives : (x y : Variable) → IsIn x (all_variables k) → IsIn y (variables_of (apply_to s (variable_term x))) → IsDeclared ds y) where
    of_own : (t : Term) → ((x : Variable) → IsIn x (variables_of t) → IsIn x (all_variables k)) → (y : Variable) → IsIn y (variables_of (apply_to s t)) → IsDeclared ds y
    of_own t among = given_term (IsDeclared ds) s t (λ x i y j. gives x y (among x i) j)

    pub given_under : HasDeclaredVariables ds (skeleton_under s k)
    given_under = record {
      occurring = of_skeleton s (all_variables k) (IsDeclared ds) of_own k (λ x i. in_append_left (variables_of_terms k.from_problem.values) i);
      mapped = λ t x i j.
          let m = from_map (apply_to s) k.from_problem.values i in
          of_own m.0 (λ z n. in_append_right (variables_of_skeleton k) (in_terms k.from_problem.values m.0 z m.1 n)) x (subst (λ (u : Term). IsIn x (variables_of u)) (sym m.2) j);
    }

  pub under_declared : (s : Substitution) (k : Skeleton) → ((x y : Variable) → IsDeclared ds x → IsIn y (variables_of (apply_to s (variable_term x))) → IsDeclared ds y) → HasDeclaredVariables ds k → HasDeclaredVariables ds (skeleton_under s k)
  under_declared s k keeps h = given_under s k (λ x y i j. keeps x y (all_declared k h x i) j)

  -- What says the same has declared variables too.
  pub agreeing_declared : (k l : Skeleton) → SaysTheSame k l → HasDeclaredVariables ds k → HasDeclaredVariables ds l
  agreeing_declared k l same h = record {
    occurring = λ x i. h.occurring x (subst (IsIn x) (sym (same_variables k l same)) i);
    mapped = λ t x i j. h.mapped t x (subst (λ (f : FromProblem). IsIn t f.values) (sym same.from_problem) i) j;
  }
