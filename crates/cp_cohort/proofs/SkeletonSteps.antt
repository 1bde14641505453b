-- One skeleton leads to another, whose strands stay where they are, by a substitution.
use Rattle.std.proofs.Common.{◌≡◌, ℕ, map, Some, sym, ap, ◌∙◌, subst, inl, arith, List}
use Rattle.cp_lists.specs.Lists.{item_at, IsIn}
use Rattle.cp_lists.proofs.Items.{map_of_item}
use Rattle.cp_lists.proofs.Mapped.{map_same, map_then}
use Rattle.cp_model.specs.Term.{AtomTerm, Term, Substitution, apply_to, apply_to_atom, composed, variable_term}
use Rattle.cp_model.specs.Bindings.{Binding, as_substitution}
use Rattle.cp_model.specs.Identity.{unchanged}
use Rattle.cp_model.specs.Strand.{event_map, Role, variables_of_prefix}
use Rattle.cp_model.specs.declared.strand.Event.{Event}
use Rattle.cp_model.specs.declared.node.Node.{Node}
use Rattle.cp_model.specs.Skeleton.{instance, listener, Assumptions, FromProblem, term_event_at, Skeleton, Before}
use Rattle.cp_model.specs.Homomorphism.{SkeletonMap, IsHomomorphism, GoesToInstance}
use Rattle.cp_model.proofs.LawTerms.{atom_unchanged, term_unchanged, term_composed}
use Rattle.cp_model.proofs.DeclaredTerms.{by_bindings}
use Rattle.cp_model.proofs.LawEmbeddings.{then_homomorphism}
use Rattle.cp_theory.specs.Normal.{strand_under, skeleton_under, with_pairs, terms_under}
use Rattle.cp_theory.proofs.Mapped.{to_under, before_under, before_more}
use Rattle.cp_theory.proofs.Skeletons.{event_under}
use Rattle.cp_collapse.specs.SameSkeletons.{AreSameStrands, SaysTheSame}
use Rattle.cp_collapse.proofs.SameStrands.{all_same_back, instance_at, listener_at, same_event_at}
use Rattle.cp_collapse.proofs.SameFacts.{same_before}
use Rattle.cp_skel.proofs.CarriedHomomorphisms.{SaysMore}
use Rattle.cp_normal.specs.BySubstitution.{ComesBySubstitution}

-- By this substitution, with the strands where they are.
abbrev pub along : Substitution → SkeletonMap
along s = record { strands = λ a. a; terms = s }

-- k leads to l by the substitution, and so does its way from the problem.
pub record Leads (k l : Skeleton) (s : Substitution) : Type 0 where
  pub homomorphism : IsHomomorphism k l (along s)
  pub problem_strands : k.from_problem.strands ≡ l.from_problem.strands
  pub problem_values : map (apply_to s) k.from_problem.values ≡ l.from_problem.values

-- l says what k says under the substitution, and perhaps more of the order.
pub record IsStep (k l : Skeleton) (s : Substitution) : Type 0 where
  pub strands : AreSameStrands (skeleton_under s k).strands l.strands
  pub ordered : {x y : Node} → Before (skeleton_under s k) x y → Before l x y
  pub assumptions : (skeleton_under s k).assumptions ≡ l.assumptions
  pub from_problem : (skeleton_under s k).from_problem ≡ l.from_problem

pub step_alike : (k l : Skeleton) (s : Substitution) → SaysTheSame (skeleton_under s k) l → IsStep k l s
step_alike k l s same = record { strands = same.strands; ordered = λ b. same_before (skeleton_under s k) l same b; assumptions = same.assumptions; from_problem = same.from_problem }

pub step_form : (k l : Skeleton) (c : ComesBySubstitution k l) → IsStep k l c.substitution
step_form k l c =
    let under : Skeleton = skeleton_under c.substitution k in
    record {
      strands = c.same.strands;
      ordered = λ b. same_before (with_pairs under l.pairs) l c.same (before_more k under l.pairs (λ p i. (c.pairs p).1 (inl i)) b);
      assumptions = c.same.assumptions;
      from_problem = c.same.from_problem;
    }

module _ (k l : Skeleton) (s : Substitution) (step : IsStep k l s) where
  pub step_event : (n : Node) (e : Event Term) → term_event_at k.strands n ≡ Some e → term_event_at l.strands n ≡ Some (event_map (apply_to s) e)
  step_event n e at = sym (same_event_at step.strands n) ∙ event_under s k n e at

  pub step_instance : (a : ℕ) (role : Role) (height : ℕ) (terms : List Binding) → item_at k.strands a ≡ Some (instance role height terms) → (ts : List Binding) × (item_at l.strands a ≡ Some (instance role height ts))
  step_instance a role height terms at =
      let r = instance_at (all_same_back step.strands) a role height (terms_under s role height terms) (map_of_item (strand_under s) k.strands a (instance role height terms) at) in
      (r.0, r.1)

  pub step_listener : (a : ℕ) (t : Term) → item_at k.strands a ≡ Some (listener t) → item_at l.strands a ≡ Some (listener (apply_to s t))
  step_listener a t at = listener_at (all_same_back step.strands) a (apply_to s t) (map_of_item (strand_under s) k.strands a (listener t) at)

  pub step_before : {x y : Node} → Before k x y → Before l x y
  step_before b = step.ordered (before_under s k b)

  goes : (a : ℕ) (role : Role) (height : ℕ) (terms : List Binding) → item_at k.strands a ≡ Some (instance role height terms) → GoesToInstance l (along s) a role height terms
  goes a role height terms at =
      let r = instance_at (all_same_back step.strands) a role height (terms_under s role height terms) (map_of_item (strand_under s) k.strands a (instance role height terms) at) in
      record { to_height = height; to_terms = r.0; on_instance = r.1; at_least = omega arith; equal_terms = λ x i. sym (by_bindings (composed (as_substitution terms) s) (variables_of_prefix role height) x i) ∙ sym (r.2 x i) }

  step_homomorphism : IsHomomorphism k l (along s)
  step_homomorphism =
      let under = to_under s k in
      record {
        instances = goes;
        listeners = step_listener;
        ordered = λ x y b. step_before b;
        non = λ v i. subst (λ (a : Assumptions). IsIn (apply_to_atom s v) a.non_originating) step.assumptions (under.non v i);
        penetrator_non = λ v i. subst (λ (a : Assumptions). IsIn (apply_to_atom s v) a.penetrator_non_originating) step.assumptions (under.penetrator_non v i);
        unique = λ u i. subst (λ (a : Assumptions). IsIn (record { value = apply_to_atom s u.value; origin = u.origin }) a.uniquely_originating) step.assumptions (under.unique u i);
      }

  pub step_leads : Leads k l s
  step_leads = record {
    homomorphism = step_homomorphism;
    problem_strands = ap (λ (f : FromProblem). f.strands) step.from_problem;
    problem_values = ap (λ (f : FromProblem). f.values) step.from_problem;
  }

-- What says more is led to by the substitution that changes nothing.
more_homomorphism : (k l : Skeleton) → SaysMore k l → IsHomomorphism k l (along unchanged)
more_homomorphism k l more = record {
  instances = λ a role height terms at.
      let r = more.instances a role height terms at in
      record { to_height = r.0; to_terms = r.1; on_instance = r.2; at_least = r.3; equal_terms = λ x i. term_composed (as_substitution terms) unchanged (variable_term x) ∙ term_unchanged (apply_to (as_substitution terms) (variable_term x)) ∙ r.4 x i };
  listeners = λ a t at. more.listeners a t at ∙ ap (λ (u : Term). Some (listener u)) (sym (term_unchanged t));
  ordered = λ x y b. more.ordered x y b;
  non = λ v i. subst (λ (w : AtomTerm). IsIn w l.assumptions.non_originating) (sym (atom_unchanged v)) (more.non v i);
  penetrator_non = λ v i. subst (λ (w : AtomTerm). IsIn w l.assumptions.penetrator_non_originating) (sym (atom_unchanged v)) (more.penetrator_non v i);
  unique = λ u i. subst (λ (w : AtomTerm). IsIn (record { value = w; origin = u.origin }) l.assumptions.uniquely_originating) (sym (atom_unchanged u.value)) (more.unique u i);
}

pub more_leads : (k l : Skeleton) → SaysMore k l → Leads k l unchanged
more_leads k l more = record {
  homomorphism = more_homomorphism k l more;
  problem_strands = ap (λ (f : FromProblem). f.strands) (sym more.from_problem);
  problem_values = map_same (apply_to unchanged) term_unchanged k.from_problem.values ∙ ap (λ (f : FromProblem). f.values) (sym more.from_problem);
}

-- One after the other.
pub first_then : (k l m : Skeleton) (s t : Substitution) → Leads k l s → Leads l m t → Leads k m (composed s t)
first_then k l m s t first second = record {
  homomorphism = then_homomorphism k l m (along s) (along t) first.homomorphism second.homomorphism;
  problem_strands = first.problem_strands ∙ second.problem_strands;
  problem_values = map_then (apply_to s) (apply_to t) (apply_to (composed s t)) (term_composed s t) k.from_problem.values ∙ ap (map (apply_to t)) first.problem_values ∙ second.problem_values;
}

pub more_then : (k l m : Skeleton) (t : Substitution) → Leads k l unchanged → Leads l m t → Leads k m t
more_then k l m t first second = first_then k l m unchanged t first second
