-- Skeletons that are reached from a first one, with their standings.
use Rattle.std.proofs.Common.{◌≡◌, ℕ, List, map, Some, refl, sym, ap, ◌∙◌}
use Rattle.cp_lists.specs.Lists.{item_at, IsIn}
use Rattle.cp_lists.proofs.Mapped.{map_same, map_then}
use Rattle.cp_model.specs.Term.{Term, Assignment, value_of, after, AgreeOn, Substitution, apply_to, composed, variable_term}
use Rattle.cp_model.specs.Strand.{Protocol}
use Rattle.cp_model.specs.Bundle.{Bundle, IsBundle}
use Rattle.cp_model.specs.Skeleton.{SkeletonStrand, Skeleton}
use Rattle.cp_model.specs.Standing.{Standing, StandsIn, StandsApart}
use Rattle.cp_model.proofs.LawTerms.{term_composed, value_after}
use Rattle.cp_theory.specs.Normal.{skeleton_under, IsSolution}
use Rattle.cp_theory.proofs.Under.{stands_under, apart_under}
use Rattle.cp_theory.specs.Critical.{used_variables}
use Rattle.cp_theory.specs.Forms.{Form, IsAmongForms, ReducesTo}
use Rattle.cp_theory.specs.FittingAssignments.{Fits}
use Rattle.cp_theory.specs.NoneLeftOut.{GoesOn}
use Rattle.cp_theory.proofs.GrownStandings.{stands_by_values}

-- From k, which stands by h, the skeleton l is reached by the substitution s, and stands apart by g, so that the standing of k
-- goes through it.
pub record Reached (k : Skeleton) (b : Bundle) (h : Standing) (s : Substitution) (l : Skeleton) (g : Standing) : Type 0 where
  pub stands : StandsIn l b g
  pub apart : StandsApart l g
  pub nodes : (a : ℕ) (st : SkeletonStrand) → item_at k.strands a ≡ Some st → h.nodes a ≡ g.nodes a
  pub values : AgreeOn (used_variables k) h.values (after g.values s)
  pub problem_strands : l.from_problem.strands ≡ k.from_problem.strands
  pub problem_values : l.from_problem.values ≡ map (apply_to s) k.from_problem.values

further : (g : Assignment) (s t : Substitution) → ((u : Term) → value_of (after g t) u ≡ value_of g u) → (v : Term) → value_of (after g s) v ≡ value_of (after g (composed s t)) v
further g s t fits v =
    value_after g s v
    ∙ sym (fits (apply_to s v))
    ∙ value_after g t (apply_to s v)
    ∙ sym (ap (value_of g) (term_composed s t v))
    ∙ sym (value_after g (composed s t) v)

further_values : (s t : Substitution) (ts us vs : List Term) → us ≡ map (apply_to s) ts → vs ≡ map (apply_to t) us → vs ≡ map (apply_to (composed s t)) ts
further_values s t ts us vs first second = second ∙ ap (map (apply_to t)) first ∙ sym (map_then (apply_to s) (apply_to t) (apply_to (composed s t)) (term_composed s t) ts)

-- By a substitution that the values fit.
pub reached_under : (k : Skeleton) (b : Bundle) (h : Standing) (s : Substitution) (l : Skeleton) (g : Standing) (t : Substitution) → Reached k b h s l g → (f : Fits k s l g.values t) →
    Reached k b h (composed s t) (skeleton_under t l) (record { nodes = g.nodes; values = f.values })
reached_under k b h s l g t r f =
    let to : Standing = record { nodes = g.nodes; values = f.values } in
    let solution : IsSolution to.values t l = record {
      inside = λ x i. f.fits (variable_term x);
      of_problem = λ x i. f.fits (variable_term x);
    } in
    record {
      stands = stands_under t l b to solution (stands_by_values l b g f.values f.same_inside r.stands);
      apart = apart_under t l to r.apart;
      nodes = r.nodes;
      values = λ x i. r.values x i ∙ f.same_of_first x i ∙ further f.values s t f.fits (variable_term x);
      problem_strands = r.problem_strands;
      problem_values = further_values s t k.from_problem.values l.from_problem.values (map (apply_to t) l.from_problem.values) r.problem_values refl;
    }

-- By one of the forms that keep its standings.
pub reached_form : (k : Skeleton) (b : Bundle) (h : Standing) (s : Substitution) (l : Skeleton) (g : Standing) (forms : List Form) → Reached k b h s l g → (a : IsAmongForms forms l b g) →
    Reached k b h (composed s a.form.substitution) a.form.skeleton g
reached_form k b h s l g forms r a = record {
  stands = a.stands;
  apart = a.apart;
  nodes = r.nodes;
  values = λ x i. r.values x i ∙ further g.values s a.form.substitution a.fits (variable_term x);
  problem_strands = a.problem_strands ∙ r.problem_strands;
  problem_values = further_values s a.form.substitution k.from_problem.values l.from_problem.values a.form.skeleton.from_problem.values r.problem_values a.problem_values;
}

-- Where it is one of the list, the standing goes on.
pub goes_on : (ks : List Skeleton) (k : Skeleton) (b : Bundle) (h : Standing) (s : Substitution) (l : Skeleton) (g : Standing) → Reached k b h s l g → IsIn l ks → GoesOn ks k b h
goes_on ks k b h s l g r i = record {
  skeleton = l;
  listed = i;
  standing = g;
  stands = r.stands;
  apart = r.apart;
  along = record { strands = λ a. a; terms = s };
  in_place = λ a. refl;
  through = record {
    nodes = r.nodes;
    values = r.values;
    problem_strands = map_same (λ (a : ℕ). a) (λ a. refl) k.from_problem.strands ∙ sym r.problem_strands;
    problem_values = sym r.problem_values;
  };
}

pub goes_down : (protocol : Protocol) (ks : List Skeleton) (k : Skeleton) (b : Bundle) (h : Standing) (s : Substitution) (l : Skeleton) (g : Standing) → IsBundle protocol b → Reached k b h s l g → ReducesTo protocol ks l → GoesOn ks k b h
goes_down protocol ks k b h s l g is r d =
    let a = d.keep b g is r.stands r.apart in
    goes_on ks k b h (composed s a.form.substitution) a.form.skeleton g (reached_form k b h s l g d.forms r a) (d.listed a.form a.listed)
