-- What goes through a skeleton's map factors from the problem.
use Rattle.std.proofs.Common.{List, map, refl, ap, ◌∙◌}
use Rattle.cp_lists.proofs.Items.{item_there}
use Rattle.cp_lists.proofs.Mapped.{map_alike, map_then}
use Rattle.cp_lists.proofs.Members.{in_append_right}
use Rattle.cp_model.specs.Term.{value_of, after, apply_to}
use Rattle.cp_model.specs.Strand.{Protocol}
use Rattle.cp_model.specs.Bundle.{Bundle, IsBundle}
use Rattle.cp_model.specs.Skeleton.{Skeleton}
use Rattle.cp_model.specs.Standing.{Standing, StandsIn, StandsApart}
use Rattle.cp_model.specs.Homomorphism.{SkeletonMap, FactorsThrough, Covers}
use Rattle.cp_model.specs.Problem.{variables_of_skeleton}
use Rattle.cp_model.proofs.LawTerms.{value_after}
use Rattle.cp_model.proofs.LawAgreement.{agree_value}
use Rattle.cp_model.proofs.OccurringVariables.{in_terms}
use Rattle.cp_theory.proofs.Under.{covers_then}
use Rattle.cp_theory.specs.NoneLeftOut.{GoesThrough, IsComplete, IsMapInRange}

-- The standing of k that goes through a map of l factors through l's.
through_factors : (k l : Skeleton) (h g : Standing) (f : SkeletonMap) → IsMapInRange k → GoesThrough k h f l g → FactorsThrough k h l g
through_factors k l h g f in_range t = record {
  strands = map_alike h.nodes (λ a. g.nodes (f.strands a)) k.from_problem.strands (λ a i. let there = item_there k.strands a (in_range a i) in t.nodes a there.0 there.1)
      ∙ map_then f.strands g.nodes (λ a. g.nodes (f.strands a)) (λ a. refl) k.from_problem.strands
      ∙ ap (map g.nodes) t.problem_strands;
  values = map_alike (value_of h.values) (λ u. value_of g.values (apply_to f.terms u)) k.from_problem.values
      (λ u i. agree_value h.values (after g.values f.terms) u (λ x inx. t.values x (in_append_right (variables_of_skeleton k) (in_terms k.from_problem.values u x i inx))) ∙ value_after g.values f.terms u)
      ∙ map_then (apply_to f.terms) (value_of g.values) (λ u. value_of g.values (apply_to f.terms u)) (λ u. refl) k.from_problem.values
      ∙ ap (map (value_of g.values)) t.problem_values;
}

pub left_out_factors : (protocol : Protocol) (problem k : Skeleton) (ks : List Skeleton) (b : Bundle) (f h : Standing) → IsMapInRange k → IsComplete protocol k ks → IsBundle protocol b → StandsIn k b h → StandsApart k h →
    FactorsThrough problem f k h → Covers ks problem b f
left_out_factors protocol problem k ks b f h in_range leaves is stands apart first =
    let r = leaves b h is stands apart in
    covers_then problem k r.skeleton ks b f h r.standing r.listed r.stands r.apart first (through_factors k r.skeleton h r.standing r.along in_range r.through)
