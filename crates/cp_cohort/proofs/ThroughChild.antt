-- The standings of a test's skeleton go through those of its children.
use Rattle.std.proofs.Common.{◌≡◌, ℕ, List, [], ◌++◌, map, Some, refl, sym, ap, ◌∙◌, subst, ⊎_elim}
use Rattle.cp_lists.specs.Lists.{item_at}
use Rattle.cp_lists.proofs.Mapped.{map_same}
use Rattle.cp_lists.proofs.Members.{not_in_none, in_append, in_append_right, from_map}
use Rattle.cp_model.specs.Term.{Term, variables_of, Assignment, value_of, after, AgreeOn, apply_to, variable_term}
use Rattle.cp_model.specs.Bindings.{Binding, as_substitution}
use Rattle.cp_model.specs.Strand.{Role, Protocol, prefix_of, variables_of_prefix, variables_of_trace, regular}
use Rattle.cp_model.specs.declared.strand.Event.TheVariants.{Receive as recv}
use Rattle.cp_model.specs.Bundle.{Bundle, event_at}
use Rattle.cp_model.specs.declared.node.Node.{Node}
use Rattle.cp_model.specs.Skeleton.{SkeletonStrand, instance, listener, skeleton_trace, Skeleton}
use Rattle.cp_model.specs.Standing.{Standing, StandsIn, StandsApart}
use Rattle.cp_model.proofs.LawTerms.{value_after, after_further}
use Rattle.cp_model.proofs.LawPrefixes.{variables_of_higher}
use Rattle.cp_model.specs.Problem.{variables_of_skeleton, variables_of_strands}
use Rattle.cp_theory.specs.Normal.{variables_of_terms}
use Rattle.cp_theory.specs.NoneLeftOut.{GoesOn}
use Rattle.cp_cohort.specs.CoveringChildren.{Child}
use Rattle.cp_cohort.specs.Cohort.{GuardedTest, IsCohort}
use Rattle.cp_cohort.specs.Released.{IsChildBySubstitution}
use Rattle.cp_cohort.specs.Through.{GoesThroughChild}
use Rattle.cp_cohort.proofs.Operations.{children_said}
use Rattle.cp_cohort.proofs.EqualValues.{term_agreed, trace_agreed, strands_agreed, terms_agreed}

-- A child that comes from the test's skeleton by a substitution stands where that does, and equal traces have equal values.
module _ (q : GuardedTest) (c : Child) (by : IsChildBySubstitution q c) (b : Bundle) (h g : Standing) (stands : StandsIn q.skeleton b h) (there : StandsIn c.skeleton b g)
    (nodes : (s : ℕ) (st : SkeletonStrand) → item_at q.skeleton.strands s ≡ Some st → h.nodes s ≡ g.nodes s) where
  abbrev to : Assignment
  to = after g.values by.substitution

  instance_values : (s : ℕ) (role : Role) (height : ℕ) (terms : List Binding) → item_at q.skeleton.strands s ≡ Some (instance role height terms) → AgreeOn (variables_of_prefix role height) (after h.values (as_substitution terms)) (after to (as_substitution terms))
  instance_values s role height terms at x i =
      let first = stands.instances s role height terms at in
      let goes = by.homomorphism.instances s role height terms at in
      let second = there.instances s role goes.to_height goes.to_terms goes.on_instance in
      let both : Some (regular role first.to_height first.to_values) ≡ Some (regular role second.to_height second.to_values) =
      sym first.on_regular ∙ ap (λ (n : Node). item_at b.strands n.strand) (nodes s (instance role height terms) at) ∙ second.on_regular in
      let same : first.to_values ≡ second.to_values = cc in
      first.equal_values x i
      ∙ ap (λ (f : Assignment). value_of f (variable_term x)) same
      ∙ sym (second.equal_values x (variables_of_higher role height goes.to_height goes.at_least x i))
      ∙ sym (after_further by.substitution (as_substitution terms) (as_substitution goes.to_terms) g.values (variable_term x) (goes.equal_terms x i))

  listener_values : (s : ℕ) (t : Term) → item_at q.skeleton.strands s ≡ Some (listener t) → value_of h.values t ≡ value_of to t
  listener_values s t at =
      let both : Some (recv (value_of h.values t)) ≡ Some (recv (value_of g.values (apply_to by.substitution t))) =
      sym (stands.listeners s t at) ∙ ap (event_at b.strands) (nodes s (listener t) at) ∙ there.listeners s (apply_to by.substitution t) (by.homomorphism.listeners s t at) in
      let same : value_of h.values t ≡ value_of g.values (apply_to by.substitution t) = cc in
      same ∙ sym (value_after g.values by.substitution t)

  strand_values : (s : ℕ) (st : SkeletonStrand) → item_at q.skeleton.strands s ≡ Some st → AgreeOn (variables_of_trace (skeleton_trace st)) h.values to
  strand_values s (instance role height terms) at = trace_agreed (as_substitution terms) h.values to (prefix_of role height) (instance_values s role height terms at)
  strand_values s (listener t) at =
      let a = term_agreed h.values to t (listener_values s t at) in
      λ x i. ⊎_elim (λ j. a x j) (λ j. ⊎_elim (λ m. a x m) (λ m. absurd (not_in_none m)) (in_append (variables_of t) [] j)) (in_append (variables_of t) (variables_of t ++ []) i)

pub goes_through_child : (protocol : Protocol) (q : GuardedTest) (children : List Child) → IsCohort protocol q children → (b : Bundle) (h : Standing) → StandsIn q.skeleton b h → GoesOn (map (λ (d : Child). d.skeleton) children) q.skeleton b h → GoesThroughChild q children b h
goes_through_child protocol q children is b h stands r =
    let m = from_map (λ (d : Child). d.skeleton) children r.listed in
    let by = (children_said protocol q children is m.0 m.1).by in
    let there : StandsIn m.0.skeleton b r.standing = subst (λ (l : Skeleton). StandsIn l b r.standing) (sym m.2) r.stands in
    let nodes : (s : ℕ) (st : SkeletonStrand) → item_at q.skeleton.strands s ≡ Some st → h.nodes s ≡ r.standing.nodes s = λ s st at. r.through.nodes s st at ∙ ap r.standing.nodes (r.in_place s) in
    let to : Assignment = after r.standing.values by.substitution in
    let of_strands = strands_agreed h.values to q.skeleton.strands (strand_values q m.0 by b h r.standing stands there nodes) in
    let same_terms : map (apply_to r.along.terms) q.skeleton.from_problem.values ≡ map (apply_to by.substitution) q.skeleton.from_problem.values =
    r.through.problem_values ∙ ap (λ (l : Skeleton). l.from_problem.values) (sym m.2) ∙ sym by.problem_values in
    let of_problem = terms_agreed r.standing.values h.values r.along.terms by.substitution q.skeleton.from_problem.values (λ x i. r.through.values x (in_append_right (variables_of_skeleton q.skeleton) i)) same_terms in
    record {
      child = m.0;
      listed = m.1;
      standing = r.standing;
      stands = there;
      apart = subst (λ (l : Skeleton). StandsApart l r.standing) (sym m.2) r.apart;
      along = record { strands = λ s. s; terms = by.substitution };
      homomorphism = by.homomorphism;
      nodes = nodes;
      values = λ x i. ⊎_elim (λ j. of_strands x j) (λ j. of_problem x j) (in_append (variables_of_strands q.skeleton.strands) (variables_of_terms q.skeleton.from_problem.values) i);
      problem_strands = map_same (λ (s : ℕ). s) (λ s. refl) q.skeleton.from_problem.strands ∙ by.problem_strands;
      problem_values = by.problem_values;
    }
