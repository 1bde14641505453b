-- A collapse of a skeleton that keeps what its problem states keeps it too.
use Rattle.std.proofs.Common.{◌≡◌, ◌↔◌, ◌<◌, ◌+◌, ℕ, suc, List, Some, length, sym, ap, ◌∙◌, arith}
use Rattle.cp_lists.specs.Lists.{item_at, IsIn, one_step, more_steps}
use Rattle.cp_model.specs.Term.{AtomTerm, variables_of_atom, Term, Substitution, apply_to_atom}
use Rattle.cp_model.specs.declared.variable.Variable.{Variable}
use Rattle.cp_model.specs.Strand.{Protocol}
use Rattle.cp_model.specs.declared.strand.Event.{Event}
use Rattle.cp_model.specs.declared.strand.Event.TheVariants.{Send as send, Receive as recv}
use Rattle.cp_model.specs.declared.variable.Declaration.{Declaration}
use Rattle.cp_model.specs.Bundle.{node_at}
use Rattle.cp_model.specs.declared.node.Node.{Node}
use Rattle.cp_model.specs.Skeleton.{instance, term_event_at, UniqueAt, Skeleton, OrderStep, along_strand_of, along_pair, Before, IsSkeleton}
use Rattle.cp_model.specs.declared.node.OrderPair.{OrderPair}
use Rattle.cp_model.specs.Problem.{IsDeclared}
use Rattle.cp_model.specs.PointOfView.{StatesItself}
use Rattle.cp_model.specs.Homomorphism.{SkeletonMap, substitution_by, number_or, strand_in, map_from_problem, CarriesHomomorphism}
use Rattle.cp_model.specs.Stated.{unique_image, pair_image, IsImageOfOne, KeepsStated}
use Rattle.cp_lists.proofs.Items.{item_below, map_of_item}
use Rattle.cp_model.proofs.LawStandings.{strand_of_event}
use Rattle.cp_model.proofs.Images.{images_then}
use Rattle.cp_model.proofs.OwnOrder.{own_before}
use Rattle.cp_theory.proofs.StatedSteps.{non_declared, penetrator_non_declared, unique_declared, value_under}
use Rattle.cp_collapse.specs.Partitions.{place_in}
use Rattle.cp_collapse.specs.Collapses.{unique_in, collapsed_pair, IsCollapsed}
use Rattle.cp_collapse.proofs.CollapsedFromProblem.{own_of, in_range_in, own_non, own_penetrator_non, own_unique, assumed_in, ordered_in}
use Rattle.cp_collapse.proofs.Lowest.{numbers_at}

-- The strands of a problem's recorded origins, of its order and of the pairs that it states are there.
module _ (protocol : Protocol) (variables : List Declaration) (problem : Skeleton) (sk : IsSkeleton protocol problem) (own : StatesItself variables problem) where
  node_below : (n : Node) (e : Event Term) → term_event_at problem.strands n ≡ Some e → n.strand < length problem.strands
  node_below n e at = let r = strand_of_event problem.strands n e at in item_below problem.strands n.strand r.0 r.1

  pub origin_below : (u : UniqueAt) → IsIn u problem.from_problem.assumptions.uniquely_originating → u.origin.strand < length problem.strands
  origin_below u i = let o = sk.origins u (own.assumed.unique u i) in item_below problem.strands u.origin.strand (instance o.role o.height o.terms) o.on_instance

  step_below : {x y : Node} → OrderStep problem x y → (x.strand < length problem.strands) × (y.strand < length problem.strands)
  step_below (along_strand_of {s = s} {i = i} {e = e} at) = let below : s < length problem.strands = node_below (node_at s (suc i)) e at in (below, below)
  step_below (along_pair {p = q} i) =
      let o = sk.order_pairs q i in
      (node_below q.earlier (send o.sent) o.transmission, node_below q.later (recv o.received) o.reception)

  pub before_below : {x y : Node} → Before problem x y → (x.strand < length problem.strands) × (y.strand < length problem.strands)
  before_below (one_step s) = step_below s
  before_below (more_steps s r) = ((step_below s).0, (before_below r).1)

  pub pair_below : (q : OrderPair) → IsIn q problem.from_problem.pairs → (q.earlier.strand < length problem.strands) × (q.later.strand < length problem.strands)
  pair_below q i = before_below (own_before problem own.ordered q i)

module _ (protocol : Protocol) (variables : List Declaration) (problem k l : Skeleton) (p : List ℕ) (sp : IsSkeleton protocol problem) (own : StatesItself variables problem) (sk : IsSkeleton protocol k)
    (carries : CarriesHomomorphism problem k) (c : IsCollapsed k p l) (keeps : KeepsStated problem k) where
  abbrev f : Substitution
  f = c.unifier

  abbrev first : SkeletonMap
  first = map_from_problem k

  abbrev last : SkeletonMap
  last = map_from_problem l

  -- ---- the map goes on to the blocks

  goes : (s : ℕ) → s < length problem.strands → last.strands s ≡ place_in p (first.strands s)
  goes s less =
      let z : 0 + s ≡ s = omega arith in
      let a : item_at problem.from_problem.strands s ≡ Some s = ap (λ (ns : List ℕ). item_at ns s) own.maps.strands ∙ numbers_at 0 problem.strands s less ∙ ap Some z in
      let b : item_at k.from_problem.strands s ≡ Some (first.strands s) =
      ap (λ (ns : List ℕ). item_at ns s) (sym carries.strands) ∙ map_of_item first.strands problem.from_problem.strands s s a in
      ap (λ (ns : List ℕ). strand_in ns s) c.from_problem.strands ∙ ap (number_or s) (map_of_item (place_in p) k.from_problem.strands s (first.strands s) b)

  value_goes : (v : AtomTerm) → ((x : Variable) → IsIn x (variables_of_atom v) → IsDeclared variables x) → apply_to_atom last.terms v ≡ apply_to_atom f (apply_to_atom first.terms v)
  value_goes v declared = ap (λ (ts : List Term). apply_to_atom (substitution_by ts) v) c.from_problem.values ∙ value_under variables problem k f own carries v declared

  unique_goes : (u : UniqueAt) → IsIn u (own_of problem).uniquely_originating → unique_image last u ≡ unique_in p f (unique_image first u)
  unique_goes u i = λ j. record {
    value = value_goes u.value (unique_declared variables problem own u i) j;
    origin = node_at (goes u.origin.strand (origin_below protocol variables problem sp own u i) j) u.origin.index;
  }

  pair_goes : (q : OrderPair) → IsIn q problem.from_problem.pairs → pair_image last q ≡ collapsed_pair p (pair_image first q)
  pair_goes q i = λ j. record {
    earlier = node_at (goes q.earlier.strand (pair_below protocol variables problem sp own q i).0 j) q.earlier.index;
    later = node_at (goes q.later.strand (pair_below protocol variables problem sp own q i).1 j) q.later.index;
  }

  -- ---- the pairs

  was_between : (q r : OrderPair) → collapsed_pair p q ≡ r → (r.earlier.strand ≡ r.later.strand → ⊥) → q.earlier.strand ≡ q.later.strand → ⊥
  was_between q r e other same = other (sym (ap (λ (d : OrderPair). d.earlier.strand) e) ∙ ap (place_in p) same ∙ ap (λ (d : OrderPair). d.later.strand) e)

  own_pairs : (r : OrderPair) → IsIn r l.from_problem.pairs ↔ (IsImageOfOne (pair_image last) problem.from_problem.pairs r × (r.earlier.strand ≡ r.later.strand → ⊥))
  own_pairs r = (
    λ i. let h = (c.from_problem.pairs r).0 i in
        let o = ((keeps.pairs h.0.0).0 h.0.1).0 in
        (record { item = o.item; listed = o.listed; image = pair_goes o.item o.listed ∙ ap (collapsed_pair p) o.image ∙ h.0.2 }, h.1),
    λ h. let o = h.0 in
        let q = pair_image first o.item in
        let e : collapsed_pair p q ≡ r = sym (pair_goes o.item o.listed) ∙ o.image in
        (c.from_problem.pairs r).1 ((q, (keeps.pairs q).1 (record { item = o.item; listed = o.listed; image = λ j. q }, was_between q r e h.1), e), h.1),
  )

  pub collapse_keeps : KeepsStated problem l
  collapse_keeps = record {
    in_range = in_range_in k l p c keeps.in_range;
    non = images_then (apply_to_atom first.terms) (apply_to_atom f) (apply_to_atom last.terms) (own_of problem).non_originating (own_of k).non_originating (own_of l).non_originating keeps.non (own_non k l p c)
        (λ v i. value_goes v (non_declared variables problem own v i));
    penetrator_non = images_then (apply_to_atom first.terms) (apply_to_atom f) (apply_to_atom last.terms) (own_of problem).penetrator_non_originating (own_of k).penetrator_non_originating (own_of l).penetrator_non_originating keeps.penetrator_non (own_penetrator_non k l p c)
        (λ v i. value_goes v (penetrator_non_declared variables problem own v i));
    unique = images_then (unique_image first) (unique_in p f) (unique_image last) (own_of problem).uniquely_originating (own_of k).uniquely_originating (own_of l).uniquely_originating keeps.unique (own_unique k l p c) unique_goes;
    assumed = assumed_in k l p c keeps.assumed;
    pairs = own_pairs;
    ordered = ordered_in k l p c sk.order_pairs keeps.ordered;
  }
