-- A skeleton without a pair of its order that the problem does not state keeps what the problem states, and carries the
-- homomorphism from it.
use Rattle.std.proofs.Common.{◌≡◌, ◌⊎◌, inl, inr, ℕ, suc, ◌<◌, List, Some, refl, sym, subst, arith}
use native.Mathlib.Decide.{ℕ_discrete, dec_lt}
use Rattle.cp_lists.specs.Lists.{item_at, IsIn, one_step, more_steps}
use Rattle.cp_lists.proofs.Items.{map_of_item}
use Rattle.cp_lists.proofs.Reached.{steps_append}
use Rattle.cp_model.specs.Term.{Term, apply_to}
use Rattle.cp_model.specs.Bindings.{Binding}
use Rattle.cp_model.specs.Strand.{event_map, Role, Protocol}
use Rattle.cp_model.specs.declared.strand.Event.{Event}
use Rattle.cp_model.specs.declared.variable.Declaration.{Declaration}
use Rattle.cp_model.specs.Bundle.{node_at}
use Rattle.cp_model.specs.declared.node.Node.{Node}
use Rattle.cp_model.specs.declared.node.OrderPair.{OrderPair}
use Rattle.cp_model.specs.Skeleton.{SkeletonStrand, instance, listener, skeleton_trace, term_event_at, IsNodeOf, Skeleton, OrderStep, along_strand_of, along_pair, Before, IsOrderPair, IsSkeleton}
use Rattle.cp_model.specs.Homomorphism.{SkeletonMap, mapped, GoesToInstance, IsHomomorphism, map_from_problem, CarriesHomomorphism}
use Rattle.cp_model.specs.PointOfView.{IsPointOfView}
use Rattle.cp_model.specs.Stated.{pair_image, KeepsStated}
use Rattle.cp_model.specs.Order.{on_strand}
use Rattle.cp_model.proofs.LawOrder.{leads_before}
use Rattle.cp_model.proofs.LawStandings.{strand_of_event, skeleton_climb}
use Rattle.cp_model.proofs.OwnOrder.{own_before}
use Rattle.cp_skel.specs.Ordered.{IsOrdered, ordered_by}
use Rattle.cp_collapse.proofs.Merged.{event_goes}
use Rattle.cp_general.specs.Steps.{Weakens}
use Rattle.cp_general.proofs.DroppedPairs.{dropped_is_skeleton}
use Rattle.cp_general.proofs.HomomorphismByStated.{homomorphism_by_stated}
use Rattle.cp_general.proofs.Ways.{begins, ends}

-- ---- events where a homomorphism takes them

module _ (a b : Skeleton) (f : SkeletonMap) (hom : IsHomomorphism a b f) where
  strand_event : (s i : ℕ) (st : SkeletonStrand) (e : Event Term) → item_at a.strands s ≡ Some st → item_at (skeleton_trace st) i ≡ Some e → term_event_at b.strands (node_at (f.strands s) i) ≡ Some (event_map (apply_to f.terms) e)
  strand_event s i (instance role height terms) e at there = event_goes b f s i role height terms e (hom.instances s role height terms at) there
  strand_event s i (listener t) e at there = rw (hom.listeners s t at) (map_of_item (event_map (apply_to f.terms)) (skeleton_trace (listener t)) i e there)

  event_there : (n : Node) (e : Event Term) → term_event_at a.strands n ≡ Some e → term_event_at b.strands (mapped f n) ≡ Some (event_map (apply_to f.terms) e)
  event_there n e at =
      let st = strand_of_event a.strands n e at in
      strand_event n.strand n.index st.0 e st.1 (rw st.1 at at)

-- ---- on one strand the order rises

module _ (k : Skeleton) (order_pairs : (p : OrderPair) → IsIn p k.pairs → IsOrderPair k p) (no_cycle : (n : Node) → Before k n n → ⊥) where
  no_return : (x y : Node) → Before k x y → (y ≡ x) ⊎ Before k y x → ⊥
  no_return x y b (inl e) = no_cycle x (subst (Before k x) e b)
  no_return x y b (inr back) = no_cycle x (steps_append b back)

  rises : (x y : Node) → IsNodeOf k.strands x → Before k x y → x.strand ≡ y.strand → x.index < y.index
  rises x y there b same = by (dec_lt x.index y.index)
    where
      by : Dec (x.index < y.index) → x.index < y.index
      by (yes less) = less
      by (no not) = absurd (no_return x y b (leads_before k order_pairs y x there (on_strand (sym same, omega (arith, not)))))

-- ---- without the pair

module _ (protocol : Protocol) (variables : List Declaration) (problem k h : Skeleton) (sp : IsSkeleton protocol problem) (own : IsPointOfView variables problem) (carries : CarriesHomomorphism problem k)
    (keeps : KeepsStated problem k) (p : OrderPair) (drop : Weakens p k h) where
  abbrev f : SkeletonMap
  f = map_from_problem k

  -- The skeleton with the pairs that are left.
  abbrev left : Skeleton
  left = ordered_by k h.pairs

  event_of_problem : (n : Node) (e : Event Term) → term_event_at problem.strands n ≡ Some e → term_event_at k.strands (mapped f n) ≡ Some (event_map (apply_to f.terms) e)
  event_of_problem = event_there problem k f carries.homomorphism

  -- What the problem states to be before something still is.
  own_stays : (q : OrderPair) → IsIn q k.from_problem.pairs → Before left q.earlier q.later
  own_stays q i = subst (λ (s : Skeleton). Before s q.earlier q.later) drop.same (drop.stated q i)

  left_keeps_stated : KeepsStated problem left
  left_keeps_stated = record {
    in_range = keeps.in_range;
    non = keeps.non;
    penetrator_non = keeps.penetrator_non;
    unique = keeps.unique;
    assumed = record { non = keeps.assumed.non; penetrator_non = keeps.assumed.penetrator_non; unique = keeps.assumed.unique };
    pairs = keeps.pairs;
    ordered = own_stays;
  }

  pub dropped_keeps_stated : KeepsStated problem h
  dropped_keeps_stated = subst (KeepsStated problem) (sym drop.same) left_keeps_stated

  -- ---- the homomorphism

  module _ (sk : IsSkeleton protocol k) where
    -- A pair that the problem states comes to lie forward on one strand, or is still in the order.
    pair_before : (q : OrderPair) → IsIn q problem.from_problem.pairs → Dec (f.strands q.earlier.strand ≡ f.strands q.later.strand) → Before left (mapped f q.earlier) (mapped f q.later)
    pair_before q i (yes same) =
        let own_way : Before problem q.earlier q.later = own_before problem own.ordered q i in
        let first : IsNodeOf problem.strands q.earlier = begins problem ordered q.earlier q.later own_way in
        let last : IsNodeOf problem.strands q.later = ends problem ordered q.earlier q.later own_way in
        let there : IsNodeOf k.strands (mapped f q.earlier) = (event_map (apply_to f.terms) first.0, event_of_problem q.earlier first.0 first.1) in
        let up : q.earlier.index < q.later.index = rises k sk.order_pairs sk.no_cycle (mapped f q.earlier) (mapped f q.later) there (carries.homomorphism.ordered q.earlier q.later own_way) same in
        subst (λ (s : ℕ). Before left (node_at s q.earlier.index) (mapped f q.later)) (sym same)
        (skeleton_climb left (f.strands q.later.strand) q.earlier.index q.later.index (event_map (apply_to f.terms) last.0) (event_of_problem q.later last.0 last.1) up)
      where
        ordered : IsOrdered problem
        ordered = record { order_pairs = sp.order_pairs; no_cycle = sp.no_cycle }
    pair_before q i (no other) = own_stays (pair_image f q) ((keeps.pairs (pair_image f q)).1 (record { item = q; listed = i; image = refl }, other))

    step_goes : {x y : Node} → OrderStep (record problem { pairs = problem.from_problem.pairs }) x y → Before left (mapped f x) (mapped f y)
    step_goes (along_strand_of {s = s} {i = i} {e = e} at) = one_step (along_strand_of (event_of_problem (node_at s (suc i)) e at))
    step_goes (along_pair {p = q} i) = pair_before q i (ℕ_discrete (f.strands q.earlier.strand) (f.strands q.later.strand))

    before_goes : {x y : Node} → Before (record problem { pairs = problem.from_problem.pairs }) x y → Before left (mapped f x) (mapped f y)
    before_goes (one_step s) = step_goes s
    before_goes (more_steps s r) = steps_append (step_goes s) (before_goes r)

    instance_goes : (s : ℕ) (role : Role) (height : ℕ) (terms : List Binding) → item_at problem.strands s ≡ Some (instance role height terms) → GoesToInstance left f s role height terms
    instance_goes s role height terms at =
        let g = carries.homomorphism.instances s role height terms at in
        record { to_height = g.to_height; to_terms = g.to_terms; on_instance = g.on_instance; at_least = g.at_least; equal_terms = g.equal_terms }

    left_is_skeleton : IsSkeleton protocol left
    left_is_skeleton = subst (IsSkeleton protocol) drop.same (dropped_is_skeleton p k h drop protocol sk)

    left_carries : CarriesHomomorphism problem left
    left_carries = record {
      homomorphism = homomorphism_by_stated protocol variables problem left own left_is_skeleton left_keeps_stated instance_goes carries.homomorphism.listeners (λ x y b. before_goes ((own.ordered.order x y).1 b));
      strands = carries.strands;
      values = carries.values;
    }

    pub dropped_carries : CarriesHomomorphism problem h
    dropped_carries = subst (CarriesHomomorphism problem) (sym drop.same) left_carries
