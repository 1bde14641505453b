-- Of the order of a skeleton only the pairs need checking, where its strands become parts of others.
use Rattle.std.proofs.Common.{◌≡◌, ◌≢◌, ℕ, zero, suc, ◌<◌, ◌≤◌, List, refl, subst₂, arith}
use Rattle.std.specs.Prelude.{Some}
use Rattle.cp_lists.specs.Lists.{item_at, IsIn, one_step, more_steps}
use Rattle.cp_model.specs.Term.{Term, apply_to}
use Rattle.cp_model.specs.Bindings.{Binding, as_substitution}
use Rattle.cp_model.specs.Strand.{event_map, Role}
use Rattle.cp_model.specs.declared.strand.Event.{Event}
use Rattle.cp_model.specs.declared.strand.Event.TheVariants.{Send as send, Receive as recv}
use Rattle.cp_model.specs.Bundle.{node_at}
use Rattle.cp_model.specs.declared.node.Node.{Node}
use Rattle.cp_model.specs.Skeleton.{SkeletonStrand, instance, listener, skeleton_trace, term_event_at, IsNodeOf, Skeleton, OrderStep, along_strand_of, along_pair, Before, IsOrderPair}
use Rattle.cp_model.specs.declared.node.OrderPair.{OrderPair}
use Rattle.cp_model.specs.Order.{ReachesAlong}
use Rattle.cp_model.specs.Homomorphism.{SkeletonMap, mapped, GoesToInstance}
use Rattle.cp_lists.proofs.Reached.{steps_append}
use Rattle.cp_model.proofs.LawOrder.{before_by_pairs}
use Rattle.cp_model.proofs.LawStandings.{strand_of_event, event_on_instance, event_of_higher}
use Rattle.cp_skel.specs.Ordered.{IsOrdered}
use Rattle.cp_hom.specs.Counterparts.{KeepsPairs}

-- What is true of two nodes is true of the same two.
pub both_nodes : (pairs : List OrderPair) (x y z w : Node) → x ≡ y → z ≡ w → ReachesAlong pairs x z × (x ≢ z) → ReachesAlong pairs y w × (y ≢ w)
both_nodes pairs x y z w e l h = subst₂ (λ (n m : Node). ReachesAlong pairs n m × (n ≢ m)) e l h

-- Instances go to instances and listeners to listeners.
pub record StrandsGo (a b : Skeleton) (f : SkeletonMap) : Type 0 where
  pub instances : (s : ℕ) (role : Role) (height : ℕ) (terms : List Binding) → item_at a.strands s ≡ Some (instance role height terms) → GoesToInstance b f s role height terms
  pub listeners : (s : ℕ) (t : Term) → item_at a.strands s ≡ Some (listener t) → item_at b.strands (f.strands s) ≡ Some (listener (apply_to f.terms t))

listener_event : (t u : Term) (i : ℕ) (e : Event Term) → item_at (skeleton_trace (listener t)) i ≡ Some e → (d : Event Term) × (item_at (skeleton_trace (listener u)) i ≡ Some d)
listener_event t u zero e h = (recv u, refl)
listener_event t u (suc zero) e h = (send u, refl)
listener_event t u (suc (suc i)) e h = absurd (cc)

on_strand : (a b : Skeleton) (f : SkeletonMap) → StrandsGo a b f → (s i : ℕ) (st : SkeletonStrand) → item_at a.strands s ≡ Some st → (e : Event Term) → term_event_at a.strands (node_at s i) ≡ Some e →
    IsNodeOf b.strands (node_at (f.strands s) i)
on_strand a b f go s i (instance role height terms) at e ev =
    let g = go.instances s role height terms at in
    let u = event_on_instance a.strands s i role height terms e at ev in
    let l : i < height = u.0 in
    let m : height ≤ g.to_height = g.at_least in
    (event_map (apply_to (as_substitution g.to_terms)) u.1, event_of_higher b.strands (f.strands s) i role g.to_height g.to_terms u.1 g.on_instance (omega arith) u.2)
on_strand a b f go s i (listener t) at e ev =
    let h = listener_event t (apply_to f.terms t) i e (rw at at ev) in
    (h.0, rw (go.listeners s t at) h.1)

-- The image of a node is a node.
pub node_kept : (a b : Skeleton) (f : SkeletonMap) → StrandsGo a b f → (n : Node) → IsNodeOf a.strands n → IsNodeOf b.strands (mapped f n)
node_kept a b f go n h =
    let st = strand_of_event a.strands n h.0 h.1 in
    on_strand a b f go n.strand n.index st.0 st.1 h.0 h.1

step_kept : (a b : Skeleton) (f : SkeletonMap) → StrandsGo a b f → ((p : OrderPair) → IsIn p a.pairs → Before b (mapped f p.earlier) (mapped f p.later)) →
    (x y : Node) → OrderStep a x y → Before b (mapped f x) (mapped f y)
step_kept a b f go pairs x y (along_strand_of {s} {i} {e} ev) =
    one_step (along_strand_of (node_kept a b f go (node_at s (suc i)) (e, ev)).1)
step_kept a b f go pairs x y (along_pair {p} inp) = pairs p inp

way_kept : (a b : Skeleton) (f : SkeletonMap) → StrandsGo a b f → ((p : OrderPair) → IsIn p a.pairs → Before b (mapped f p.earlier) (mapped f p.later)) →
    (x y : Node) → Before a x y → Before b (mapped f x) (mapped f y)
way_kept a b f go pairs x y (one_step st) = step_kept a b f go pairs x y st
way_kept a b f go pairs x y (more_steps {y = z} st way) = steps_append (step_kept a b f go pairs x z st) (way_kept a b f go pairs z y way)

later_kept : (a b : Skeleton) (f : SkeletonMap) → IsOrdered a → StrandsGo a b f → (p : OrderPair) → IsIn p a.pairs → IsNodeOf b.strands (mapped f p.later)
later_kept a b f order go p inp =
    let pair : IsOrderPair a p = order.order_pairs p inp in
    node_kept a b f go p.later (recv pair.received, pair.reception)

pub order_kept : (a b : Skeleton) (f : SkeletonMap) → IsOrdered a → IsOrdered b → StrandsGo a b f → KeepsPairs a.pairs b.pairs f →
    (x y : Node) → Before a x y → Before b (mapped f x) (mapped f y)
order_kept a b f order other go kept x y before =
    way_kept a b f go
    (λ p inp. (before_by_pairs b other.order_pairs other.no_cycle (mapped f p.earlier) (mapped f p.later) (later_kept a b f order go p inp)).1 (kept p inp))
    x y before

pub pairs_kept : (a b : Skeleton) (f : SkeletonMap) → IsOrdered a → IsOrdered b → StrandsGo a b f → ((x y : Node) → Before a x y → Before b (mapped f x) (mapped f y)) →
    KeepsPairs a.pairs b.pairs f
pairs_kept a b f order other go kept p inp =
    (before_by_pairs b other.order_pairs other.no_cycle (mapped f p.earlier) (mapped f p.later) (later_kept a b f order go p inp)).0 (kept p.earlier p.later (one_step (along_pair inp)))
