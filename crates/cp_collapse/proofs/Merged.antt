-- The way of a skeleton onto the blocks of a partition: events, order, and a homomorphism.
use Rattle.std.proofs.Common.{◌≡◌, ℕ, suc, ◌<◌, ◌≤◌, List, Some, refl, sym, ap, ◌∙◌, subst, arith}
use native.Mathlib.Decide.{ℕ_discrete}
use Rattle.cp_lists.specs.Lists.{item_at, IsIn, one_step, more_steps}
use Rattle.cp_model.specs.Term.{Term, variables_of, Substitution, apply_to, apply_to_atom, composed, AgreeOnTerms}
use Rattle.cp_model.specs.Bindings.{Binding, as_substitution}
use Rattle.cp_model.specs.Strand.{payload, event_map, Role, prefix_of}
use Rattle.cp_model.specs.declared.strand.Event.{Event}
use Rattle.cp_model.specs.declared.strand.Event.TheVariants.{Send as send, Receive as recv}
use Rattle.cp_model.specs.Bundle.{node_at}
use Rattle.cp_model.specs.declared.node.Node.{Node}
use Rattle.cp_model.specs.Skeleton.{SkeletonStrand, instance, listener, skeleton_trace, term_event_at, Skeleton, OrderStep, along_strand_of, along_pair, Before, IsOrderPair}
use Rattle.cp_model.specs.declared.node.OrderPair.{OrderPair}
use Rattle.cp_model.specs.Homomorphism.{SkeletonMap, GoesToInstance, IsHomomorphism}
use Rattle.cp_lists.proofs.Items.{item_of_map, item_of_take, map_of_item}
use Rattle.cp_lists.proofs.Reached.{steps_append}
use Rattle.cp_model.proofs.LawTerms.{term_composed}
use Rattle.cp_model.proofs.LawStandings.{strand_of_event, event_of_higher, skeleton_climb}
use Rattle.cp_model.proofs.LawPrefixes.{in_trace}
use Rattle.cp_model.proofs.LawAgreement.{agree_term}
use Rattle.cp_collapse.specs.Partitions.{place_in, node_in}
use Rattle.cp_collapse.specs.Collapses.{onto_blocks, unique_in, collapsed_pair, IsCollapsed}
use Rattle.cp_collapse.proofs.AssumptionImages.{assumptions_are}

-- An event under two substitutions one after the other, and under one that agrees.
event_agrees : (s f t : Substitution) (e : Event Term) → AgreeOnTerms (variables_of (payload e)) (composed s f) t → event_map (apply_to t) e ≡ event_map (apply_to f) (event_map (apply_to s) e)
event_agrees s f t (send u) a = ap send (sym (agree_term (composed s f) t u a) ∙ term_composed s f u)
event_agrees s f t (recv u) a = ap recv (sym (agree_term (composed s f) t u a) ∙ term_composed s f u)

-- The event of an instance, where the instance goes.
pub event_goes : (l : Skeleton) (f : SkeletonMap) (s i : ℕ) (role : Role) (height : ℕ) (terms : List Binding) (e : Event Term) → GoesToInstance l f s role height terms →
    item_at (skeleton_trace (instance role height terms)) i ≡ Some e → term_event_at l.strands (node_at (f.strands s) i) ≡ Some (event_map (apply_to f.terms) e)
event_goes l f s i role height terms e g ev =
    let m = item_of_map (event_map (apply_to (as_substitution terms))) (prefix_of role height) i e ev in
    let t = item_of_take height role.trace i m.0 m.1 in
    let below : i < height = t.0 in
    let higher : height ≤ g.to_height = g.at_least in
    event_of_higher l.strands (f.strands s) i role g.to_height g.to_terms m.0 g.on_instance (omega arith) t.1
    ∙ ap Some (event_agrees (as_substitution terms) f.terms (as_substitution g.to_terms) m.0 (λ x inx. g.equal_terms x (in_trace (prefix_of role height) i m.0 x m.1 inx)) ∙ ap (event_map (apply_to f.terms)) m.2)

module _ (k l : Skeleton) (p : List ℕ) (c : IsCollapsed k p l) where
  abbrev f : SkeletonMap
  f = onto_blocks p c.unifier

  strand_event : (s i : ℕ) (st : SkeletonStrand) (e : Event Term) → item_at k.strands s ≡ Some st → item_at (skeleton_trace st) i ≡ Some e →
      term_event_at l.strands (node_at (place_in p s) i) ≡ Some (event_map (apply_to c.unifier) e)
  strand_event s i (instance role height terms) e at ev = event_goes l f s i role height terms e (c.instances s role height terms at) ev
  strand_event s i (listener t) e at ev = rw (c.listeners s t at) (map_of_item (event_map (apply_to c.unifier)) (skeleton_trace (listener t)) i e ev)

  -- An event of the skeleton, at the place of its strand's block.
  pub event_in : (n : Node) (e : Event Term) → term_event_at k.strands n ≡ Some e → term_event_at l.strands (node_in p n) ≡ Some (event_map (apply_to c.unifier) e)
  event_in n e ev =
      let st = strand_of_event k.strands n e ev in
      strand_event n.strand n.index st.0 e st.1 (rw st.1 at ev)

  module _ (order_pairs : (q : OrderPair) → IsIn q k.pairs → IsOrderPair k q) where
    climbs_in : (q : OrderPair) → IsIn q k.pairs → place_in p q.earlier.strand ≡ place_in p q.later.strand → Before l (node_in p q.earlier) (node_in p q.later)
    climbs_in q inq same =
        let o = order_pairs q inq in
        subst (λ (s : ℕ). Before l (node_at s q.earlier.index) (node_in p q.later)) (sym same)
        (skeleton_climb l (place_in p q.later.strand) q.earlier.index q.later.index (recv (apply_to c.unifier o.received)) (event_in q.later (recv o.received) o.reception) (c.forward q inq same))

    -- A pair of the skeleton is before there: it is a pair, or goes forward on one strand.
    pair_before : (q : OrderPair) → IsIn q k.pairs → Dec (place_in p q.earlier.strand ≡ place_in p q.later.strand) → Before l (node_in p q.earlier) (node_in p q.later)
    pair_before q inq (yes same) = climbs_in q inq same
    pair_before q inq (no other) = one_step (along_pair {p = collapsed_pair p q} ((c.pairs (collapsed_pair p q)).1 ((q, inq, refl), other)))

    step_in : {x y : Node} → OrderStep k x y → Before l (node_in p x) (node_in p y)
    step_in (along_strand_of {s = s} {i = i} {e = e} ev) = one_step (along_strand_of (event_in (node_at s (suc i)) e ev))
    step_in (along_pair {p = q} inq) = pair_before q inq (ℕ_discrete (place_in p q.earlier.strand) (place_in p q.later.strand))

    -- What is before in the skeleton is before in the merged one.
    pub before_in : {x y : Node} → Before k x y → Before l (node_in p x) (node_in p y)
    before_in (one_step s) = step_in s
    before_in (more_steps s r) = steps_append (step_in s) (before_in r)

    pub merging_is_homomorphism : IsHomomorphism k l (onto_blocks p c.unifier)
    merging_is_homomorphism = record {
      instances = c.instances;
      listeners = c.listeners;
      ordered = λ x y before. before_in before;
      non = λ v inv. ((assumptions_are k l p c).non (apply_to_atom c.unifier v)).1 (v, inv, refl);
      penetrator_non = λ v inv. ((assumptions_are k l p c).penetrator_non (apply_to_atom c.unifier v)).1 (v, inv, refl);
      unique = λ u inu. ((assumptions_are k l p c).unique (unique_in p c.unifier u)).1 (u, inu, refl);
    }
