-- A skeleton still stands with pairs from recorded origins, and its order then has no cycle.
use Rattle.std.proofs.Common.{◌≡◌, ◌≢◌, ℕ, suc, ◌<◌, ◌≤◌, List, Option, Some, None, refl, sym, ◌∙◌, subst, ◌⊎◌, inl, inr, arith}
use Rattle.cp_lists.specs.Lists.{item_at, IsIn, one_step, more_steps}
use Rattle.cp_model.specs.Term.{Term}
use Rattle.cp_model.specs.Bindings.{Binding}
use Rattle.cp_model.specs.Strand.{Role, Protocol}
use Rattle.cp_model.specs.declared.strand.Event.{Event}
use Rattle.cp_model.specs.Bundle.{node_at, Bundle, Precedes, along_strand, IsBundle}
use Rattle.cp_model.specs.declared.node.Node.{Node}
use Rattle.cp_model.specs.Skeleton.{SkeletonStrand, instance, listener, skeleton_trace_or_none, Skeleton, OrderStep, along_strand_of, along_pair, Before, IsSkeleton}
use Rattle.cp_model.specs.declared.node.OrderPair.{OrderPair}
use Rattle.cp_model.specs.Standing.{Standing, image_on, image_of, StandsOnRegular, StandsIn}
use Rattle.cp_lists.proofs.Reached.{steps_append}
use Rattle.cp_model.proofs.LawStandings.{event_of_instance, event_of_regular}
use Rattle.cp_model.proofs.LawOrigins.{never_before_itself}
use Rattle.cp_theory.specs.Normal.{IsOriginPair, with_pairs, AddOnlyOriginPairs}
use Rattle.cp_theory.proofs.Origins.{origin_precedes}

-- Nothing in a bundle precedes itself.
module _ (k : Skeleton) (b : Bundle) (h : Standing)
    (on : (s : ℕ) (role : Role) (height : ℕ) (terms : List Binding) → item_at k.strands s ≡ Some (instance role height terms) → StandsOnRegular b h s role height terms)
    (pairs : (p : OrderPair) → IsIn p k.pairs → Precedes b (image_of k h p.earlier) (image_of k h p.later)) where
  -- The images of two nodes of which one is before the other: one precedes the other, or they are the two nodes of a
  -- listener.
  abbrev Climbs : Node → Node → Type 0
  Climbs x y = Precedes b (image_of k h x) (image_of k h y) ⊎ ((image_of k h x ≡ image_of k h y) × (x.strand ≡ y.strand) × (x.index < y.index))

  climbs_both : (x y z : Node) → Climbs x y → Climbs y z → Climbs x z
  climbs_both x y z (inl p) (inl q) = inl (steps_append p q)
  climbs_both x y z (inl p) (inr q) = inl (subst (Precedes b (image_of k h x)) q.0 p)
  climbs_both x y z (inr p) (inl q) = inl (subst (λ (w : Node). Precedes b w (image_of k h z)) (sym p.0) q)
  climbs_both x y z (inr p) (inr q) = let l : x.index < y.index = p.2 in let m : y.index < z.index = q.2 in inr (p.0 ∙ q.0, p.1 ∙ q.1, omega arith)

  abbrev Images : ℕ → ℕ → Option SkeletonStrand → Type 0
  Images s i o = Precedes b (image_on o (h.nodes s) i) (image_on o (h.nodes s) (suc i)) ⊎ (image_on o (h.nodes s) i ≡ image_on o (h.nodes s) (suc i))

  image_step : (s i : ℕ) (o : Option SkeletonStrand) (e : Event Term) → item_at k.strands s ≡ o → item_at (skeleton_trace_or_none o) (suc i) ≡ Some e → Images s i o
  image_step s i None e at ev = absurd (cc)
  image_step s i (Some (listener t)) e at ev = inr refl
  image_step s i (Some (instance role height terms)) e at ev =
      let st = on s role height terms at in
      let u = event_of_instance role height terms (suc i) e ev in
      let l : suc i < height = u.0 in
      let at_least : height ≤ st.to_height = st.at_least in
      inl (one_step (along_strand (event_of_regular b.strands (h.nodes s).strand (suc i) role st.to_height st.to_values u.1 st.on_regular (omega arith) u.2)))

  climbs_on : (s i : ℕ) → Images s i (item_at k.strands s) → Climbs (node_at s i) (node_at s (suc i))
  climbs_on s i (inl p) = inl p
  climbs_on s i (inr e) = inr (e, refl, omega arith)

  climbs_step : {x y : Node} → OrderStep k x y → Climbs x y
  climbs_step (along_strand_of {s = s} {i = i} {e = e} ev) = climbs_on s i (image_step s i (item_at k.strands s) e refl ev)
  climbs_step (along_pair {p = p} inp) = inl (pairs p inp)

  climbs : {x y : Node} → Before k x y → Climbs x y
  climbs (one_step s) = climbs_step s
  climbs {x} {y = z} (more_steps {y = y} s p) = climbs_both x y z (climbs_step s) (climbs p)

  apart_precedes : (x y : Node) → x.strand ≢ y.strand → Climbs x y → Precedes b (image_of k h x) (image_of k h y)
  apart_precedes x y ne (inl p) = p
  apart_precedes x y ne (inr p) = absurd (ne p.1)

  pub ordered : (x y : Node) → Before k x y → x.strand ≢ y.strand → Precedes b (image_of k h x) (image_of k h y)
  ordered x y before ne = apart_precedes x y ne (climbs before)

  same_climbs : (protocol : Protocol) (n : Node) → IsBundle protocol b → Climbs n n → ⊥
  same_climbs protocol n is (inl p) = never_before_itself protocol b (image_of k h n) is p
  same_climbs protocol n is (inr p) = let l : n.index < n.index = p.2 in omega arith

  pub no_cycle : (protocol : Protocol) (n : Node) → IsBundle protocol b → Before k n n → ⊥
  no_cycle protocol n is before = same_climbs protocol n is (climbs before)

added : (protocol : Protocol) (k : Skeleton) (b : Bundle) (h : Standing) → IsSkeleton protocol k → IsBundle protocol b → StandsIn k b h → (p : OrderPair) → IsIn p k.pairs ⊎ IsOriginPair k p →
    Precedes b (image_of k h p.earlier) (image_of k h p.later)
added protocol k b h sk is stands p (inl inp) = stands.ordered p.earlier p.later (one_step (along_pair inp)) (sk.order_pairs p inp).between_strands
added protocol k b h sk is stands p (inr op) = origin_precedes protocol k b h p is stands op

pub stands_with_pairs : (protocol : Protocol) (k : Skeleton) (b : Bundle) (h : Standing) (pairs : List OrderPair) → IsSkeleton protocol k → IsBundle protocol b → AddOnlyOriginPairs k pairs → StandsIn k b h →
    StandsIn (with_pairs k pairs) b h
stands_with_pairs protocol k b h pairs sk is add stands = record {
  instances = stands.instances;
  listeners = stands.listeners;
  ordered = ordered (with_pairs k pairs) b h stands.instances (λ p inp. added protocol k b h sk is stands p (add p inp));
  non = stands.non;
  penetrator_non = stands.penetrator_non;
  unique = stands.unique;
}

pub no_cycle_with_pairs : (protocol : Protocol) (k : Skeleton) (b : Bundle) (h : Standing) (pairs : List OrderPair) → IsSkeleton protocol k → IsBundle protocol b → AddOnlyOriginPairs k pairs → StandsIn k b h →
    (n : Node) → Before (with_pairs k pairs) n n → ⊥
no_cycle_with_pairs protocol k b h pairs sk is add stands n before =
    no_cycle (with_pairs k pairs) b h stands.instances (λ p inp. added protocol k b h sk is stands p (add p inp)) protocol n is before
