-- What stands at the image of a node of a skeleton.
use Rattle.std.proofs.Common.{◌≡◌, ℕ, zero, suc, ◌<◌, ◌≤◌, Option, Some, sym, ap, ◌∙◌, subst, arith, List}
use Rattle.cp_lists.specs.Lists.{item_at}
use Rattle.cp_model.specs.Message.{Message}
use Rattle.cp_model.specs.Term.{Term, Assignment, value_of, apply_to, after}
use Rattle.cp_model.specs.Bindings.{Binding, as_substitution}
use Rattle.cp_model.specs.Strand.{payload, event_map, Role, prefix_of}
use Rattle.cp_model.specs.declared.strand.Event.{Event}
use Rattle.cp_model.specs.declared.strand.Event.TheVariants.{Send as send, Receive as recv}
use Rattle.cp_model.specs.Bundle.{node_at, event_at, Bundle}
use Rattle.cp_model.specs.declared.node.Node.{Node}
use Rattle.cp_model.specs.Skeleton.{SkeletonStrand, instance, listener, skeleton_trace, term_event_at, Skeleton}
use Rattle.cp_model.specs.Standing.{Standing, image_on, image_of, StandsOnRegular, StandsIn}
use Rattle.cp_lists.proofs.Items.{item_of_map, item_of_take}
use Rattle.cp_model.proofs.LawEvents.{event_after, payload_map}
use Rattle.cp_model.proofs.LawStandings.{strand_of_event, event_of_regular, event_on}
use Rattle.cp_model.proofs.LawPrefixes.{in_trace}
use Rattle.cp_model.proofs.LawAgreement.{agree_event_values}

-- At the image of an event of an instance is its value.
pub image_event : (b : Bundle) (h : Standing) (s : ℕ) (role : Role) (height : ℕ) (terms : List Binding) (i : ℕ) (e : Event Term) → StandsOnRegular b h s role height terms →
    item_at (skeleton_trace (instance role height terms)) i ≡ Some e → event_at b.strands (node_at (h.nodes s).strand i) ≡ Some (event_map (value_of h.values) e)
image_event b h s role height terms i e st at =
    let m = item_of_map (event_map (apply_to (as_substitution terms))) (prefix_of role height) i e at in
    let t = item_of_take height role.trace i m.0 m.1 in
    let l : i < height = t.0 in
    let at_least : height ≤ st.to_height = st.at_least in
    let on : event_at b.strands (node_at (h.nodes s).strand i) ≡ Some (event_map (value_of st.to_values) m.0) =
    event_of_regular b.strands (h.nodes s).strand i role st.to_height st.to_values m.0 st.on_regular (omega arith) t.1 in
    let same : event_map (value_of (after h.values (as_substitution terms))) m.0 ≡ event_map (value_of st.to_values) m.0 =
    agree_event_values (after h.values (as_substitution terms)) st.to_values m.0 (λ x p. st.equal_values x (in_trace (prefix_of role height) i m.0 x m.1 p)) in
    on ∙ ap Some (sym same ∙ event_after h.values (as_substitution terms) m.0 ∙ ap (event_map (value_of h.values)) m.2)

pub image_at : (k : Skeleton) (h : Standing) (n : Node) (st : SkeletonStrand) → item_at k.strands n.strand ≡ Some st → image_of k h n ≡ image_on (Some st) (h.nodes n.strand) n.index
image_at k h n st at = ap (λ (o : Option SkeletonStrand). image_on o (h.nodes n.strand) n.index) at

pub event_there : (b : Bundle) (x y : Node) (e : Event Message) → y ≡ x → event_at b.strands x ≡ Some e → event_at b.strands y ≡ Some e
event_there b x y e same at = subst (λ (n : Node). event_at b.strands n ≡ Some e) (sym same) at

-- At the image of a node is an event whose message is the value of the node's; of a reception, a reception.
pub record IsImageOf (b : Bundle) (g : Assignment) (e : Event Term) (n : Node) : Type 0 where
  pub event : Event Message
  pub there : event_at b.strands n ≡ Some event
  pub message : payload event ≡ value_of g (payload e)
  pub reception : (t : Term) → e ≡ recv t → event ≡ recv (value_of g t)

listened : (t : Term) (i : ℕ) (e : Event Term) → item_at (skeleton_trace (listener t)) i ≡ Some e → t ≡ payload e
listened t zero (send u) at = absurd (cc)
listened t zero (recv u) at = cc
listened t (suc zero) (send u) at = cc
listened t (suc zero) (recv u) at = absurd (cc)
listened t (suc (suc i)) e at = absurd (cc)

image_on_strand : (k : Skeleton) (b : Bundle) (h : Standing) → StandsIn k b h → (n : Node) (e : Event Term) (st : SkeletonStrand) → item_at k.strands n.strand ≡ Some st →
    item_at (skeleton_trace st) n.index ≡ Some e → IsImageOf b h.values e (image_of k h n)
image_on_strand k b h stands n e (instance role height terms) at ev = record {
  event = event_map (value_of h.values) e;
  there = event_there b (node_at (h.nodes n.strand).strand n.index) (image_of k h n) (event_map (value_of h.values) e) (image_at k h n (instance role height terms) at)
      (image_event b h n.strand role height terms n.index e (stands.instances n.strand role height terms at) ev);
  message = payload_map (value_of h.values) e;
  reception = λ t same. ap (event_map (value_of h.values)) same;
}
image_on_strand k b h stands n e (listener t) at ev =
    let same : t ≡ payload e = listened t n.index e ev in
    record {
      event = recv (value_of h.values t);
      there = event_there b (h.nodes n.strand) (image_of k h n) (recv (value_of h.values t)) (image_at k h n (listener t) at) (stands.listeners n.strand t at);
      message = ap (value_of h.values) same;
      reception = λ u is. ap (λ (w : Term). recv (value_of h.values w)) (same ∙ ap payload is);
    }

pub image_event_at : (k : Skeleton) (b : Bundle) (h : Standing) → StandsIn k b h → (n : Node) (e : Event Term) → term_event_at k.strands n ≡ Some e → IsImageOf b h.values e (image_of k h n)
image_event_at k b h stands n e ev =
    let st = strand_of_event k.strands n e ev in
    image_on_strand k b h stands n e st.0 st.1 (event_on k n st.0 e st.1 ev)
