-- A skeleton without one of the pairs of its order is one over the protocol, and embeds in the skeleton with it.
use Rattle.std.proofs.Common.{◌≡◌, List, Some, refl, sym, ap, subst}
use Rattle.cp_lists.specs.Lists.{IsIn, one_step, more_steps}
use Rattle.cp_lists.proofs.Mapped.{map_same}
use Rattle.cp_lists.proofs.Reached.{steps_append}
use Rattle.cp_model.specs.Term.{apply_to}
use Rattle.cp_model.specs.Identity.{unchanged}
use Rattle.cp_model.specs.Strand.{Protocol}
use Rattle.cp_model.specs.declared.strand.Event.TheVariants.{Send as send, Receive as recv}
use Rattle.cp_model.specs.declared.variable.Declaration.{Declaration}
use Rattle.cp_model.specs.declared.node.Node.{Node}
use Rattle.cp_model.specs.declared.node.OrderPair.{OrderPair}
use Rattle.cp_model.specs.Skeleton.{SkeletonStrand, term_event_at, Skeleton, OrderStep, along_strand_of, along_pair, Before, IsOrderPair, IsSkeleton}
use Rattle.cp_model.specs.Homomorphism.{Embeds}
use Rattle.cp_model.specs.PointOfView.{HasDeclaredVariables}
use Rattle.cp_model.proofs.LawTerms.{term_unchanged}
use Rattle.cp_model.proofs.LawEmbeddings.{same_map, same_homomorphism}
use Rattle.cp_skel.specs.Ordered.{IsOrdered, ordered_by, DiffersInOrder}
use Rattle.cp_skel.proofs.CarriedHomomorphisms.{reordered_stays_skeleton}
use Rattle.cp_general.specs.Steps.{Weakens}

-- Other pairs, each of which is in the order.
module _ (k : Skeleton) (pairs : List OrderPair) (all : (q : OrderPair) → IsIn q pairs → Before k q.earlier q.later) where
  step_too : {x y : Node} → OrderStep (ordered_by k pairs) x y → Before k x y
  step_too (along_strand_of e) = one_step (along_strand_of e)
  step_too (along_pair {p = q} i) = all q i

  pub before_too : {x y : Node} → Before (ordered_by k pairs) x y → Before k x y
  before_too (one_step s) = step_too s
  before_too (more_steps s r) = steps_append (step_too s) (before_too r)

  pub fewer_embeds : Embeds (ordered_by k pairs) k
  fewer_embeds =
      let same = same_homomorphism k in (
        same_map,
        record {
          homomorphism = record {
            instances = same.instances;
            listeners = same.listeners;
            ordered = λ x y b. before_too b;
            non = same.non;
            penetrator_non = same.penetrator_non;
            unique = same.unique;
          };
          injective = λ s t role height terms role' height' terms' at au e. e;
          same_strands = map_same (λ s. s) (λ s. refl) k.from_problem.strands;
          same_values = map_same (apply_to unchanged) term_unchanged k.from_problem.values;
        },
      )

module _ (p : OrderPair) (k h : Skeleton) (drop : Weakens p k h) where
  pub kept_in_order : (q : OrderPair) → IsIn q h.pairs → Before k q.earlier q.later
  kept_in_order q i = ((drop.pairs q).0 i).0.ordered

  pub dropped_before : {x y : Node} → Before h x y → Before k x y
  dropped_before {x} {y} b = before_too k h.pairs kept_in_order (subst (λ (l : Skeleton). Before l x y) drop.same b)

  differs : DiffersInOrder k h
  differs = record { strands = ap (λ (l : Skeleton). l.strands) drop.same; assumptions = ap (λ (l : Skeleton). l.assumptions) drop.same; from_problem = ap (λ (l : Skeleton). l.from_problem) drop.same }

  pair_too : (q : OrderPair) → IsOrderPair k q → IsOrderPair h q
  pair_too q o = record {
    sent = o.sent;
    received = o.received;
    transmission = subst (λ (ss : List SkeletonStrand). term_event_at ss q.earlier ≡ Some (send o.sent)) (sym differs.strands) o.transmission;
    reception = subst (λ (ss : List SkeletonStrand). term_event_at ss q.later ≡ Some (recv o.received)) (sym differs.strands) o.reception;
    between_strands = o.between_strands;
  }

  dropped_ordered : ((n : Node) → Before k n n → ⊥) → IsOrdered h
  dropped_ordered no_cycle = record { order_pairs = λ q i. pair_too q ((drop.pairs q).0 i).0.pair; no_cycle = λ n b. no_cycle n (dropped_before b) }

  pub dropped_is_skeleton : (protocol : Protocol) → IsSkeleton protocol k → IsSkeleton protocol h
  dropped_is_skeleton protocol sk = reordered_stays_skeleton protocol k h sk differs (dropped_ordered sk.no_cycle)

  pub dropped_embeds : Embeds h k
  dropped_embeds = subst (λ (l : Skeleton). Embeds l k) (sym drop.same) (fewer_embeds k h.pairs kept_in_order)

  pub dropped_declared : (variables : List Declaration) → HasDeclaredVariables variables k → HasDeclaredVariables variables h
  dropped_declared variables declared = subst (HasDeclaredVariables variables) (sym drop.same) (record { occurring = declared.occurring; mapped = declared.mapped })
