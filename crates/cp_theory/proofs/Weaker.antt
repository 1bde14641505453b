-- A skeleton that says no more stands where the other does.
use Rattle.std.proofs.Common.{◌≡◌, ℕ, suc, List, [], ◌∷◌, Some, map, sym, ap, subst, subst₂}
use Rattle.cp_lists.specs.Lists.{item_at, here, one_step, more_steps}
use Rattle.cp_model.specs.Message.{atom}
use Rattle.cp_model.specs.Term.{value_of, value_of_atom}
use Rattle.cp_model.specs.Strand.{Protocol}
use Rattle.cp_model.specs.Bundle.{KeepsUnique, Bundle, Precedes}
use Rattle.cp_model.specs.declared.node.Node.{Node}
use Rattle.cp_model.specs.Skeleton.{SkeletonStrand, instance, listener, skeleton_trace_or_none, Skeleton, OrderStep, along_strand_of, along_pair, Before}
use Rattle.cp_model.specs.Standing.{Standing, image_on, image_of, StandsIn, StandsApart}
use Rattle.cp_model.specs.Homomorphism.{FactorsThrough}
use Rattle.cp_lists.proofs.Reached.{steps_append}
use Rattle.cp_theory.specs.Normal.{SaysNoMore, LosesNoStanding}

module _ (l k : Skeleton) (no_more : SaysNoMore l k) where
  there_too : (s : ℕ) (st : SkeletonStrand) → item_at l.strands s ≡ Some st → item_at k.strands s ≡ Some st
  there_too s st at = subst (λ (ss : List SkeletonStrand). item_at ss s ≡ Some st) no_more.strands at

  before_step : {x y : Node} → OrderStep l x y → Before k x y
  before_step (along_strand_of {s = s} {i = i} {e = e} ev) =
      one_step (along_strand_of (subst (λ (ss : List SkeletonStrand). item_at (skeleton_trace_or_none (item_at ss s)) (suc i) ≡ Some e) no_more.strands ev))
  before_step (along_pair {p = p} inp) = no_more.ordered p inp

  before_too : {x y : Node} → Before l x y → Before k x y
  before_too (one_step s) = before_step s
  before_too (more_steps s p) = steps_append (before_step s) (before_too p)

  image_too : (h : Standing) (n : Node) → image_of k h n ≡ image_of l h n
  image_too h n = ap (λ (ss : List SkeletonStrand). image_on (item_at ss n.strand) (h.nodes n.strand) n.index) (sym no_more.strands)

  pub stands_too : (b : Bundle) (h : Standing) → StandsIn k b h → StandsIn l b h
  stands_too b h stands = record {
    instances = λ s role height terms at. stands.instances s role height terms (there_too s (instance role height terms) at);
    listeners = λ s t at. stands.listeners s t (there_too s (listener t) at);
    ordered = λ x y before ne. subst₂ (Precedes b) (image_too h x) (image_too h y) (stands.ordered x y (before_too before) ne);
    non = λ v inv. stands.non v (no_more.non v inv);
    penetrator_non = λ v inv. stands.penetrator_non v (no_more.penetrator_non v inv);
    unique = λ u inu. subst (KeepsUnique b.strands (atom (value_of_atom h.values u.value))) (image_too h u.origin) (stands.unique u (no_more.unique u inu));
  }

  pub apart_too : (h : Standing) → StandsApart k h → StandsApart l h
  apart_too h apart s t role height terms role' height' terms' at au e =
      apart s t role height terms role' height' terms' (there_too s (instance role height terms) at) (there_too t (instance role' height' terms') au) e

  pub factors_too : (h : Standing) → FactorsThrough k h l h
  factors_too h = record { strands = ap (map h.nodes) (sym no_more.problem_strands); values = ap (map (value_of h.values)) (sym no_more.problem_values) }

pub weaker_loses_none : (protocol : Protocol) (l k : Skeleton) → SaysNoMore l k → LosesNoStanding protocol k (l ∷ [])
weaker_loses_none protocol l k no_more b h is stands apart =
    record { skeleton = l; listed = here; stands = stands_too l k no_more b h stands; apart = apart_too l k no_more h apart; factors = factors_too l k no_more h }
