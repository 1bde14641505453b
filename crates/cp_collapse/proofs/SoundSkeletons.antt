-- Skeletons that are made of sound ones are sound: under substitutions, and with merged strands.
use Rattle.std.proofs.Common.{ℕ, ◌<◌, List, refl, sym, subst, lt_of_lt_of_le}
use Rattle.std.proofs.lemmas.List.{length-map}
use Rattle.cp_lists.specs.Lists.{IsIn}
use Rattle.cp_model.specs.declared.node.Node.{Node}
use Rattle.cp_model.specs.Term.{Substitution}
use Rattle.cp_model.specs.Bindings.{Binding}
use Rattle.cp_model.specs.Strand.{Role, Protocol}
use Rattle.cp_model.specs.Skeleton.{UniqueAt, FromProblem, Skeleton, Before, IsOrderPair, IsOrigin, GivesAssumptions, IsSkeleton}
use Rattle.cp_model.specs.declared.node.OrderPair.{OrderPair}
use Rattle.cp_model.specs.Stated.{HasOwnAssumptions}
use Rattle.cp_model.proofs.StatedStays.{own_stays}
use Rattle.cp_theory.specs.Normal.{strand_under, skeleton_under}
use Rattle.cp_theory.proofs.Mapped.{before_under}
use Rattle.cp_theory.proofs.Skeletons.{skeleton_under_is_skeleton}
use Rattle.cp_theory.proofs.StatedSteps.{assumed_under}
use Rattle.cp_skel.specs.Sound.{IsSound}
use Rattle.cp_skel.proofs.CarriedHomomorphisms.{before_too}
use Rattle.cp_skel.proofs.EachOnce.{listed-non, listed-penetrator-non, listed-unique}
use Rattle.cp_collapse.specs.SameSkeletons.{SaysTheSame}
use Rattle.cp_collapse.specs.Collapses.{IsCollapsed, HasNoCycle}
use Rattle.cp_collapse.specs.MergedParts.{with_listed}
use Rattle.cp_collapse.proofs.CollapsedFromProblem.{in_range_in, assumed_in, ordered_in}
use Rattle.cp_collapse.proofs.MergedSkeletons.{merged_is_skeleton}
use Rattle.cp_collapse.proofs.SameFacts.{same_assumptions, same_before}
use Rattle.cp_collapse.proofs.SameSkeletons.{same_is_skeleton}
use Rattle.cp_collapse.proofs.SameStrands.{as_many}

-- ---- under a substitution

-- a skeleton that says the same
same_sound : (k l : Skeleton) → SaysTheSame k l → IsSound k → IsSound l
same_sound k l same is = record {
  protocol = is.protocol;
  declared = is.declared;
  skeleton = same_is_skeleton k l same is.protocol is.skeleton;
  in_range = λ s i. lt_of_lt_of_le (is.in_range s (subst (λ (f : FromProblem). IsIn s f.strands) (sym same.from_problem) i)) (as_many same.strands);
  assumed = own_stays k l same.from_problem (same_assumptions k l same) is.assumed;
  ordered = λ p i. same_before k l same (is.ordered p (subst (λ (f : FromProblem). IsIn p f.pairs) (sym same.from_problem) i));
}

pub under_sound : (s : Substitution) (k l : Skeleton) → IsSound k → SaysTheSame (skeleton_under s k) l → IsSound l
under_sound s k l is same =
    same_sound (skeleton_under s k) l same
    (record {
      protocol = is.protocol;
      declared = is.declared;
      skeleton = skeleton_under_is_skeleton is.protocol s k is.skeleton;
      in_range = λ n i. subst (λ (m : ℕ). n < m) (sym (length-map k.strands (strand_under s))) (is.in_range n i);
      assumed = assumed_under s k is.assumed;
      ordered = λ p i. before_under s k (is.ordered p i);
    })

-- ---- with merged strands

module _ (m : Skeleton) where
  -- the order is the same
  unlisted_before : {x y : Node} → Before m x y → Before (with_listed m) x y
  unlisted_before = before_too m (with_listed m) (record { events = λ n e h. h; instances = λ s role height terms at. (height, terms, at); pairs = refl })

  listed_before : {x y : Node} → Before (with_listed m) x y → Before m x y
  listed_before = before_too (with_listed m) m (record { events = λ n e h. h; instances = λ s role height terms at. (height, terms, at); pairs = refl })

  unlisted_assumed : HasOwnAssumptions (with_listed m) → HasOwnAssumptions m
  unlisted_assumed own = record {
    non = λ v i. ((listed-non m).same _).0 (own.non v i);
    penetrator_non = λ v i. ((listed-penetrator-non m).same _).0 (own.penetrator_non v i);
    unique = λ u i. ((listed-unique m).same _).0 (own.unique u i);
  }

  unlisted_pair : (p : OrderPair) → IsOrderPair (with_listed m) p → IsOrderPair m p
  unlisted_pair p o = record { sent = o.sent; received = o.received; transmission = o.transmission; reception = o.reception; between_strands = o.between_strands }

  unlisted_origin : (u : UniqueAt) → IsOrigin (with_listed m) u → IsOrigin m u
  unlisted_origin u o = record { role = o.role; height = o.height; terms = o.terms; on_instance = o.on_instance; sent = o.sent; transmission = o.transmission; carried = o.carried }

  unlisted_gives : (s : ℕ) (role : Role) (height : ℕ) (terms : List Binding) → GivesAssumptions (with_listed m) s role height terms → GivesAssumptions m s role height terms
  unlisted_gives s role height terms g = record {
    non = λ v i applies. ((listed-non m).same _).0 (g.non v i applies);
    penetrator_non = λ v i applies. ((listed-penetrator-non m).same _).0 (g.penetrator_non v i applies);
    unique = λ v n i applies. ((listed-unique m).same _).0 (g.unique v n i applies);
  }

  -- A skeleton whose assumptions in the order of a report make it a skeleton over a protocol is one.
  unlisted_is_skeleton : (protocol : Protocol) → IsSkeleton protocol (with_listed m) → IsSkeleton protocol m
  unlisted_is_skeleton protocol sk = record {
    of_role = sk.of_role;
    heights = sk.heights;
    order_pairs = λ p i. unlisted_pair p (sk.order_pairs p i);
    no_cycle = λ n before. sk.no_cycle n (unlisted_before before);
    origins = λ u i. unlisted_origin u (sk.origins u (((listed-unique m).same u).1 i));
    given = λ s role height terms at. unlisted_gives s role height terms (sk.given s role height terms at);
  }

pub merged_sound : (k m : Skeleton) (p : List ℕ) → IsSound k → IsCollapsed k p (with_listed m) → HasNoCycle (with_listed m) → IsSound m
merged_sound k m p is c no_cycle = record {
  protocol = is.protocol;
  declared = is.declared;
  skeleton = unlisted_is_skeleton m is.protocol (merged_is_skeleton k (with_listed m) p c is.protocol is.skeleton no_cycle);
  in_range = in_range_in k (with_listed m) p c is.in_range;
  assumed = unlisted_assumed m (assumed_in k (with_listed m) p c is.assumed);
  ordered = λ q i. listed_before m (ordered_in k (with_listed m) p c is.skeleton.order_pairs is.ordered q i);
}
