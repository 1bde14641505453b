-- A sound skeleton that does not contradict itself is sound with its normal pairs.
use Rattle.std.proofs.Common.{inl, inr, List}
use Rattle.cp_model.specs.Skeleton.{Skeleton}
use Rattle.cp_model.specs.declared.node.OrderPair.{OrderPair}
use Rattle.cp_theory.specs.Normal.{with_pairs}
use Rattle.cp_theory.proofs.Mapped.{before_more}
use Rattle.cp_theory.proofs.Skeletons.{with_pairs_is_skeleton}
use Rattle.cp_skel.specs.Sound.{IsSound}
use Rattle.cp_normal.specs.Findings.{AreNormalPairs, IsContradictory}
use Rattle.cp_normal.proofs.FormSkeletons.{between}
use Rattle.cp_normal.proofs.Losses.{only_origin_pairs}

pub form_sound : (k : Skeleton) (pairs : List OrderPair) → IsSound k → AreNormalPairs k pairs × (IsContradictory k → ⊥) → IsSound (with_pairs k pairs)
form_sound k pairs is n = record {
  protocol = is.protocol;
  declared = is.declared;
  skeleton = with_pairs_is_skeleton is.protocol k pairs is.skeleton (only_origin_pairs k pairs n.0) (λ p i. between is.protocol k is.skeleton p ((n.0 p).0 i))
      (λ x cycle. n.1 (inr (inr (inr (record { pairs = pairs; normal = n.0; node = x; cycle = cycle })))));
  in_range = is.in_range;
  assumed = record { non = is.assumed.non; penetrator_non = is.assumed.penetrator_non; unique = is.assumed.unique };
  ordered = λ p i. before_more k k pairs (λ q j. (n.0 q).1 (inl j)) (is.ordered p i);
}
