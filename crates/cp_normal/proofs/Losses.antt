-- A skeleton that contradicts itself stands apart nowhere, and the pairs that are added lose no standing.
use Rattle.std.proofs.Common.{List, [], ◌⊎◌, inl, inr}
use Rattle.cp_lists.specs.Lists.{IsIn}
use Rattle.cp_model.specs.Strand.{Protocol}
use Rattle.cp_model.specs.Skeleton.{Skeleton, IsSkeleton}
use Rattle.cp_model.specs.declared.node.OrderPair.{OrderPair}
use Rattle.cp_theory.specs.Normal.{IsOriginPair, AddOnlyOriginPairs, LosesNoStanding}
use Rattle.cp_theory.proofs.NoStandingLost.{none_carried, none_with_two_origins, none_not_originating, none_with_cycle}
use Rattle.cp_normal.specs.Findings.{IsAddedPair, AreNormalPairs, IsContradictory}

origin_pair : (k : Skeleton) (p : OrderPair) → IsIn p k.pairs ⊎ IsAddedPair k p → IsIn p k.pairs ⊎ IsOriginPair k p
origin_pair k p (inl own) = inl own
origin_pair k p (inr added) = inr added.0

pub only_origin_pairs : (k : Skeleton) (pairs : List OrderPair) → AreNormalPairs k pairs → AddOnlyOriginPairs k pairs
only_origin_pairs k pairs normal p inp = origin_pair k p ((normal p).0 inp)

pub none_of_contradictory : (protocol : Protocol) (k : Skeleton) → IsSkeleton protocol k → IsContradictory k → LosesNoStanding protocol k []
none_of_contradictory protocol k sk (inl c) = none_carried protocol k c.value c.node c.listed c.carried
none_of_contradictory protocol k sk (inr (inl t)) = none_with_two_origins protocol k t.first t.second sk t.first_listed t.second_listed t.same_value t.elsewhere
none_of_contradictory protocol k sk (inr (inr (inl l))) = none_not_originating protocol k l.entry sk l.listed l.lost
none_of_contradictory protocol k sk (inr (inr (inr c))) = none_with_cycle protocol k c.pairs c.node sk (only_origin_pairs k c.pairs c.normal) c.cycle
