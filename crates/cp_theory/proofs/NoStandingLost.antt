-- The steps of normalising lose no standing.
use Rattle.std.proofs.Common.{◌≡◌, ◌≢◌, ℕ, ◌<◌, List, [], ◌∷◌, refl}
use Rattle.cp_lists.specs.Lists.{IsIn, here}
use Rattle.cp_model.specs.Term.{AtomTerm}
use Rattle.cp_model.specs.Strand.{Protocol}
use Rattle.cp_model.specs.Bundle.{node_at, Bundle, IsBundle}
use Rattle.cp_model.specs.declared.node.Node.{Node}
use Rattle.cp_model.specs.Skeleton.{UniqueAt, Skeleton, Before, IsSkeleton}
use Rattle.cp_model.specs.declared.node.OrderPair.{OrderPair}
use Rattle.cp_model.specs.Standing.{Standing, StandsIn, StandsApart}
use Rattle.cp_model.specs.Homomorphism.{FactorsThrough, Covers}
use Rattle.cp_model.specs.Realisation.{OriginatesAtTerm}
use Rattle.cp_theory.specs.Normal.{IsCarriedAt, with_pairs, AddOnlyOriginPairs, skeleton_under, StandsAmong, LosesNoStanding, AreBranches}
use Rattle.cp_theory.proofs.Origins.{carried_non_originating, two_origins, lost_origin, unique_value_originates}
use Rattle.cp_theory.proofs.Pairs.{stands_with_pairs, no_cycle_with_pairs}
use Rattle.cp_theory.proofs.HeardBefore.{heard_before}
use Rattle.cp_theory.proofs.Under.{stands_under, apart_under, factors_under, factors_then, covers_then}

pub itself_alone : (protocol : Protocol) (k : Skeleton) → LosesNoStanding protocol k (k ∷ [])
itself_alone protocol k b h is stands apart = record { skeleton = k; listed = here; stands = stands; apart = apart; factors = record { strands = refl; values = refl } }

pub among_more : (protocol : Protocol) (k : Skeleton) (ks ls : List Skeleton) → ((l : Skeleton) → IsIn l ks → IsIn l ls) → LosesNoStanding protocol k ks → LosesNoStanding protocol k ls
among_more protocol k ks ls more none b h is stands apart =
    let r : StandsAmong ks k b h = none b h is stands apart in
    record { skeleton = r.skeleton; listed = more r.skeleton r.listed; stands = r.stands; apart = r.apart; factors = r.factors }

pub through_each : (protocol : Protocol) (k : Skeleton) (ks ls : List Skeleton) → LosesNoStanding protocol k ks → ((l : Skeleton) → IsIn l ks → LosesNoStanding protocol l ls) → LosesNoStanding protocol k ls
through_each protocol k ks ls first each b h is stands apart =
    let r : StandsAmong ks k b h = first b h is stands apart in
    let t : StandsAmong ls r.skeleton b h = each r.skeleton r.listed b h is r.stands r.apart in
    record { skeleton = t.skeleton; listed = t.listed; stands = t.stands; apart = t.apart; factors = factors_then k r.skeleton t.skeleton h h h r.factors t.factors }

pub none_carried : (protocol : Protocol) (k : Skeleton) (v : AtomTerm) (n : Node) → IsIn v k.assumptions.non_originating → IsCarriedAt k v n → LosesNoStanding protocol k []
none_carried protocol k v n inv c b h is stands apart = absurd (carried_non_originating protocol k b h v n is inv c stands)

pub none_with_two_origins : (protocol : Protocol) (k : Skeleton) (u w : UniqueAt) → IsSkeleton protocol k → IsIn u k.assumptions.uniquely_originating → IsIn w k.assumptions.uniquely_originating → u.value ≡ w.value → u.origin ≢ w.origin →
    LosesNoStanding protocol k []
none_with_two_origins protocol k u w sk inu inw same ne b h is stands apart = absurd (two_origins protocol k b h u w sk inu inw same ne stands apart)

pub none_with_lost_origin : (protocol : Protocol) (k : Skeleton) (u : UniqueAt) (j : ℕ) → IsSkeleton protocol k → IsIn u k.assumptions.uniquely_originating → j < u.origin.index → IsCarriedAt k u.value (node_at u.origin.strand j) →
    LosesNoStanding protocol k []
none_with_lost_origin protocol k u j sk inu l c b h is stands apart = absurd (lost_origin protocol k b h u j sk inu l c stands)

pub none_not_originating : (protocol : Protocol) (k : Skeleton) (u : UniqueAt) → IsSkeleton protocol k → IsIn u k.assumptions.uniquely_originating → (OriginatesAtTerm k u.value u.origin → ⊥) → LosesNoStanding protocol k []
none_not_originating protocol k u sk inu never b h is stands apart = absurd (never (unique_value_originates protocol k b h u sk inu stands))

pub branches_lose_none : (protocol : Protocol) (k : Skeleton) (u : UniqueAt) (x : Node) (ks : List Skeleton) → IsSkeleton protocol k → IsIn u k.assumptions.uniquely_originating → OriginatesAtTerm k u.value x → x ≢ u.origin → AreBranches k u.value x ks →
    LosesNoStanding protocol k ks
branches_lose_none protocol k u x ks sk inu or ne branches b h is stands apart =
    let r = branches h.values (heard_before protocol k b h u x sk inu or ne stands apart) in
    record { skeleton = skeleton_under r.0 k; listed = r.2; stands = stands_under r.0 k b h r.1 stands; apart = apart_under r.0 k h apart; factors = factors_under r.0 k h r.1 }

pub pairs_lose_none : (protocol : Protocol) (k : Skeleton) (pairs : List OrderPair) → IsSkeleton protocol k → AddOnlyOriginPairs k pairs → LosesNoStanding protocol k (with_pairs k pairs ∷ [])
pairs_lose_none protocol k pairs sk add b h is stands apart =
    record { skeleton = with_pairs k pairs; listed = here; stands = stands_with_pairs protocol k b h pairs sk is add stands; apart = apart; factors = record { strands = refl; values = refl } }

pub none_with_cycle : (protocol : Protocol) (k : Skeleton) (pairs : List OrderPair) (n : Node) → IsSkeleton protocol k → AddOnlyOriginPairs k pairs → Before (with_pairs k pairs) n n → LosesNoStanding protocol k []
none_with_cycle protocol k pairs n sk add before b h is stands apart = absurd (no_cycle_with_pairs protocol k b h pairs sk is add stands n before)

-- Where the standing of a problem factors through that of k, it factors through that of one of the list.
pub covered : (protocol : Protocol) (problem k : Skeleton) (ks : List Skeleton) (b : Bundle) (f h : Standing) → LosesNoStanding protocol k ks → IsBundle protocol b → StandsIn k b h → StandsApart k h → FactorsThrough problem f k h → Covers ks problem b f
covered protocol problem k ks b f h none is stands apart factors =
    let r : StandsAmong ks k b h = none b h is stands apart in
    covers_then problem k r.skeleton ks b f h h r.listed r.stands r.apart factors r.factors
