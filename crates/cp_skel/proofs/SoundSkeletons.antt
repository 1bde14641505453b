-- Skeletons that are sound stay so when they change.
use Rattle.cp_model.specs.declared.variable.Declaration.{Declaration}
use Rattle.std.proofs.Common.{◌≡◌, ℕ, List, [], ◌∷◌, ◌++◌, refl, sym, ap, subst}
use Rattle.std.specs.Prelude.{Some, Result, Ok, Err, OnOk, OnErr}
use Rattle.std.specs.List.{remove}
use Rattle.cp_lists.specs.Lists.{item_at, IsIn, here, there}
use Rattle.cp_model.specs.Term.{Term}
use Rattle.cp_model.specs.Bindings.{Binding}
use Rattle.cp_model.specs.Strand.{Role, Protocol, IsHeight}
use Rattle.cp_model.specs.Skeleton.{SkeletonStrand, instance, listener, UniqueAt, Skeleton, Before, IsOrderPair, Assumptions, FromProblem, IsOrigin, GivesAssumptions, IsSkeleton, skeleton_of}
use Rattle.cp_model.specs.declared.node.Node.{Node}
use Rattle.cp_model.specs.declared.node.OrderPair.{OrderPair}
use Rattle.cp_model.specs.Given.{listed}
use Rattle.cp_model.proofs.DeclaredPrefixes.{skeleton_prefixes}
use Rattle.cp_model.proofs.LawPrefixes.{in_front_of_trace}
use Rattle.cp_model.specs.Extensions.{AddsListener, AddsStrand, CanExtend, Extends, IsClosedPrefix}
use Rattle.cp_order.specs.Closed.{KeepsOrder}
use Rattle.cp_skel.specs.Deletion.{ForgetsAssumptions, KeepsFromProblem, KeepsOrderOfOthers}
use Rattle.cp_skel.specs.Ordered.{IsOrdered, ordered_by, DiffersInOrder}
use Rattle.cp_model.specs.Declares.{HasDeclaredPrefixes, DeclaresItsVariables}
use Rattle.cp_skel.specs.Sound.{IsSound}
use Rattle.cp_skel.proofs.CarriedHomomorphisms.{sound_on, listener_says_more, strand_says_more, extended_says_more, extension_fits, reordered_says_more, before_too, before_wider, ordered_is_skeleton, reordered_stays_skeleton}
use Rattle.cp_skel.proofs.FromProblemWithout.{in_range_without, assumed_without, ordered_without}
use Rattle.cp_skel.proofs.Grown.{Grows, pairs-stay, origin-stays, cycles-stay-out}
use Rattle.cp_skel.proofs.EachOnce.{listed-non, listed-penetrator-non, listed-unique}
use Rattle.cp_skel.proofs.OrderKept.{more_ordered, kept_ordered, kept_before}
use Rattle.cp_skel.proofs.SkeletonWithout.{skeleton_kept}
use Rattle.cp_skel.proofs.StaySkeletons.{listener-stays-skeleton, strand-stays-skeleton, extended-stays-skeleton}

-- The skeleton of the same parts.
pub parts_sound : (k : Skeleton) (variables : List Declaration) (strands : List SkeletonStrand) (order : List OrderPair) (assumptions : Assumptions) (from_problem : FromProblem)
    → variables ≡ k.variables → strands ≡ k.strands → order ≡ k.pairs → assumptions ≡ k.assumptions → from_problem ≡ k.from_problem
    → IsSound k → IsSound (skeleton_of variables strands order assumptions from_problem)
parts_sound k variables strands order assumptions from_problem v s o a f is =
    let same : skeleton_of variables strands order assumptions from_problem ≡ k =
    λ i. record { variables = v i; strands = s i; pairs = o i; assumptions = a i; from_problem = f i } in
    subst (λ x. IsSound x) (sym same) is

-- Its order is one.
pub sound_ordered : (k : Skeleton) → IsSound k → IsOrdered k
sound_ordered k s = record { order_pairs = s.skeleton.order_pairs; no_cycle = s.skeleton.no_cycle }

-- Its roles declare the variables of the prefixes, and of longer ones.
pub sound_prefixes : (k : Skeleton) → IsSound k → HasDeclaredPrefixes k
sound_prefixes k s = skeleton_prefixes s.protocol k s.declared s.skeleton

pub sound_longer : (k : Skeleton) (s : ℕ) (role : Role) (before height : ℕ) (terms : List Binding) → IsSound k → item_at k.strands s ≡ Some (instance role before terms) → IsClosedPrefix role height
sound_longer k s role before height terms is at x i = is.declared role (is.skeleton.of_role s role before terms at) x (in_front_of_trace height role.trace x i)

pub listener_sound : (t : Term) (old new : Skeleton) → IsSound old → AddsListener t old new → IsSound new
listener_sound t old new s a = sound_on old new (listener_says_more t old new a) s.protocol s.declared (listener-stays-skeleton s.protocol t old new s.skeleton a) s

pub with_listener_sound : (k : Skeleton) (t : Term) (strands : List SkeletonStrand) → strands ≡ k.strands ++ listener t ∷ [] → IsSound k → IsSound (record k { strands = strands })
with_listener_sound k t strands behind s = listener_sound t k (record k { strands = strands }) s (ap (λ ss. record k { strands = ss }) behind)

-- The protocol with a role more.
abbrev with_role : Role → Protocol → Protocol
with_role role protocol = record { name = protocol.name; roles = role ∷ protocol.roles }

over_more : (role : Role) (protocol : Protocol) (k : Skeleton) → IsSkeleton protocol k → IsSkeleton (with_role role protocol) k
over_more role protocol k is = record {
  of_role = λ s r height terms at. there (is.of_role s r height terms at);
  heights = is.heights;
  order_pairs = is.order_pairs;
  no_cycle = is.no_cycle;
  origins = is.origins;
  given = is.given;
}

declared_with : (role : Role) (protocol : Protocol) → DeclaresItsVariables role → ((r : Role) → IsIn r protocol.roles → DeclaresItsVariables r) → (r : Role) → IsIn r (role ∷ protocol.roles) → DeclaresItsVariables r
declared_with role protocol own others r here = own
declared_with role protocol own others r (there i) = others r i

pub strand_sound : (role : Role) (height : ℕ) (values : List Term) (old new : Skeleton) → IsHeight role height → DeclaresItsVariables role → IsSound old → AddsStrand role height values old new → IsSound new
strand_sound role height values old new reached own s a =
    sound_on old new (strand_says_more role height values old new a) (with_role role s.protocol) (declared_with role s.protocol own s.declared)
    (strand-stays-skeleton (with_role role s.protocol) role height values old new here reached (over_more role s.protocol old s.skeleton) a) s

pub extended_sound : (s height : ℕ) (values : List Term) (old new : Skeleton) → CanExtend old s height values → IsSound old → Extends s height values old new → IsSound new
extended_sound s height values old new can is e =
    sound_on old new (extended_says_more s height values old new e (extension_fits s height values old new e can)) is.protocol is.declared
    (extended-stays-skeleton is.protocol s height values old new can is.skeleton e) is

-- Without a strand to which no strand of the problem goes.
pub deleted_sound : (d : ℕ) (old new : Skeleton) → IsSound old → (IsIn d old.from_problem.strands → ⊥) → new.strands ≡ remove old.strands d → ForgetsAssumptions d old new.assumptions →
    KeepsFromProblem d old.from_problem new.from_problem → IsOrdered new → KeepsOrderOfOthers d old new → IsSound new
deleted_sound d old new s no_image strands forgets from ordered others = record {
  protocol = s.protocol;
  declared = s.declared;
  skeleton = skeleton_kept s.protocol d old new s.skeleton strands forgets ordered;
  in_range = in_range_without d old new from strands no_image s.in_range;
  assumed = assumed_without d old new from forgets s.assumed;
  ordered = ordered_without d old new from others s.ordered;
}

-- With other pairs, where these are an order in which what was before a node still is.
pub reordered_sound : (k : Skeleton) (pairs : List OrderPair) → IsSound k → IsOrdered (ordered_by k pairs) → ((x y : Node) → Before k x y → Before (ordered_by k pairs) x y) → IsSound (ordered_by k pairs)
reordered_sound k pairs s ordered before =
    sound_on k (ordered_by k pairs) (reordered_says_more k (ordered_by k pairs) (record { strands = refl; assumptions = refl; from_problem = refl }) before) s.protocol s.declared
    (ordered_is_skeleton s.protocol k s.skeleton pairs ordered) s

-- ---- with another table of variables

abbrev with_table : Skeleton → List Declaration → Skeleton
with_table k variables = record k { variables = variables }

same_but_table : (k : Skeleton) (variables : List Declaration) → Grows k (with_table k variables)
same_but_table k variables = record { events = λ n e h. h; instances = λ s role height terms at. (height, terms, at); pairs = refl }

pub tabled_sound : (k : Skeleton) (variables : List Declaration) → IsSound k → IsSound (record k { variables = variables })
tabled_sound k variables s =
    let is = s.skeleton in
    let grows : Grows k (with_table k variables) = same_but_table k variables in
    let differs : DiffersInOrder k (with_table k variables) = record { strands = refl; assumptions = refl; from_problem = refl } in
    let ordered : IsOrdered (with_table k variables) = record {
      order_pairs = pairs-stay k (with_table k variables) grows is.order_pairs;
      no_cycle = cycles-stay-out k (with_table k variables) grows is.order_pairs is.no_cycle;
    } in
    sound_on k (with_table k variables) (reordered_says_more k (with_table k variables) differs (λ x y b. before_too k (with_table k variables) grows b)) s.protocol s.declared
    (reordered_stays_skeleton s.protocol k (with_table k variables) is differs ordered) s

-- ---- with its assumptions in the order of the report

abbrev with_listed : Skeleton → Skeleton
with_listed k = record k { assumptions = listed k }

same_strands : (k : Skeleton) → Grows k (with_listed k)
same_strands k = record { events = λ n e h. h; instances = λ s role height terms at. (height, terms, at); pairs = refl }

module _ (k : Skeleton) (is : IsOrdered k) where
  listed_pair : (p : OrderPair) → IsIn p k.pairs → IsOrderPair (with_listed k) p
  listed_pair = pairs-stay k (with_listed k) (same_strands k) is.order_pairs

  listed_origin : (u : UniqueAt) → IsOrigin k u → IsOrigin (with_listed k) u
  listed_origin u = origin-stays k (with_listed k) (same_strands k) is.order_pairs u

  listed_gives : (s : ℕ) (role : Role) (height : ℕ) (terms : List Binding) → GivesAssumptions k s role height terms → GivesAssumptions (with_listed k) s role height terms
  listed_gives s role height terms g = record {
    non = λ v i a. ((listed-non k).same _).1 (g.non v i a);
    penetrator_non = λ v i a. ((listed-penetrator-non k).same _).1 (g.penetrator_non v i a);
    unique = λ v i j a. ((listed-unique k).same _).1 (g.unique v i j a);
  }

pub listed_sound : (k : Skeleton) → IsSound k → IsSound (record k { assumptions = listed k })
listed_sound k s =
    let is = s.skeleton in
    let ordered = sound_ordered k s in
    record {
      protocol = s.protocol;
      declared = s.declared;
      skeleton = record {
        of_role = is.of_role;
        heights = is.heights;
        order_pairs = listed_pair k ordered;
        no_cycle = cycles-stay-out k (with_listed k) (same_strands k) is.order_pairs is.no_cycle;
        origins = λ u i. listed_origin k ordered u (is.origins u (((listed-unique k).same u).0 i));
        given = λ n role height terms at. listed_gives k ordered n role height terms (is.given n role height terms at);
      };
      in_range = s.in_range;
      assumed = record {
        non = λ v i. ((listed-non k).same _).1 (s.assumed.non v i);
        penetrator_non = λ v i. ((listed-penetrator-non k).same _).1 (s.assumed.penetrator_non v i);
        unique = λ u i. ((listed-unique k).same _).1 (s.assumed.unique u i);
      };
      ordered = λ p i. before_too k (with_listed k) (same_strands k) (s.ordered p i);
    }

-- ---- with an order that was closed, or where that failed

pub closed_sound : {E : Type 0} (k : Skeleton) (new : List OrderPair) (result : Result (Unit {0}) E) → OnOk result (KeepsOrder k.pairs new) → OnErr result (new ≡ k.pairs) → IsSound k → IsSound (ordered_by k new)
closed_sound k new (Ok u) keeps same s = reordered_sound k new s (kept_ordered k (sound_ordered k s) new keeps) (λ x y. (kept_before k (sound_ordered k s) new keeps x y).1)
closed_sound k new (Err e) keeps same s = subst (λ ps. IsSound (ordered_by k ps)) (sym same) s

-- with a pair more, or pairs that order as that does
pub added_sound : (k : Skeleton) (p : OrderPair) (new : List OrderPair) → IsOrderPair k p → (Before k p.later p.earlier → ⊥) → KeepsOrder (p ∷ k.pairs) new → IsSound k → IsSound (ordered_by k new)
added_sound k p new pair free keeps s =
    let more : IsOrdered (ordered_by k (p ∷ k.pairs)) = more_ordered k p (sound_ordered k s) pair free in
    reordered_sound k new s (kept_ordered (ordered_by k (p ∷ k.pairs)) more new keeps)
    (λ x y b. (kept_before (ordered_by k (p ∷ k.pairs)) more new keeps x y).1 (before_wider k (p ∷ k.pairs) (λ q i. there i) b))
