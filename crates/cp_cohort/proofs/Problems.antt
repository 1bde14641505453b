-- What goes on carrying a homomorphism from a problem, and keeping what the problem states.
use Rattle.std.proofs.Common.{List, [], ◌∷◌, ◌++◌, map, sym, subst}
use Rattle.cp_lists.specs.Lists.{IsIn}
use Rattle.cp_lists.proofs.Members.{in_append_left, into_map}
use Rattle.cp_model.specs.Term.{Substitution}
use Rattle.cp_model.specs.declared.node.Node.{Node}
use Rattle.cp_model.specs.declared.node.OrderPair.{OrderPair}
use Rattle.cp_model.specs.Skeleton.{Skeleton}
use Rattle.cp_model.proofs.StatedStays.{stated_stays}
use Rattle.cp_theory.specs.Normal.{skeleton_under}
use Rattle.cp_model.proofs.SingleMaps.{itself, states_itself}
use Rattle.cp_theory.proofs.Mapped.{carried_under, carried_with_pairs}
use Rattle.cp_theory.proofs.StatedSteps.{stated_under, stated_with_pairs}
use Rattle.cp_collapse.specs.SameSkeletons.{SaysTheSame}
use Rattle.cp_collapse.proofs.SameStrands.{as_many}
use Rattle.cp_collapse.proofs.SameFacts.{same_assumptions, same_before}
use Rattle.cp_skel.proofs.CarriedHomomorphisms.{SaysMore, carries_on, keeps_stated}
use Rattle.cp_normal.specs.NormalForms.{IsNormalFormOf}
use Rattle.cp_normal.specs.Exact.{HasForms}
use Rattle.cp_normal.specs.Formed.{Formed}
use Rattle.cp_normal.proofs.FormsOf.{are_normal_forms}
use Rattle.cp_normal.proofs.Homomorphic.{same_carries, form_carries}
use Rattle.cp_normal.proofs.StatedForms.{form_keeps}
use Rattle.cp_theory.specs.Covering.{put_before}
use Rattle.cp_cohort.specs.Releases.{Release, PartialSolution}
use Rattle.cp_cohort.specs.Stages.{Stage, SolvesRelease}
use Rattle.cp_cohort.specs.Sound.{KeepsProblems}
use Rattle.cp_cohort.proofs.EachSettled.{settles_each}

pub keeps_itself : (k : Skeleton) → KeepsProblems k k
keeps_itself k variables problem own carries = (carries, λ stated. stated)

pub keeps_then : (k l m : Skeleton) → KeepsProblems k l → KeepsProblems l m → KeepsProblems k m
keeps_then k l m first second variables problem own carries =
    let a = first variables problem own carries in
    let b = second variables problem own a.0 in
    (b.0, λ stated. b.1 (a.1 stated))

pub keeps_under : (s : Substitution) (k : Skeleton) → KeepsProblems k (skeleton_under s k)
keeps_under s k variables problem own carries = (carried_under variables problem k s (itself own) carries, λ stated. stated_under variables problem k s (states_itself own) carries stated)

pub keeps_alike : (k l : Skeleton) → SaysTheSame k l → KeepsProblems k l
keeps_alike k l same variables problem own carries = (same_carries problem k l same carries, λ stated. stated_stays problem k l same.from_problem (as_many same.strands) (same_assumptions k l same) (λ x y b. same_before k l same b) stated)

pub keeps_form : (k r : Skeleton) → IsNormalFormOf k r → KeepsProblems k r
keeps_form k r form variables problem own carries = (form_carries variables problem (itself own) k r form carries, λ stated. form_keeps variables problem (states_itself own) k r form carries stated)

pub keeps_forms : (k : Skeleton) (rs : List Skeleton) → HasForms k rs → (r : Skeleton) → IsIn r rs → KeepsProblems k r
keeps_forms k rs has r i = keeps_form k r (are_normal_forms has r i)

pub keeps_more : (k l : Skeleton) → SaysMore k l → KeepsProblems k l
keeps_more k l more variables problem own carries = (carries_on problem k l more carries, λ stated. keeps_stated k l more problem stated)

pub keeps_put : (m n : Node) (k : Skeleton) → KeepsProblems k (put_before m n k)
keeps_put m n k variables problem own carries =
    let pair : OrderPair = record { earlier = m; later = n } in
    (carried_with_pairs problem k (k.pairs ++ pair ∷ []) (λ p i. in_append_left (pair ∷ []) i) carries, λ stated. stated_with_pairs problem k (k.pairs ++ pair ∷ []) (λ p i. in_append_left (pair ∷ []) i) stated)

-- ---- releases that are solved

pub settles_keeps : (r : Release) {stage : Stage} {x : PartialSolution} {ys : List PartialSolution} → SolvesRelease r stage x ys → (y : PartialSolution) → IsIn y ys → KeepsProblems x.skeleton y.skeleton
settles_keeps r {x = x} settles y i =
    let k = x.skeleton in
    (settles_each r (λ (z : PartialSolution). KeepsProblems k z.skeleton) (record {
      branch = λ z keeps c choice u m b next. keeps_then k z.skeleton b.skeleton keeps (keeps_then z.skeleton (skeleton_under u z.skeleton) b.skeleton (keeps_under u z.skeleton) (keeps_alike (skeleton_under u z.skeleton) b.skeleton next.same));
      form = λ z keeps forms are f listed a beside. subst (KeepsProblems k) (sym beside.skeleton) (keeps_then k z.skeleton f.skeleton keeps (keeps_forms z.skeleton (map (λ (g : Formed). g.skeleton) forms) are.exact f.skeleton (into_map (λ (g : Formed). g.skeleton) listed)));
    }) settles (keeps_itself k) y i).0
