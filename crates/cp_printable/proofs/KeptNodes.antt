-- The nodes of a skeleton are nodes of it under a substitution, of its normal forms, and of the results of a release.
use Rattle.std.proofs.Common.{List, map, sym, ◌∙◌, subst}
use Rattle.cp_lists.specs.Lists.{IsIn}
use Rattle.cp_lists.proofs.Members.{into_map}
use Rattle.cp_model.specs.Term.{Substitution, apply_to}
use Rattle.cp_model.specs.Strand.{event_map}
use Rattle.cp_model.specs.declared.node.Node.{Node}
use Rattle.cp_model.specs.Skeleton.{IsNodeOf, Skeleton}
use Rattle.cp_theory.specs.Normal.{skeleton_under}
use Rattle.cp_theory.proofs.Skeletons.{event_under}
use Rattle.cp_collapse.specs.SameSkeletons.{SaysTheSame}
use Rattle.cp_collapse.proofs.SameFacts.{same_event}
use Rattle.cp_normal.specs.NormalForms.{NarrowsTo, none, one, IsNormalFormOf}
use Rattle.cp_normal.specs.Exact.{HasForms}
use Rattle.cp_normal.specs.Formed.{Formed}
use Rattle.cp_normal.proofs.FormsOf.{are_normal_forms}
use Rattle.cp_cohort.specs.declared.release.PartialSolution.{PartialSolution}
use Rattle.cp_cohort.specs.Releases.{Release}
use Rattle.cp_cohort.specs.Stages.{Stage, SolvesRelease}
use Rattle.cp_cohort.proofs.EachSettled.{settles_each}

-- Each node of the first skeleton is one of the second.
abbrev pub KeepsNodes : Skeleton → Skeleton → Type 0
KeepsNodes k l = (n : Node) → IsNodeOf k.strands n → IsNodeOf l.strands n

pub nodes_then : (k l m : Skeleton) → KeepsNodes k l → KeepsNodes l m → KeepsNodes k m
nodes_then k l m first second n is = second n (first n is)

nodes_under : (s : Substitution) (k : Skeleton) → KeepsNodes k (skeleton_under s k)
nodes_under s k n is = (event_map (apply_to s) is.0, event_under s k n is.0 is.1)

nodes_alike : (k l : Skeleton) → SaysTheSame k l → KeepsNodes k l
nodes_alike k l same n is = (is.0, sym (same_event k l same n) ∙ is.1)

-- What says the same as a skeleton under a substitution.
pub nodes_like_under : (s : Substitution) (k l : Skeleton) → SaysTheSame (skeleton_under s k) l → KeepsNodes k l
nodes_like_under s k l same = nodes_then k (skeleton_under s k) l (nodes_under s k) (nodes_alike (skeleton_under s k) l same)

-- ---- normal forms

nodes_narrow : {k l : Skeleton} → NarrowsTo k l → KeepsNodes k l
nodes_narrow none n is = is
nodes_narrow (one {k = k} {l = l} step rest) n is = nodes_narrow rest n (nodes_like_under step.unifier k l step.same n is)

nodes_form : (k r : Skeleton) → IsNormalFormOf k r → KeepsNodes k r
nodes_form k r form n is = subst (λ (l : Skeleton). IsNodeOf l.strands n) (sym form.same) (nodes_narrow form.by_steps n is)

pub nodes_forms : (k : Skeleton) (rs : List Skeleton) → HasForms k rs → (r : Skeleton) → IsIn r rs → KeepsNodes k r
nodes_forms k rs has r i = nodes_form k r (are_normal_forms has r i)

-- ---- releases that are solved

pub nodes_settle : (r : Release) {stage : Stage} {x : PartialSolution} {ys : List PartialSolution} → SolvesRelease r stage x ys → (y : PartialSolution) → IsIn y ys → KeepsNodes x.skeleton y.skeleton
nodes_settle r {x = x} settles y i =
    let k = x.skeleton in
    (settles_each r (λ (z : PartialSolution). KeepsNodes k z.skeleton) (record {
      branch = λ z keeps c choice u m y next. nodes_then k z.skeleton y.skeleton keeps (nodes_like_under u z.skeleton y.skeleton next.same);
      form = λ z keeps forms are f listed a beside.
          subst (KeepsNodes k) (sym beside.skeleton) (nodes_then k z.skeleton f.skeleton keeps (nodes_forms z.skeleton (map (λ (g : Formed). g.skeleton) forms) are.exact f.skeleton (into_map (λ (g : Formed). g.skeleton) listed)));
    }) settles (λ n is. is) y i).0
