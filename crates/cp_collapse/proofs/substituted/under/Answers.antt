use Rattle.std.proofs.Common.{◌∙◌, List, map, sym, ap, subst}
use Rattle.cp_theory.specs.Normal.{assumptions_under, from_problem_under, skeleton_under}
use Rattle.cp_unify.specs.Bindings.{as_substitution}
use Rattle.cp_model.specs.Skeleton.{SkeletonStrand, Skeleton}
use Rattle.cp_skel.proofs.SoundSkeletons.{sound_prefixes}
use Rattle.cp_collapse.specs.SameSkeletons.{SaysTheSame}
use Rattle.cp_collapse.specs.Values.{declared_under}
use Rattle.cp_collapse.proofs.SoundSkeletons.{under_sound}
use Rattle.cp_collapse.proofs.Values.{made_under}
use Rattle.cp_collapse.proofs.substituted.under.Goals as goal

pub new-requires : goal.new-requires
new-requires c =
    let s = as_substitution c.args.s.now in
    let k = c.args.k.now in
    under_sound s k _ c.is_sound.ensures
    (made_under s k c.in_ok-variables.variables c.in_ok-strands.strands.items c.in_ok-order.order c.in_ok-assumptions.assumptions c.in_ok-from_problem.from_problem (sound_prefixes k c.is_sound.ensures)
    (c.in_ok-strands.ensures ∙ ap (λ (ss : List SkeletonStrand). map (declared_under s) ss) c.strands.ensures)
    (c.in_ok-order.ensures ∙ c.order.ensures)
    (c.in_ok-assumptions.ensures ∙ ap (assumptions_under s) c.assumptions.ensures)
    (c.in_ok-from_problem.ensures ∙ ap (from_problem_under s) c.from_problem.ensures))

pub returns-clause-same : goal.returns-clause-same
returns-clause-same c =
    subst (λ (l : Skeleton). SaysTheSame (skeleton_under (as_substitution c.args.s.now) c.args.k.now) l) (sym c.new.ensures)
    (made_under (as_substitution c.args.s.now) c.args.k.now c.in_ok-variables.variables c.in_ok-strands.strands.items c.in_ok-order.order c.in_ok-assumptions.assumptions c.in_ok-from_problem.from_problem (sound_prefixes c.args.k.now c.is_sound.ensures)
    (c.in_ok-strands.ensures ∙ ap (λ (ss : List SkeletonStrand). map (declared_under (as_substitution c.args.s.now)) ss) c.strands.ensures)
    (c.in_ok-order.ensures ∙ c.order.ensures)
    (c.in_ok-assumptions.ensures ∙ ap (assumptions_under (as_substitution c.args.s.now)) c.assumptions.ensures)
    (c.in_ok-from_problem.ensures ∙ ap (from_problem_under (as_substitution c.args.s.now)) c.from_problem.ensures))

pub returns-clause-variables : goal.returns-clause-variables
returns-clause-variables c = ap (λ (l : Skeleton). l.variables) c.new.ensures ∙ (c.in_ok-variables.ensures ∙ c.variables.ensures)
