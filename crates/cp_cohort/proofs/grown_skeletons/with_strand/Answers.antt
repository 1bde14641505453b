use Rattle.std.proofs.Common.{ap, ◌∙◌}
use Rattle.std.proofs.lemmas.Result.{IfOk-weaker}
use Rattle.cp_cohort.specs.Cohort.{GuardedTest}
use Rattle.cp_cohort.proofs.FitValues.{added_in_copy}
use Rattle.cp_cohort.proofs.grown_skeletons.with_strand.Goals as goal

pub with_instance-requires : goal.with_instance-requires
with_instance-requires c = record { height = c.requires.height }

pub returns : goal.returns
returns c =
    IfOk-weaker c.with_instance.result _ _
    (λ k adds j is.
    added_in_copy c.args.guarded_test.now c.in_ok-copied.copied (c.in_ok-copied.ensures.same ∙ ap (λ (q : GuardedTest). q.skeleton) c.guarded_test.view_is) k c.args.role.now.value c.args.height j is adds.0 adds.1)
    c.with_instance.ensures
