use Rattle.std.proofs.Common.{sym, subst, ap, ◌∙◌}
use Rattle.std.proofs.lemmas.Result.{IfOk-weaker}
use Rattle.cp_model.specs.Skeleton.{Skeleton}
use Rattle.cp_cohort.specs.Cohort.{GuardedTest}
use Rattle.cp_cohort.specs.Children.{IsThere}
use Rattle.cp_cohort.proofs.FitValues.{grown_in_copy}
use Rattle.cp_cohort.proofs.grown_skeletons.with_events.Goals as goal

pub grown_to-requires : goal.grown_to-requires
grown_to-requires c = record {
  there = subst (λ (k : Skeleton). IsThere k c.args.strand c.args.instance.now) (ap (λ (q : GuardedTest). q.skeleton) (sym c.guarded_test.view_is) ∙ sym c.in_ok-copied.ensures.same) c.requires.there;
  reached = c.requires.reached;
}

pub returns : goal.returns
returns c =
    IfOk-weaker c.grown_to.result _ _
    (λ k grows j is.
    grown_in_copy c.args.guarded_test.now c.in_ok-copied.copied (c.in_ok-copied.ensures.same ∙ ap (λ (q : GuardedTest). q.skeleton) c.guarded_test.view_is) k c.args.strand c.args.instance.now.role c.args.instance.now.height j (grows j is))
    c.grown_to.ensures
