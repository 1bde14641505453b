use Rattle.std.proofs.Common.{refl, subst, ◌↔◌, IsTrue}
use Rattle.std.proofs.lemmas.Result.{IfOk-weaker}
use Rattle.cp_model.specs.Identity.{unchanged}
use Rattle.cp_theory.specs.Inside.{IsInside}
use Rattle.cp_cohort.specs.Cohort.{GuardedTest}
use Rattle.cp_cohort.proofs.ContractedChildren.{at_start}
use Rattle.cp_cohort.proofs.guarded_test.GuardedTest.is_guarded.Goals as goal

pub returns : goal.returns
returns c =
    IfOk-weaker c.is_inside.result _ _
    (λ answer inside.
    subst (λ (q : GuardedTest). IsTrue answer ↔ IsInside q.patterns unchanged c.args.message.now c.args.path.now) c.self.view_is
    (at_start _ _ _ _ _ _ _ inside c.new-nothing.ensures refl c.as_slice.ensures))
    c.is_inside.ensures
