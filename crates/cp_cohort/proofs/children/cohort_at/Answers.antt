use Rattle.std.proofs.Common.{subst}
use Rattle.std.proofs.lemmas.Result.{IfOk-weaker}
use Rattle.std.specs.Prelude.{IfOk}
use Rattle.cp_cohort.specs.Cohort.{GuardedTest, IsCohort, guarded_test_of}
use Rattle.cp_cohort.proofs.children.cohort_at.Goals as goal

pub returns : goal.returns
returns c =
    let protocol = c.args.protocol.now in
    let t = c.args.test.now in
    let q : GuardedTest = guarded_test_of t.skeleton t.node t.critical c.args.patterns.now in
    let exact : IfOk c.children_of.result (λ cs. IsCohort protocol q cs.items) = subst (λ (x : GuardedTest). IfOk c.children_of.result (λ cs. IsCohort protocol x cs.items)) c.guarded-guarded_test.ensures c.children_of.ensures in
    record {
      exact = exact;
      leaves_none_out = IfOk-weaker c.children_of.result _ _ (λ cs exact asked. c.cohorts_cover.ensures.leaves_none_out protocol q _ asked.skeleton c.is_sound.ensures asked.declared c.is_test.ensures c.requires.guards exact) exact;
      through_a_child = IfOk-weaker c.children_of.result _ _ (λ cs exact asked. c.cohorts_cover.ensures.through_the_child protocol q _ asked.skeleton c.is_sound.ensures asked.declared c.is_test.ensures c.requires.guards exact) exact;
      none_only_nowhere = IfOk-weaker c.children_of.result _ _
          (λ cs exact none asked. c.cohorts_cover.ensures.nowhere protocol q asked.skeleton c.is_sound.ensures asked.declared c.is_test.ensures c.requires.guards (subst (IsCohort protocol q) none exact)) exact;
      sound = IfOk-weaker c.children_of.result _ _ (λ cs exact asked. c.children_are_sound.ensures protocol q _ asked.skeleton c.is_sound.ensures asked.declared c.is_test.ensures c.requires.guards exact) exact;
      as_said = IfOk-weaker c.children_of.result _ _ (λ cs exact. c.operations_are_true.ensures protocol q _ exact) exact;
    }
