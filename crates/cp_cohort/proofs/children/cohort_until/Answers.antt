use Rattle.std.proofs.Common.{subst}
use Rattle.std.proofs.lemmas.Result.{IfOk-weaker}
use Rattle.std.specs.Prelude.{IfOk}
use Rattle.cp_cohort.specs.Cohort.{GuardedTest, guarded_test_of}
use Rattle.cp_cohort.specs.Widening.{IsCohortUntil}
use Rattle.cp_cohort.proofs.SoundChildren.{sound_until}
use Rattle.cp_cohort.proofs.children.cohort_until.Goals as goal

pub returns : goal.returns
returns g c =
    let source = g.S.GivesPatterns.gives c.args.source.now in
    let protocol = c.args.protocol.now in
    let t = c.args.test.now in
    let q : GuardedTest = guarded_test_of t.skeleton t.node t.critical c.args.patterns.now in
    let exact : IfOk c.children_until.result (λ r. IsCohortUntil source protocol q r.children.items r.widening) =
    subst (λ (x : GuardedTest). IfOk c.children_until.result (λ r. IsCohortUntil source protocol x r.children.items r.widening)) c.guarded-guarded_test.ensures c.children_until.ensures in
    record {
      exact = exact;
      sound = IfOk-weaker c.children_until.result _ _
          (λ r is asked. sound_until protocol q asked.skeleton c.is_sound.ensures asked.declared c.is_test.ensures c.requires.guards source r.children.items r.widening is) exact;
    }
