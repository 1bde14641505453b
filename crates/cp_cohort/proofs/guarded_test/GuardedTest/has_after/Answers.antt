use Rattle.std.proofs.Common.{sym, subst, arith}
use Rattle.cp_model.specs.declared.strand.Event.TheVariants.{Receive as recv}
use Rattle.cp_model.specs.Skeleton.{Before, IsNodeOf}
use Rattle.cp_cohort.specs.Cohort.{GuardedTest}
use Rattle.cp_cohort.proofs.guarded_test.GuardedTest.has_after.Goals as goal

pub before-closes-requires : goal.before-closes-requires
before-closes-requires c =
    let test = c.is_test.ensures in
    record {
      first = subst (λ (q : GuardedTest). IsNodeOf q.skeleton.strands q.node) (sym c.self.view_is) (recv test.message, test.reception);
      second = subst (λ (q : GuardedTest). IsNodeOf q.skeleton.strands c.args.node) (sym c.self.view_is) (c.requires (omega (arith, c.if-node-height.false)));
    }

pub returns : goal.returns
returns c = λ t. (omega (arith, c.if-node-height.false), subst (λ (q : GuardedTest). Before q.skeleton q.node c.args.node) c.self.view_is (c.before-closes.ensures.exact.0 t))
