use Rattle.std.proofs.Common.{refl}
use Rattle.cp_model.proofs.CarriedParts.{not_both}
use Rattle.cp_model.specs.Strand.{variables_of_trace}
use Rattle.cp_pattern.specs.Within.{MayGuard}
use Rattle.cp_pattern.proofs.Each.{each_next, each_last, not_each}
use Rattle.cp_pattern.proofs.pattern.all_may_guard.Goals as goal

pub returns-then-not-may_guard : goal.returns-then-not-may_guard
returns-then-not-may_guard c = (
  λ e. absurd (not_both refl e),
  λ each. absurd (not_each (MayGuard (variables_of_trace c.args.events.now)) c.args.patterns.now c.loop-pattern.pattern-index c.pattern-item.result c.loop-pattern-test.true c.pattern-item.is
      (λ g. not_both c.if-not-may_guard.true (c.may_guard.ensures.1 g)) each),
)

pub loop-pattern-preserved : goal.loop-pattern-preserved
loop-pattern-preserved c =
    each_next (MayGuard (variables_of_trace c.args.events.now)) c.args.patterns.now c.loop-pattern.pattern-index c.pattern-item.result c.loop-pattern-test.true c.pattern-item.is c.loop-pattern.invariant
    (c.may_guard.ensures.0 c.if-not-may_guard.false)

pub returns : goal.returns
returns c = (
  λ _. each_last (MayGuard (variables_of_trace c.args.events.now)) c.args.patterns.now c.loop-pattern.pattern-index c.loop-pattern-test.false c.loop-pattern.invariant,
  λ _. refl,
)
