use Rattle.std.proofs.Common.{arith}
use Rattle.cp_cohort.proofs.UntilGiven.{none_next, none_to_end, given_at}
use Rattle.cp_cohort.proofs.widening.first_widening.Goals as goal

pub returns-in-Some : goal.returns-in-Some
returns-in-Some g c none =
    given_at (g.S.GivesPatterns.gives c.args.source.now) c.args.children.now c.loop-number.number c.index-children-number.result c.in-Some.pattern c.loop-number-test.true c.index-children-number.is
    (rw c.in-Some.is at c.in_ok-pattern.ensures.some) (c.loop-number.invariant none)

pub loop-number-preserved : goal.loop-number-preserved
loop-number-preserved g c none =
    none_next (g.S.GivesPatterns.gives c.args.source.now) c.args.children.now c.loop-number.number c.index-children-number.result c.loop-number-test.true c.index-children-number.is
    (rw c.in_default.is at c.in_ok-pattern.ensures.none) (c.loop-number.invariant none)

pub returns : goal.returns
returns g c none = none_to_end (g.S.GivesPatterns.gives c.args.source.now) c.args.children.now c.loop-number.number (omega (arith, c.loop-number-test.false)) (c.loop-number.invariant none)
