use Rattle.cp_cohort.proofs.ListedTerms.{has_found, has_passed, has_none}
use Rattle.cp_cohort.proofs.once.has_term.Goals as goal

pub returns-then-same : goal.returns-then-same
returns-then-same c = has_found c.args.terms.now c.loop-other.other-index c.other-item.result c.args.term.now c.loop-other-test.true c.other-item.is c.same.result c.same.ensures c.if-same.true _ c.loop-other.invariant

pub loop-other-preserved : goal.loop-other-preserved
loop-other-preserved c = has_passed c.args.terms.now c.loop-other.other-index c.other-item.result c.args.term.now c.loop-other-test.true c.other-item.is c.same.result c.same.ensures c.if-same.false _ c.loop-other.invariant

pub returns : goal.returns
returns c = has_none c.args.terms.now c.loop-other.other-index c.args.term.now c.loop-other-test.false _ c.loop-other.invariant
