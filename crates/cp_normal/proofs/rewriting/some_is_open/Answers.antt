use Rattle.cp_normal.proofs.RewritingRounds.{open_found, open_passed, none_open}
use Rattle.cp_normal.proofs.rewriting.some_is_open.Goals as goal

pub returns-then-is_open : goal.returns-then-is_open
returns-then-is_open g c = open_found _ _ _ _ c.loop-candidate-test.true c.candidate-item.is c.is_open.ensures c.if-is_open.true

pub loop-candidate-preserved : goal.loop-candidate-preserved
loop-candidate-preserved g c = open_passed _ _ _ _ c.loop-candidate-test.true c.candidate-item.is c.is_open.ensures c.if-is_open.false c.loop-candidate.invariant

pub returns : goal.returns
returns g c = none_open _ _ c.loop-candidate-test.false c.loop-candidate.invariant
