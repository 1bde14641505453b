use Rattle.cp_theory.proofs.Tested.{answered}
use Rattle.cp_theory.proofs.Outside.{outside_is_carried, carried_is_outside, outside_fewer}
use Rattle.cp_theory.proofs.authentication.authentication_test.Goals as goal

pub returns-clause-answered : goal.returns-clause-answered
returns-clause-answered c = answered

pub returns-clause-carried : goal.returns-clause-carried
returns-clause-carried c = outside_is_carried

pub returns-clause-unprotected : goal.returns-clause-unprotected
returns-clause-unprotected c = carried_is_outside

pub returns-clause-fewer : goal.returns-clause-fewer
returns-clause-fewer c = outside_fewer
